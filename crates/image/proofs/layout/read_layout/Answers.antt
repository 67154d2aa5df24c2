use Rattle.std.proofs.Common.{Err}
use borrow.Author.Rules.{rules}
use mathlib.Core.Path.{◌≡◌, ◌∙◌}
use Rattle.bitreader.proofs.ReadsLaws.{reading, reads_then, reads_stop_next}
use Rattle.image.specs.Image.{layout}
use Rattle.image.proofs.ImageLaws.{not_placed}
use Rattle.image.proofs.LayoutLaws.{begun}
use Rattle.image.proofs.layout.read_layout.Goals as goal

pub returns-in_err-read_header-clause-reads : goal.returns-in_err-read_header-clause-reads
unfolding layout
returns-in_err-read_header-clause-reads c = search (rules, reading, not_placed) depth 12

pub returns-in_err-read_rows-clause-reads : goal.returns-in_err-read_rows-clause-reads
unfolding layout
returns-in_err-read_rows-clause-reads c = search (rules, reading, not_placed) depth 12

pub returns-in_err-read_processes-clause-reads : goal.returns-in_err-read_processes-clause-reads
unfolding layout
returns-in_err-read_processes-clause-reads c = search (rules, reading, not_placed) depth 12

pub returns-in_err-read_tuples-clause-reads : goal.returns-in_err-read_tuples-clause-reads
unfolding layout
returns-in_err-read_tuples-clause-reads c = search (rules, reading, not_placed) depth 12

pub returns-in_err-read_code-clause-reads : goal.returns-in_err-read_code-clause-reads
unfolding layout
returns-in_err-read_code-clause-reads c = search (rules, reading, not_placed) depth 12

pub returns-in_err-ending-clause-reads : goal.returns-in_err-ending-clause-reads
unfolding layout
returns-in_err-ending-clause-reads c =
    let e : c.from_residual-in_err-ending.result ≡ Err c.in_err-ending.field-0.0 = search rules in
    not_placed _ _ _ _ _ _ e
    (reads_then _ _ _ _ _ _ _ c.in_ok-read_header.ensures.reads
    (reads_then _ _ _ _ _ _ _ c.in_ok-read_rows.ensures.reads
    (reads_then _ _ _ _ _ _ _ c.in_ok-read_processes.ensures.reads
    (reads_then _ _ _ _ _ _ _ c.in_ok-read_tuples.ensures.reads
    (reads_then _ _ _ _ _ _ _ c.in_ok-read_code.ensures.reads (reads_stop_next _ _ _ _ _ c.in_err-ending.ensures))))))

pub returns-clause-reads : goal.returns-clause-reads
unfolding layout
returns-clause-reads c = search (rules, reading) depth 12

pub returns-clause-begun : goal.returns-clause-begun
returns-clause-begun c =
    rw c.place-starts.ensures
    (begun _ _ _ _ _ _ c.requires.first c.in_ok-read_header.ensures.reads c.in_ok-read_rows.ensures.reads
    (c.read_code.ensures.kept.addresses ∙ c.read_tuples.ensures.kept.addresses ∙ c.read_processes.ensures.kept.addresses ∙
    c.read_rows.ensures.kept.addresses))
