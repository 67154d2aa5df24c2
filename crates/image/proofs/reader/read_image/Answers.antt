use mathlib.Core.Path.{sym, ap, ◌∙◌}
use Rattle.image.specs.Image.{beyond_row, accepted}
use Rattle.image.proofs.LayoutLaws.{opened_whole, opened_refused, opened_not}
use Rattle.image.proofs.reader.read_image.Goals as goal

pub returns-in-Err : goal.returns-in-Err
returns-in-Err c =
    opened_refused _ _ _ c.new-reader.ensures.first c.new-reader.ensures.bytes _ _ c.in-Err.ensures.reads c.refuse.ensures

pub returns-then-not-admitted : goal.returns-then-not-admitted
returns-then-not-admitted c =
    let first = c.new-reader.ensures.bytes in
    let same = c.back_to.ensures.1 ∙ c.read_layout.ensures.reads.same in
    opened_not _ _ _ c.new-reader.ensures.first first _ _ _ c.in-Ok.ensures.reads (sym c.admitted.ensures ∙ c.if-not-admitted.true)
    (c.beyond_row.ensures ∙ ap (λ i. beyond_row i.now c.read_layout.new.net) same ∙ ap (λ s. beyond_row s c.read_layout.new.net) first)
    c.refuse-then-not-admitted.ensures

pub returns : goal.returns
unfolding accepted
returns c =
    opened_whole _ _ _ c.new-reader.ensures.first c.new-reader.ensures.bytes _ c.in-Ok.ensures.reads
    (sym c.admitted.ensures ∙ c.if-not-admitted.false)
