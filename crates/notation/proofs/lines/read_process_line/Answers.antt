use Rattle.std.proofs.Common.{◌∙◌}
use Rattle.net.specs.Records.{node_at}
use Rattle.processes.proofs.Keeping.{keeps_next, keeps_next_fault, keeps_via, keeps_via_fault, keeps_pure}
use Rattle.notation.specs.Lines.{process_line}
use Rattle.notation.proofs.LineLaws.{asked, process_lined}
use Rattle.notation.proofs.lines.read_process_line.Goals as goal

pub returns-in_err-require : goal.returns-in_err-require
unfolding process_line node_at
returns-in_err-require c ls h =
    keeps_next_fault _ _ _ _ _ _ _ (asked _ _ _ 4 _ (c.process_count-k.ensures.0 ∙ (h.at c.args.a c.requires.below).processes) c.in_err-require.ensures.read)
    c.from_residual.ensures.1

pub returns-in_err-start : goal.returns-in_err-start
unfolding process_line node_at
returns-in_err-start c ls h =
    keeps_next _ _ _ _ _ _ _ _ (asked _ _ _ 4 _ (c.process_count-k.ensures.0 ∙ (h.at c.args.a c.requires.below).processes) c.in_ok-require.ensures.read)
    (keeps_via_fault _ _ _ _ _ _ _ _ c.in_err-start.ensures.read c.from_residual-in_err-start.ensures.1)

pub returns-in_err-byte : goal.returns-in_err-byte
unfolding process_line node_at
returns-in_err-byte c ls h =
    keeps_next _ _ _ _ _ _ _ _ (asked _ _ _ 4 _ (c.process_count-k.ensures.0 ∙ (h.at c.args.a c.requires.below).processes) c.in_ok-require.ensures.read)
    (keeps_via _ _ _ _ _ _ _ _ _ c.in_ok-start.ensures.read
    (λ x s. keeps_next_fault _ _ _ _ _ _ _ c.in_err-byte.ensures c.from_residual-in_err-byte.ensures.1))

pub returns : goal.returns
unfolding process_line node_at
returns c ls h =
    keeps_next _ _ _ _ _ _ _ _ (asked _ _ _ 4 _ (c.process_count-k.ensures.0 ∙ (h.at c.args.a c.requires.below).processes) c.in_ok-require.ensures.read)
    (keeps_via _ _ _ _ _ _ _ _ _ c.in_ok-start.ensures.read
    (λ x s. keeps_next _ _ _ _ _ _ _ _ c.in_ok-byte.ensures
    (keeps_pure _ _ _ _
    (process_lined c.args.lines.now c.start.new.self c.read_process.new.code c.args.a c.process_count-k.result c.in_ok-start.start x s c.process_count-k.ensures.0
    c.start.ensures.code c.start.ensures.starts c.start.ensures.net c.start.ensures.bodies c.start.ensures.defs c.start.ensures.twice))))
