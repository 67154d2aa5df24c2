use Rattle.std.proofs.Common.{◌∙◌}
use Rattle.net.specs.Records.{node_at}
use Rattle.processes.proofs.Keeping.{keeps_then, keeps_next, keeps_next_fault, keeps_fault, keeps_pure}
use Rattle.notation.specs.Lines.{tuple_line}
use Rattle.notation.proofs.LineLaws.{asked, tuple_lined}
use Rattle.notation.proofs.lines.read_tuple_line.Goals as goal

pub returns-in_err-require : goal.returns-in_err-require
unfolding tuple_line node_at
returns-in_err-require c ls h = keeps_next_fault _ _ _ _ _ _ _ (asked _ _ _ 16 _ (h.at c.args.a c.requires.below).stored c.in_err-require.ensures.read) c.from_residual.ensures.1

pub returns-in_err-tuple : goal.returns-in_err-tuple
unfolding tuple_line node_at
returns-in_err-tuple c ls h =
    keeps_next _ _ _ _ _ _ _ _ (asked _ _ _ 16 _ (h.at c.args.a c.requires.below).stored c.in_ok-require.ensures.read)
    (keeps_fault _ _ _ _ _ _ _ c.in_err-tuple.ensures c.from_residual-in_err-tuple.ensures.1)

pub returns-in_err-byte : goal.returns-in_err-byte
unfolding tuple_line node_at
returns-in_err-byte c ls h =
    keeps_next _ _ _ _ _ _ _ _ (asked _ _ _ 16 _ (h.at c.args.a c.requires.below).stored c.in_ok-require.ensures.read)
    (keeps_then _ _ _ _ _ _ _ _ c.in_ok-tuple.ensures
    (keeps_next_fault _ _ _ _ _ _ _ c.in_err-byte.ensures c.from_residual-in_err-byte.ensures.1))

pub returns : goal.returns
unfolding tuple_line node_at
returns c ls h =
    keeps_next _ _ _ _ _ _ _ _ (asked _ _ _ 16 _ (h.at c.args.a c.requires.below).stored c.in_ok-require.ensures.read)
    (keeps_then _ _ _ _ _ _ _ _ c.in_ok-tuple.ensures
    (keeps_next _ _ _ _ _ _ _ _ c.in_ok-byte.ensures
    (keeps_pure _ _ _ _
    (tuple_lined c.args.lines.now c.add.new.self c.args.a c.in_ok-tuple.tuple c.args.lines.now.code.small c.add.ensures.net c.add.ensures.starts c.add.ensures.code
    c.add.ensures.bodies c.add.ensures.defs c.add.ensures.twice))))
