use Rattle.std.proofs.Common.{◌≡◌}
use Rattle.net.proofs.NodeLaws.{Taking}
use Rattle.net.proofs.node.Node.without_tuple.Given as goal

abbrev pub invariant-loop-j : goal.invariant-loop-j
invariant-loop-j l = Taking l.fn.self l.i l.node l.j
