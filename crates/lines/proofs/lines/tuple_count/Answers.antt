use Rattle.std.proofs.Common.{rules, arith}
use Rattle.net.specs.Records.{node_at}
use Rattle.lines.proofs.LineLaws.{tuples_none, tuples_more, tuples_all}
use Rattle.lines.proofs.lines.tuple_count.Goals as goal

pub loop-i-init : goal.loop-i-init
loop-i-init c = (tuples_none _, omega arith)

pub loop-i-preserved : goal.loop-i-preserved
unfolding node_at
loop-i-preserved c = search (rules, tuples_more)

pub returns : goal.returns
returns c = search (rules, tuples_all)
