use Rattle.std.proofs.Common.{rules, refl, ◌≡◌, ltb}
use Rattle.net.specs.Records.{after_taking, tuple_at}
use Rattle.net.specs.Choice.{choose}
use Rattle.net.proofs.NodeLaws.{taking_none, taking_more, taking_all}
use Rattle.net.proofs.Laws.{branches}
use Rattle.net.proofs.node.Node.without_tuple.Goals as goal
use Rattle.net.proofs.node.Node.without_tuple.Goals.{then-j-i, else-j-i+then-j-lt15, else-j-i+else-j-lt15}

pub loop-j-init : goal.loop-j-init
loop-j-init c = taking_none c.args.self c.args.i _ (search rules)

pub loop-j-preserved : goal.loop-j-preserved
unfolding after_taking tuple_at
loop-j-preserved c =
    taking_more c.args.self c.args.i c.loop-j.node c.loop-j.j _ c.loop-j.invariant (search rules)
    (elim c.if-j-i.branch [
      | then-j-i w ↦ search (rules, branches)
      | else-j-i+then-j-lt15 w ↦ search (rules, branches)
      | else-j-i+else-j-lt15 w ↦ search (rules, branches)
    ])

pub returns : goal.returns
returns c = taking_all c.args.self c.args.i c.loop-j.node c.loop-j.j c.loop-j.invariant c.loop-j-test.false
