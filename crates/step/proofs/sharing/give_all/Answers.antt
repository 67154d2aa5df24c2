use Rattle.std.proofs.Common.{rules}
use Rattle.step.specs.Sharing.{node_in}
use Rattle.step.proofs.SharingLaws.{given_none, given_more, given_all}
use Rattle.step.proofs.sharing.give_all.Goals as goal

pub loop-l-init : goal.loop-l-init
loop-l-init c = search (rules, given_none)

pub loop-l-preserved : goal.loop-l-preserved
unfolding node_in
loop-l-preserved c = search (rules, given_more)

pub returns : goal.returns
returns c = search (rules, given_all)
