use Rattle.std.proofs.Common.{rules, arith}
use Rattle.net.specs.Records.{node_at}
use Rattle.net.proofs.AllLaws.{all_none, all_still, all_end, unmet, met, when_not_lt}
use Rattle.net.proofs.Laws.{all_fails}
use Rattle.keeping.specs.Admission.{admits, admits_at}
use Rattle.keeping.proofs.admission.admitted.Goals as goal
use Rattle.keeping.proofs.admission.admitted.Goals.{else-i-net-via-then-i-net+else-not-admits_node, else-i-net-via-else-i-net}

pub loop-i-init : goal.loop-i-init
loop-i-init c = search (rules, all_none)

pub returns-then-not-admits_node : goal.returns-then-not-admits_node
unfolding admits admits_at node_at
returns-then-not-admits_node c =
    all_fails 16 _ c.loop-i.i c.loop-i-test.true
    (unmet _ _ _ _ c.if-i-net.true c.admits_node.ensures c.if-not-admits_node.true)

pub loop-i-preserved : goal.loop-i-preserved
unfolding admits_at node_at
loop-i-preserved c =
    all_still c.loop-i.i _ c.loop-i.invariant
    (elim c.else-i-net.branch [
      | else-i-net-via-then-i-net+else-not-admits_node w ↦ met _ _ _ _ w.if-i-net.true w.admits_node.ensures w.if-not-admits_node.false
      | else-i-net-via-else-i-net w ↦ when_not_lt _ _ _ w.if-i-net.false
    ])

pub returns : goal.returns
unfolding admits
returns c = all_end c.loop-i.i 16 _ _ c.loop-i.invariant (omega arith) c.loop-i-test.false
