use Rattle.std.proofs.Common.{rules, arith}
use Rattle.net.specs.Groups.{all_members}
use Rattle.net.proofs.AllLaws.{all_none, all_still, all_end, kept, broken, idle}
use Rattle.net.proofs.Laws.{all_fails}
use Rattle.keeping.specs.Keeping.{may_put_all}
use Rattle.keeping.proofs.rights.may_put_all.Goals as goal
use Rattle.keeping.proofs.rights.may_put_all.Goals.{else-has-via-then-has+else-not-may_put, else-has-via-else-has}

pub loop-l-init : goal.loop-l-init
loop-l-init c = search (rules, all_none)

pub returns-then-not-may_put : goal.returns-then-not-may_put
unfolding may_put_all all_members
returns-then-not-may_put c =
    all_fails 16 _ c.loop-l.l c.loop-l-test.true
    (broken _ _ _ _ c.has.ensures c.if-has.true c.may_put.ensures c.if-not-may_put.true)

pub loop-l-preserved : goal.loop-l-preserved
loop-l-preserved c =
    all_still c.loop-l.l _ c.loop-l.invariant
    (elim c.else-has.branch [
      | else-has-via-then-has+else-not-may_put w ↦ kept _ _ _ _ c.has.ensures w.if-has.true w.may_put.ensures w.if-not-may_put.false
      | else-has-via-else-has w ↦ idle _ _ _ c.has.ensures w.if-has.false
    ])

pub returns : goal.returns
unfolding may_put_all all_members
returns c = all_end c.loop-l.l 16 _ _ c.loop-l.invariant (omega arith) c.loop-l-test.false
