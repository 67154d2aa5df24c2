use Rattle.std.proofs.Common.{rules, arith, sym, ◌∙◌}
use Rattle.net.specs.Records.{process_at}
use Rattle.net.proofs.AllLaws.{all_none, all_still, all_end}
use Rattle.net.proofs.Laws.{all_fails}
use Rattle.keeping.specs.Admission.{admits_node}
use Rattle.keeping.proofs.admission.admits_node.Goals as goal

pub loop-i-init : goal.loop-i-init
loop-i-init c = search (rules, all_none)

pub returns-then-not-admits_process : goal.returns-then-not-admits_process
unfolding admits_node process_at
returns-then-not-admits_process c =
    all_fails 4 _ c.loop-i.i c.loop-i-test.true (sym c.admits_process.ensures ∙ c.if-not-admits_process.true)

pub loop-i-preserved : goal.loop-i-preserved
unfolding process_at
loop-i-preserved c = all_still c.loop-i.i _ c.loop-i.invariant (sym c.if-not-admits_process.false ∙ c.admits_process.ensures)

pub returns : goal.returns
unfolding admits_node
returns c = all_end c.loop-i.i 4 _ _ c.loop-i.invariant (omega arith) c.loop-i-test.false
