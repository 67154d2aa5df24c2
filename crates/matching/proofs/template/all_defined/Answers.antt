use Rattle.std.proofs.Common.{rules, arith}
use Rattle.net.specs.Records.{pattern_at}
use Rattle.net.proofs.AllLaws.{all_none, all_still, unmet, met, when_not_lt}
use Rattle.net.proofs.Laws.{all_fails}
use Rattle.matching.proofs.template.all_defined.Goals as goal
use Rattle.matching.proofs.template.all_defined.Goals.{else-i-c-via-then-i-c+else-not-defined_field, else-i-c-via-else-i-c}

pub loop-i-init : goal.loop-i-init
loop-i-init c = search (rules, all_none)

pub returns-then-not-defined_field : goal.returns-then-not-defined_field
unfolding pattern_at
returns-then-not-defined_field c = all_fails 4 _ c.loop-i.i (omega arith) (search (rules, unmet))

pub loop-i-preserved : goal.loop-i-preserved
unfolding pattern_at
loop-i-preserved c =
    all_still c.loop-i.i _ c.loop-i.invariant
    (elim c.else-i-c.branch [
      | else-i-c-via-then-i-c+else-not-defined_field w ↦ search (rules, met)
      | else-i-c-via-else-i-c w ↦ search (rules, when_not_lt)
    ])
