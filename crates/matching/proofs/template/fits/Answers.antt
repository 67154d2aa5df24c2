use Rattle.std.proofs.Common.{rules, arith, sym}
use borrow.Author.Tests.{eq-eqb, ne_eqb}
use Rattle.net.specs.Records.{field_at}
use Rattle.net.proofs.AllLaws.{all_none, all_still, all_end, unmet, met, when_not_lt}
use Rattle.net.proofs.Laws.{all_fails, both_i, both_false_l, both_false_r}
use Rattle.matching.specs.Matching.{fits_of, want_at}
use Rattle.matching.proofs.template.fits.Goals as goal
use Rattle.matching.proofs.template.fits.Goals.{else-i-e-via-then-i-e+else-not-fits_field, else-i-e-via-else-i-e}

pub returns-then-t-e : goal.returns-then-t-e
unfolding fits_of
returns-then-t-e c = both_false_l _ _ (ne_eqb _ _ c.if-t-e.true)

pub loop-i-init : goal.loop-i-init
loop-i-init c = search (rules, all_none)

pub returns-then-not-fits_field : goal.returns-then-not-fits_field
unfolding fits_of field_at want_at
returns-then-not-fits_field c =
    both_false_r _ _ (eq-eqb _ _ c.if-t-e.false) (sym (all_fails 4 _ c.loop-i.i c.loop-i-test.true (search (rules, unmet))))

pub loop-i-preserved : goal.loop-i-preserved
unfolding field_at want_at
loop-i-preserved c =
    all_still c.loop-i.i _ c.loop-i.invariant
    (elim c.else-i-e.branch [
      | else-i-e-via-then-i-e+else-not-fits_field w ↦ search (rules, met)
      | else-i-e-via-else-i-e w ↦ search (rules, when_not_lt)
    ])

pub returns : goal.returns
unfolding fits_of
returns c =
    sym
    (both_i _ _ (eq-eqb _ _ c.if-t-e.false)
    (sym (all_end c.loop-i.i 4 _ _ c.loop-i.invariant (omega arith) c.loop-i-test.false)))
