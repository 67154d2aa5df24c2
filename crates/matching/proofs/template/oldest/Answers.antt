use Rattle.std.proofs.Common.{rules, arith, refl, sym, ◌∙◌, true, false}
use borrow.Author.Tests.{lt-ltb, le-ltb}
use Rattle.net.specs.Records.{tuple_at}
use Rattle.net.proofs.FirstLaws.{first_start, first_again, first_here, first_none}
use Rattle.net.proofs.Laws.{both_i, both_false_l, both_false_r}
use Rattle.matching.specs.Matching.{oldest_of}
use Rattle.matching.proofs.template.oldest.Goals as goal
use Rattle.matching.proofs.template.oldest.Goals.{else-i-n-via-then-i-n+else-fits, else-i-n-via-else-i-n}

pub loop-i-init : goal.loop-i-init
loop-i-init c = search (rules, first_start)

pub returns-then-fits-clause-value : goal.returns-then-fits-clause-value
unfolding oldest_of tuple_at
returns-then-fits-clause-value c =
    first_here 16 _ _ _ c.loop-i.i true _ c.loop-i.invariant c.loop-i-test.true
    (sym (both_i _ _ (lt-ltb _ _ c.if-i-n.true) (sym c.fits.ensures ∙ c.if-fits.true))) refl refl

pub loop-i-preserved : goal.loop-i-preserved
unfolding tuple_at
loop-i-preserved c =
    first_again 16 _ _ _ c.loop-i.i false c.loop-i.invariant c.loop-i-test.true
    (elim c.else-i-n.branch [
      | else-i-n-via-then-i-n+else-fits w ↦ both_false_r _ _ (lt-ltb _ _ w.if-i-n.true) (sym w.fits.ensures ∙ w.if-fits.false)
      | else-i-n-via-else-i-n w ↦ both_false_l _ _ (le-ltb _ _ w.if-i-n.false)
    ])
    refl

pub returns-clause-value : goal.returns-clause-value
unfolding oldest_of
returns-clause-value c = search (rules, first_none)
