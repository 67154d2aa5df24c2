-- The chain judges each tuple. Assumes nothing.
use Rattle.std.proofs.Common.{rules, tests, ltb, eqb, not, arith}
use Rattle.std.proofs.lemmas.Iterator.{YieldsList-from_slice}
use Rattle.net.specs.Choice.{implies}
use Rattle.net.specs.Records.{tuple_at}
use Rattle.fresh.specs.Fresh.{own_mark, own_marks}
use Rattle.net.proofs.AllLaws.{conditions}
use Rattle.net.proofs.AllOver.{all_numbered}
use Rattle.fresh.proofs.freshness.own_marks.Goals as goal

pub returns : goal.returns
unfolding own_marks own_mark tuple_at
returns c =
    all_numbered _ 16 (λ i t. implies (ltb i c.args.x.now.stored) (eqb t.mark.0 c.args.a)) _ _ c.all.result c.all.ensures.ran
    (YieldsList-from_slice c.args.x.now.tuples cc) (cc) (λ x b q k. search (rules, tests, conditions)) (omega arith)
