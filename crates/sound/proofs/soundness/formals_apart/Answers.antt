-- The chain judges each field. Assumes nothing.
use Rattle.std.proofs.Common.{rules, tests, ltb, arith}
use Rattle.std.proofs.lemmas.Iterator.{YieldsList-from_slice}
use Rattle.net.specs.Choice.{implies}
use Rattle.net.specs.Records.{pattern_at}
use Rattle.sound.specs.Soundness.{binds_anew, formals_apart}
use Rattle.net.proofs.AllLaws.{conditions}
use Rattle.net.proofs.AllOver.{all_numbered}
use Rattle.sound.proofs.soundness.formals_apart.Goals as goal

pub returns : goal.returns
unfolding formals_apart pattern_at
returns c =
    all_numbered _ 4 (λ i f. implies (ltb i c.args.c.now.count) (binds_anew c.args.c.now i f.pattern)) _ _ c.all.result c.all.ensures.ran
    (YieldsList-from_slice c.args.c.now.template cc) (cc) (λ x b q k. search (rules, tests, conditions)) (omega arith)
