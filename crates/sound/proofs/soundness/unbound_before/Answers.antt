-- The chain judges each field. Assumes nothing.
use Rattle.std.proofs.Common.{rules, tests, ltb, arith}
use Rattle.std.proofs.lemmas.Iterator.{YieldsList-from_slice}
use Rattle.net.specs.Choice.{implies}
use Rattle.net.specs.Records.{pattern_at}
use Rattle.sound.specs.Soundness.{binds_not, unbound_before}
use Rattle.net.proofs.AllLaws.{conditions}
use Rattle.net.proofs.AllOver.{all_numbered}
use Rattle.sound.proofs.soundness.unbound_before.Goals as goal

pub returns : goal.returns
unfolding unbound_before pattern_at
returns c =
    all_numbered _ 4 (λ j f. implies (ltb j c.args.i) (binds_not c.args.v f.pattern)) _ _ c.all.result c.all.ensures.ran
    (YieldsList-from_slice c.args.c.template cc) (cc) (λ x b q k. search (rules, tests, conditions)) (omega arith)
