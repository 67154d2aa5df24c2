-- The chain judges each variable. Assumes nothing.
use Rattle.std.proofs.Common.{rules, tests, arith}
use Rattle.std.proofs.lemmas.Iterator.{YieldsList-from_slice}
use Rattle.net.specs.Records.{variable_at}
use Rattle.sound.specs.Soundness.{is_unset, all_unset}
use Rattle.net.proofs.AllOver.{all_of}
use Rattle.sound.proofs.soundness.all_unset.Goals as goal

pub returns : goal.returns
unfolding all_unset variable_at is_unset
returns c =
    all_of _ 8 (λ x. is_unset x.value) _ _ c.all.result c.all.ensures.ran
    (YieldsList-from_slice c.args.p.variables cc) (λ x b q k. search (rules, tests)) (omega arith)
