-- The chain judges each variable of a busy process. Assumes nothing.
use Rattle.std.proofs.Common.{rules, tests, arith}
use Rattle.std.proofs.lemmas.Iterator.{YieldsList-from_slice}
use Rattle.net.specs.Records.{variable_at}
use Rattle.sound.specs.Soundness.{value_sound, process_sound}
use Rattle.net.proofs.AllLaws.{then_both, then_choose}
use Rattle.net.proofs.AllOver.{all_of}
use Rattle.sound.proofs.soundness.Counts.process.Goals as goal

pub returns-then-uses : goal.returns-then-uses
unfolding process_sound variable_at
returns-then-uses c =
    then_choose _ _ _ _ (search (rules, tests)) (then_both _ _ _ (search (rules, tests)) (then_both _ _ _ (search (rules, tests))
    (all_of _ 8 (λ x. value_sound c.args.self.addresses x.value) _ _ c.all.result c.all.ensures.ran
    (YieldsList-from_slice c.args.p.now.variables cc) (λ x b q k. search (rules, tests)) (omega arith))))
