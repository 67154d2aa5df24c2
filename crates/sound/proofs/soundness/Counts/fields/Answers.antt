-- The chain judges each field. Assumes nothing.
use Rattle.std.proofs.Common.{rules, tests, ltb, arith}
use Rattle.std.proofs.lemmas.Iterator.{YieldsList-from_slice}
use Rattle.net.specs.Choice.{choose}
use Rattle.net.specs.Records.{field_at}
use Rattle.sound.specs.Soundness.{item_sound, is_zero_item, fields_sound}
use Rattle.net.proofs.AllLaws.{then_both}
use Rattle.net.proofs.AllOver.{all_numbered}
use Rattle.sound.proofs.soundness.Counts.fields.Goals as goal

pub returns-then-is_in_range : goal.returns-then-is_in_range
unfolding fields_sound field_at choose
returns-then-is_in_range c =
    then_both _ _ _ (cc)
    (all_numbered _ 4 (λ i f. choose (ltb i c.args.t.now.count) (item_sound c.args.self.addresses f.item) (is_zero_item f.item)) _ _ c.all.result c.all.ensures.ran
    (YieldsList-from_slice c.args.t.now.fields cc) (cc) (λ x b q k. search (rules, tests)) (omega arith))
