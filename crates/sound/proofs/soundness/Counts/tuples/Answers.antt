-- The chain judges each tuple. Assumes nothing.
use Rattle.std.proofs.Common.{rules, tests, ltb, arith}
use Rattle.std.proofs.lemmas.Iterator.{YieldsList-from_slice}
use Rattle.net.specs.Choice.{choose}
use Rattle.net.specs.Records.{tuple_at}
use Rattle.sound.specs.Soundness.{tuple_sound, is_zero_tuple, tuples_sound}
use Rattle.net.proofs.AllLaws.{then_both}
use Rattle.net.proofs.AllOver.{all_numbered}
use Rattle.sound.proofs.soundness.Counts.tuples.Goals as goal

pub returns-then-node-le16 : goal.returns-then-node-le16
unfolding tuples_sound tuple_at choose
returns-then-node-le16 c =
    then_both _ _ _ (search (rules, tests))
    (all_numbered _ 16 (λ i t. choose (ltb i c.args.node.now.stored) (tuple_sound c.args.self.addresses t) (is_zero_tuple t)) _ _ c.all.result c.all.ensures.ran
    (YieldsList-from_slice c.args.node.now.tuples cc) (cc) (λ x b q k. search (rules, tests)) (omega arith))
