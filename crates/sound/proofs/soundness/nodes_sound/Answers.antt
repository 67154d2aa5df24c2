-- The chain judges each node. Assumes nothing.
use Rattle.std.proofs.Common.{rules, tests, ltb, arith}
use Rattle.std.proofs.lemmas.Iterator.{YieldsList-from_slice}
use Rattle.net.specs.Choice.{choose}
use Rattle.net.specs.Records.{node_at}
use Rattle.sound.specs.Soundness.{node_sound, is_zero_node, nodes_sound}
use Rattle.net.proofs.AllOver.{all_numbered}
use Rattle.sound.proofs.soundness.nodes_sound.Goals as goal

pub returns : goal.returns
unfolding nodes_sound node_at choose
returns c =
    all_numbered _ 16 (λ a x. choose (ltb a c.args.net.now.addresses) (node_sound c.args.net.now.format c.args.net.now.addresses c.args.net.now.length x) (is_zero_node x)) _ _ c.all.result c.all.ensures.ran
    (YieldsList-from_slice c.args.net.now.nodes cc) (cc) (λ x b q k. search (rules, tests)) (omega arith)
