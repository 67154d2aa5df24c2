-- The chain judges each row. Assumes nothing.
use Rattle.std.proofs.Common.{rules, tests, arith}
use Rattle.std.proofs.lemmas.Iterator.{YieldsList-from_slice}
use Rattle.net.specs.Records.{row_at}
use Rattle.sound.specs.Soundness.{row_sound}
use Rattle.net.proofs.AllOver.{all_of}
use Rattle.sound.proofs.rows.each_sound.Goals as goal

pub returns : goal.returns
unfolding row_at
returns c =
    all_of _ 16 (row_sound c.args.n) _ _ c.all.result c.all.ensures.ran
    (YieldsList-from_slice c.args.node.now.rows cc) (λ x b q k. search (rules, tests)) (omega arith)
