-- The chain answers what `unused_barred` says of each origin. Assumes nothing.
use Rattle.std.proofs.Common.{rules, tests, leb, arith}
use Rattle.std.proofs.lemmas.Iterator.{YieldsList-from_slice}
use Rattle.net.specs.Choice.{implies}
use Rattle.net.specs.Records.{row_at}
use Rattle.sound.specs.Soundness.{is_zero_row, unused_barred}
use Rattle.net.proofs.AllLaws.{conditions}
use Rattle.net.proofs.AllOver.{all_numbered}
use Rattle.sound.proofs.rows.unused_barred.Goals as goal

pub returns : goal.returns
unfolding unused_barred row_at
returns c =
    all_numbered _ 16 (λ o r. implies (leb c.args.n o) (is_zero_row r)) _ _ c.all.result c.all.ensures.ran
    (YieldsList-from_slice c.args.node.now.rows cc) (cc) (λ x b q k. search (rules, tests, conditions)) (omega arith)
