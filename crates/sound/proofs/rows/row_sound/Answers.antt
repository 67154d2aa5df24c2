-- The chain answers what `row_sound` says of each address. Assumes nothing.
use Rattle.std.proofs.Common.{rules, tests, leb, arith}
use Rattle.std.proofs.lemmas.Iterator.{YieldsList-from_slice}
use Rattle.net.specs.Choice.{implies}
use Rattle.net.specs.Records.{rights_at}
use Rattle.sound.specs.Soundness.{is_none, row_sound}
use Rattle.net.proofs.AllLaws.{conditions}
use Rattle.net.proofs.AllOver.{all_numbered}
use Rattle.sound.proofs.rows.row_sound.Goals as goal

pub returns : goal.returns
unfolding row_sound rights_at
returns c =
    all_numbered _ 16 (λ l r. implies (leb c.args.n l) (is_none r)) _ _ c.all.result c.all.ensures.ran
    (YieldsList-from_slice c.args.row.now.rights cc) (cc) (λ x b q k. search (rules, tests, conditions)) (omega arith)
