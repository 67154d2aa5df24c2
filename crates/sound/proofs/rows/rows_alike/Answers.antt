-- The chain compares each row with the first. Assumes nothing.
use Rattle.std.proofs.Common.{rules, tests, arith}
use Rattle.std.proofs.lemmas.Iterator.{YieldsList-from_slice}
use Rattle.net.specs.Records.{row_at}
use Rattle.sound.specs.Soundness.{same_row, rows_alike}
use Rattle.net.proofs.AllOver.{all_of}
use Rattle.std.proofs.Common.{get_or, [], false}
use Rattle.sound.proofs.rows.rows_alike.Goals as goal

pub returns : goal.returns
unfolding rows_alike row_at
returns c =
    all_of _ 16 (λ r. same_row r (get_or c.args.node.now.rows 0 (record { create = false; rights = [] }))) _ _ c.all.result c.all.ensures.ran
    (YieldsList-from_slice c.args.node.now.rows cc) (λ x b q k. search (rules, tests)) (omega arith)
