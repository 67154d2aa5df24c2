-- The three chains judge each row, process and tuple. Assumes nothing.
use Rattle.std.proofs.Common.{rules, tests, arith}
use Rattle.std.proofs.lemmas.Iterator.{YieldsList-from_slice}
use Rattle.net.specs.Records.{row_at, process_at, tuple_at}
use Rattle.sound.specs.Soundness.{is_zero_row, no_rows, is_free, is_zero_tuple, is_zero_node}
use Rattle.net.proofs.AllLaws.{and_both}
use Rattle.net.proofs.AllOver.{all_of}
use Rattle.sound.proofs.zeros.is_zero_node.Goals as goal

pub returns : goal.returns
unfolding is_zero_node no_rows row_at process_at tuple_at
returns c =
    and_both _ _ _ _
    (all_of _ 16 is_zero_row _ _ c.all-barred.result c.all-barred.ensures.ran
    (YieldsList-from_slice c.args.node.now.rows cc) (λ x b q k. search (rules, tests)) (omega arith))
    (and_both _ _ _ _
    (all_of _ 4 is_free _ _ c.all-free.result c.all-free.ensures.ran
    (YieldsList-from_slice c.args.node.now.processes cc) (λ x b q k. search (rules, tests)) (omega arith))
    (and_both _ _ _ _ (search rules)
    (all_of _ 16 is_zero_tuple _ _ c.all-bare.result c.all-bare.ensures.ran
    (YieldsList-from_slice c.args.node.now.tuples cc) (λ x b q k. search (rules, tests)) (omega arith))))
