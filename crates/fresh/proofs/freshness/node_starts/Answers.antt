-- The chain judges each slot. Assumes nothing.
use Rattle.std.proofs.Common.{rules, tests, ltb, eqb, not, arith}
use Rattle.std.proofs.lemmas.Iterator.{YieldsList-from_slice}
use Rattle.net.specs.Choice.{choose, both}
use Rattle.net.specs.Records.{process_at, process_count}
use Rattle.sound.specs.Soundness.{all_unset}
use Rattle.fresh.specs.Fresh.{slot_starts, node_starts}
use Rattle.net.proofs.AllOver.{all_numbered}
use Rattle.fresh.proofs.freshness.node_starts.Goals as goal

pub returns : goal.returns
unfolding node_starts slot_starts process_at
returns c =
    all_numbered _ 4 (λ i p. both (choose (ltb i (process_count c.args.x.now)) p.busy (not p.busy)) (all_unset p)) _ _
    c.all.result c.all.ensures.ran
    (YieldsList-from_slice c.args.x.now.processes cc) (cc) (λ x b q k. search (rules, tests)) (omega arith)
