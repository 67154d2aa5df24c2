-- The chain judges each node. Assumes nothing.
use Rattle.std.proofs.Common.{rules, tests, ltb, eqb, not, arith}
use Rattle.std.proofs.lemmas.Iterator.{YieldsList-from_slice}
use Rattle.net.specs.Choice.{both}
use Rattle.net.specs.Records.{node_at, address_of}
use Rattle.fresh.specs.Fresh.{node_starts, own_origins, own_marks, starts_at}
use Rattle.net.proofs.AllOver.{all_numbered}
use Rattle.fresh.proofs.freshness.nodes_start.Goals as goal

pub returns : goal.returns
unfolding starts_at node_at
returns c =
    all_numbered _ 16
    (λ a x. both (node_starts x) (both (own_origins (address_of a) x) (own_marks (address_of a) x))) _ _
    c.all.result c.all.ensures.ran
    (YieldsList-from_slice c.args.net.now.nodes cc) (cc) (λ x b q k. search (rules, tests)) (omega arith)
