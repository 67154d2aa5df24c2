-- A net that a program holds fits, so that the three tests answer all of `fresh_of`. Assumes nothing.
use Rattle.std.proofs.Common.{rules, tests}
use Rattle.net.specs.Choice.{both}
use Rattle.net.proofs.AllLaws.{then_both}
use Rattle.fresh.proofs.NetTypes.{held_fits}
use Rattle.fresh.proofs.FreshLaws.{fresh_tested}
use Rattle.fresh.proofs.freshness.is_fresh.Goals as goal

pub returns-then-nodes_start : goal.returns-then-nodes_start
returns-then-nodes_start c =
    fresh_tested _ _ (held_fits _ _ c.well_formed.0)
    (then_both _ _ _ (search rules) (then_both _ _ _ (search rules) c.admitted.ensures))

pub returns-else-nodes_start : goal.returns-else-nodes_start
unfolding both
returns-else-nodes_start c = fresh_tested _ _ (held_fits _ _ c.well_formed.0) (search (rules, tests))
