-- Assumes nothing.
use Rattle.std.proofs.Common.{rules}
use Rattle.lean.specs.Types.{Node}
use Rattle.lean.specs.Loading.{node_of, slots_of, store_of, policy_of, loaded_slots, loaded_counts, loaded_tuples, loaded_rows}
use Rattle.lean.proofs.loading.load.Goals as goal

pub returns-clause-procs_after : goal.returns-clause-procs_after
unfolding loaded_slots node_of
returns-clause-procs_after c = c.fill.ensures _ slots_of (λ x y p. p)

pub returns-clause-stored_after : goal.returns-clause-stored_after
unfolding loaded_counts node_of
returns-clause-stored_after c = c.fill-2.ensures _ (λ (x : Node). x.stored) (λ x y p. search rules)

pub returns-clause-tuples_after : goal.returns-clause-tuples_after
unfolding loaded_tuples node_of
returns-clause-tuples_after c = c.fill-3.ensures _ store_of (λ x y p. p)

pub returns-clause-rows_after : goal.returns-clause-rows_after
unfolding loaded_rows node_of
returns-clause-rows_after c = c.fill-4.ensures _ policy_of (λ x y p. p)
