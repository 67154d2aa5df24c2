-- A node as an image starts it (`node_starts` of `specs/Fresh.antt`): its first slots are the busy ones, and its variables are
-- all unset. Assumes nothing.
use Prim.Native.Nat.{ℕ, ◌<◌}
use mathlib.Core.Path.{◌≡◌, refl, ap}
use mathlib.Core.Bool.{Bool, true, false, not, beq}
use lib.Dec.{ltb}
use Rattle.net.specs.Choice.{choose, both, all, fold}
use Rattle.net.specs.Records.{unset_variable, free_process, starting_at, zero_node, variable_at, process_at, process_count}
use Rattle.net.specs.declared.locality.Place.{Place}
use Rattle.net.proofs.Laws.{both_i, all_i}
use Rattle.sound.specs.Soundness.{is_unset, all_unset}
use Rattle.fresh.specs.Types.{Locality, Node}
use Rattle.fresh.specs.Fresh.{slot_starts, node_starts}

as_tested : (b busy : Bool) → busy ≡ b → choose b busy (not busy) ≡ true
unfolding choose
as_tested true busy e = e
as_tested false busy e = ap not e

pub node_starts_law :
    (x : Node) → ((i : ℕ) → i < 4 → (process_at x i).busy ≡ ltb i (process_count x))
    → ((i : ℕ) → i < 4 → all_unset (process_at x i) ≡ true) → node_starts x ≡ true
unfolding node_starts slot_starts
node_starts_law x busy unset = all_i 4 _ (λ i h. both_i _ _ (as_tested (ltb i (process_count x)) _ (busy i h)) (unset i h))

-- ---- processes whose variables are unset
pub free_unset : all_unset free_process ≡ true
unfolding all_unset variable_at free_process unset_variable is_unset all both
free_unset = refl

pub starting_unset : (a : Locality) (p : Place) → all_unset (starting_at a p) ≡ true
unfolding all_unset variable_at starting_at unset_variable is_unset all both
starting_unset a p = refl

pub zero_node_starts : node_starts zero_node ≡ true
unfolding node_starts slot_starts zero_node process_at process_count all_unset variable_at free_process unset_variable is_unset fold choose all both
zero_node_starts = refl

-- two truth values that are equal, as a choice
pub same_choice : (a b : Bool) → beq a b ≡ choose a b (not b)
unfolding choose
same_choice true true = refl
same_choice true false = refl
same_choice false true = refl
same_choice false false = refl
