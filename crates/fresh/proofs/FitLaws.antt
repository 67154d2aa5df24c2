-- What passes the tests of fit (`specs/Fresh.antt`): arrays of records that pass, an instruction with another action that
-- passes, and the zero records. Assumes nothing.
use Prim.Native.Nat.{ℕ}
use mathlib.Core.Path.{◌≡◌, refl}
use mathlib.Core.Bool.{Bool, true}
use mathlib.Core.List.{List}
use lib.ListN.{length, get_or}
use lib.Dec.{eqb}
use borrow.Author.Tests.{eq-eqb}
use Rattle.net.specs.Choice.{both, all}
use Rattle.net.specs.Records.{zero_field, zero_tuple, free_process, alike, zero_row, zero_node, zero_template_field, zero_instruction}
use Rattle.net.specs.Records.{field_at, row_at, process_at, tuple_at, pattern_at, node_at, instruction_at, with_action}
use Rattle.net.proofs.Laws.{both_i, both_r, all_i}
use Rattle.net.proofs.Every.{Every}
use Rattle.net.proofs.Past.{past_node, past_instruction}
use Rattle.fresh.specs.Types.{Action, Instruction, Net}
use Rattle.fresh.specs.Fresh.{reading_fits, item_fits, pattern_fits, tuple_fits, process_fits, row_fits, node_fits, action_fits}
use Rattle.fresh.specs.Fresh.{instruction_fits, net_fits}

pub array_fits :
    {A : Type 0} {d : A} {size : ℕ} {xs : List A} (test : A → Bool) → Every (λ i x. test x ≡ true) d size xs
    → both (eqb (length xs) size) (all size (λ i. test (get_or xs i d))) ≡ true
array_fits {size} test e = both_i _ _ (eq-eqb _ _ e.size_is) (all_i size _ e.holds)

pub net_fits_law :
    (s : Net) → Every (λ a x. node_fits x ≡ true) past_node 16 s.nodes
    → Every (λ p c. instruction_fits c ≡ true) past_instruction 512 s.code → net_fits s ≡ true
unfolding net_fits node_at instruction_at
net_fits_law s nodes code = both_i _ _ (array_fits node_fits nodes) (array_fits instruction_fits code)

pub action_fits_law :
    (c : Instruction) (a : Action) → action_fits a ≡ true → instruction_fits c ≡ true → instruction_fits (with_action c a) ≡ true
unfolding instruction_fits pattern_at with_action
action_fits_law c a e h = both_i _ _ e (both_r (action_fits c.action) _ h)

-- ---- the zero records
pub zero_node_fits : node_fits zero_node ≡ true
unfolding node_fits zero_node alike zero_row row_at process_at tuple_at free_process zero_tuple row_fits process_fits tuple_fits field_at zero_field item_fits reading_fits all both
zero_node_fits = refl

pub zero_instruction_fits : instruction_fits zero_instruction ≡ true
unfolding instruction_fits action_fits zero_instruction pattern_at zero_template_field pattern_fits reading_fits all both
zero_instruction_fits = refl
