-- Laws of the fresh test (`specs/Fresh.antt`). Assumes nothing.
use Prim.Native.Nat.{ℕ}
use mathlib.Core.Path.{◌≡◌, sym, ◌∙◌}
use mathlib.Core.Bool.{Bool, true, not}
use lib.Dec.{ltb}
use Rattle.net.specs.Choice.{choose, both, all}
use Rattle.net.specs.Records.{process_at, address_of, process_count}
use Rattle.sound.specs.Soundness.{all_unset, sound_of}
use Rattle.keeping.specs.Admission.{admits}
use Rattle.fresh.specs.Types.{Node, Net}
use Rattle.fresh.specs.Fresh.{net_fits, slot_starts, starts_at, fresh_of}

-- ---- a slot as an image starts it
pub slot_as :
    (x : Node) (i n : ℕ) (good : Bool) → n ≡ process_count x
    → good ≡ both (choose (ltb i n) (process_at x i).busy (not (process_at x i).busy)) (all_unset (process_at x i))
    → good ≡ slot_starts x i
unfolding slot_starts
slot_as x i n good e d = rw (← e) d

both_true : (a b : Bool) → a ≡ true → both a b ≡ b
unfolding both
both_true a b p = rw p

-- the test leaves away what holds of every net of a running program
pub fresh_tested :
    (net : Net) (r : Bool) → net_fits net ≡ true
    → r ≡ both (sound_of net) (both (all 16 (λ a. starts_at net (address_of a))) (admits net)) → r ≡ fresh_of net
unfolding fresh_of
fresh_tested net r f e = e ∙ sym (both_true (net_fits net) _ f)
