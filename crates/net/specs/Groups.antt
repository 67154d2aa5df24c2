-- Sets of addresses (document 02, slip 11): "16 bits, the first for address 0".
pub use Rattle.net.specs.declared.locality.Group.{Group}
use Rattle.std.specs.Prelude.{ℕ, zero, suc, ◌-◌, ◌/◌, ◌%◌, Bool, List, [], ◌∷◌, ◌++◌, eqb, ltb}
use Rattle.net.specs.Choice.{choose, both, implies, all}
use Rattle.net.specs.Records.{Locality, address_of}

-- a number halved n times
unfoldable pub halved : ℕ → ℕ → ℕ
halved zero v = v
halved (suc n) v = halved n v / 2

unfoldable pub member : Group → Locality → Bool
member g l = both (ltb l.0 16) (eqb (halved (15 - l.0) g.0 % 2) 1)

-- each member passes the test
unfoldable pub all_members : Group → (Locality → Bool) → Bool
all_members g test = all 16 (λ i. implies (member g (address_of i)) (test (address_of i)))

-- the members below address i, ascending
unfoldable pub members_below : ℕ → Group → List Locality
members_below zero g = []
members_below (suc i) g = members_below i g ++ choose (member g (address_of i)) (address_of i ∷ []) []

unfoldable pub members_of : Group → List Locality
members_of g = members_below 16 g
