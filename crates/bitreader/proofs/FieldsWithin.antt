-- How many bits the fields that stand in several places take at most (`specs/Fields.antt`). Assumes nothing.
use Prim.Native.Nat.{ℕ, ◌<◌, ◌≤◌}
use Rattle.bitreader.specs.Fields.{address, place, variable, reading}
use Rattle.bitreader.proofs.Budget.{Within, Anything, gives, field_within, bits_within}

pub address_within : (n : ℕ) → Within (address n) 4 Anything
unfolding address
address_within n = gives _ (field_within _ _ _ _)

pub place_within : (k : ℕ) → Within (place k) 9 Anything
unfolding place
place_within k = gives _ (field_within _ _ _ _)

pub reading_within : Within reading 32 Anything
unfolding reading
reading_within = gives _ (bits_within _)

pub variable_within : Within variable 3 (λ v. (0 ≤ v) × (v < 8))
unfolding variable
variable_within = bits_within 3
