-- What is written into a lent buffer.
use Rattle.std.specs.Prelude.{ℕ, List}
use Rattle.std.proofs.lemmas.List.Edits.{sets}

-- the buffer with the given elements stored one after another from a place on: those past its end are left away, and
-- its other elements stay
unfoldable pub over : {A : Type 0} → List A → ℕ → List A → List A
over buffer at elements = sets buffer at elements
