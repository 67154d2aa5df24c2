-- Readers (document 01, "The image"): from the bytes and a place to a value with the place after it, or to the first
-- fault. What a place counts, bits or bytes, is for the readers of fields to say.
pub use Rattle.readers.specs.declared.fault.Fault.{Fault}
use Rattle.std.specs.Prelude.{ℕ, zero, suc, ◌+◌, Bool, List, get_or}
use Rattle.net.specs.Choice.{choose}

-- what a reader gives
pub data Parsed (A : Type 0) : Type 0 where
  got : A → ℕ → Parsed A
  fault : Fault → Parsed A

abbrev pub Reader : Type 0 → Type 0
Reader A = List ℕ → ℕ → Parsed A

-- the value, with nothing read
unfoldable pub pure : {A : Type 0} → A → Reader A
pure a s p = got a p

-- the outcome of one reader, and another with its value; a fault stays
unfoldable pub and_then : {A B : Type 0} → Parsed A → List ℕ → (A → Reader B) → Parsed B
and_then (got a q) s f = f a s q
and_then (fault n) s f = fault n

infixl 10 ◌>>=◌
unfoldable pub ◌>>=◌ : {A B : Type 0} → Reader A → (A → Reader B) → Reader B
◌>>=◌ m f s p = and_then (m s p) s f

infixl 10 ◌>>◌
unfoldable pub ◌>>◌ : {A B : Type 0} → Reader A → Reader B → Reader B
◌>>◌ m f = m >>= (λ a. f)

-- k turns from number i on, each on what the last one gave
unfoldable pub turns : {A : Type 0} → ℕ → ℕ → (ℕ → A → Reader A) → A → Reader A
turns zero i f a = pure a
turns (suc k) i f a = f i a >>= turns k (suc i) f

-- a turn for each number below n
unfoldable pub each : {A : Type 0} → ℕ → (ℕ → A → Reader A) → A → Reader A
each n f a = turns n 0 f a

-- the alternative of that number, or the last one
unfoldable pub alternative : {A : Type 0} → List (Reader A) → Reader A → ℕ → Reader A
alternative rs last k = get_or rs k last

-- the fault n in the field of width w that begins at place p (document 02, slip 2)
unfoldable pub fault_at : ℕ → ℕ → ℕ → Fault
fault_at n p w = record { number = n; place = p; width = w }

-- where the field at fault ends
unfoldable pub field_end : Fault → ℕ
field_end f = f.place + f.width

-- the fault n in that field, unless the test holds
unfoldable pub require_in : ℕ → ℕ → Bool → ℕ → Reader (Unit {0})
require_in at w ok n s p = choose ok (got tt p) (fault (fault_at n at w))

-- the fault n here, unless the test holds
unfoldable pub require : Bool → ℕ → Reader (Unit {0})
require ok n s p = require_in p 0 ok n s p

-- a field of width w whose value passes the test, or else the fault n in it
unfoldable pub tested : {A : Type 0} → ℕ → Reader A → (A → Bool) → ℕ → Reader A
tested w m ok n s p = (m >>= (λ a. require_in p w (ok a) n >> pure a)) s p
