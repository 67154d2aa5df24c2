-- How far the readers of bytes, words and numbers go (`Long.antt` of the crate `readers`). Assumes nothing.
use Prim.Native.Nat.{ℕ, ◌+◌, ◌≤◌}
use mathlib.Core.Path.{◌≡◌, refl}
use mathlib.Core.Bool.{Bool, true, false}
use mathlib.Core.List.{List, [], ◌∷◌}
use native.Mathlib.Omega.{arith}
use lib.ListN.{length}
use lib.Dec.{eqb, ltb}
use borrow.Author.Tests.{ltb-true}
use Rattle.net.specs.Choice.{choose}
use Rattle.net.proofs.Laws.{both_l}
use Rattle.readers.specs.Reader.{got, fault, Reader, fault_at}
use Rattle.readers.proofs.Long.{Spans, value, stopped, Long, Any, long_pure, long_weaken, long_then, long_and, long_choice}
use Rattle.readers.proofs.Long.{goes, goes_and, goes_each, goes_require, going}
use Rattle.lexemes.specs.Lexemes.{byte_at, look, fail, byte, word, present, optional}
use Rattle.lexemes.specs.Lexemes.{digit_of, digit, longer, another, rest, number}

pub long_look : {A : Type 0} (P : A → ℕ → Type 0) (f : ℕ → Reader A) → ((b : ℕ) → Long (f b) P) → Long (look f) P
unfolding look
long_look P f l = record { run = λ s p. (l (byte_at s p)).run s p }

pub long_fail : {A : Type 0} (P : A → ℕ → Type 0) (n : ℕ) → Long (fail n) P
unfolding fail
long_fail P n = record { run = λ s p. stopped }

pub goes_look : {A : Type 0} (f : ℕ → Reader A) → ((b : ℕ) → Long (f b) Any) → Long (look f) Any
goes_look f l = long_look Any f l

pub goes_fail : {A : Type 0} (n : ℕ) → Long {A = A} (fail n) Any
goes_fail n = long_fail Any n

-- ---- bytes and words
spans_one :
    (s : List ℕ) (p : ℕ) (b : Bool) → (b ≡ true → ltb p (length s) ≡ true)
    → Spans {A = Unit {0}} s p (λ _ i. 1 ≤ i) (choose b (got tt (p + 1)) (fault (fault_at 31 p 0)))
unfolding choose
spans_one s p true h =
    let l = ltb-true p (length s) (h refl) in
    value {q = p + 1} (record { count = 1; end = refl; within = omega arith; holds = omega arith })
spans_one s p false h = stopped

pub long_byte : (c : ℕ) → Long (byte c) (λ _ i. 1 ≤ i)
unfolding byte
long_byte c = record { run = λ s p. spans_one s p _ (both_l (ltb p (length s)) (eqb (byte_at s p) c)) }

pub long_word : (cs : List ℕ) → Long (word cs) (λ _ i. length cs ≤ i)
unfolding word
long_word [] = long_pure _ tt (omega arith)
long_word (c ∷ cs) = long_and (long_byte c) (λ _ i h. long_weaken (long_word cs) (λ _ j g. omega arith))

pub goes_byte : (c : ℕ) → Long (byte c) Any
goes_byte c = goes (long_byte c)

pub goes_word : (cs : List ℕ) → Long (word cs) Any
goes_word cs = goes (long_word cs)

pub goes_optional : (c : ℕ) → Long (optional c) Any
unfolding optional present
goes_optional c = search (going, goes_look, goes_byte)

-- ---- numbers
long_digit : Long digit (λ _ i. 1 ≤ i)
unfolding digit digit_of
long_digit =
    long_look _ _ (λ b.
    long_choice _ _ _ _ (long_and (long_byte b) (λ _ i h. long_pure _ _ (omega arith))) (long_fail _ 31))

goes_digit : Long digit Any
goes_digit = goes long_digit

goes_another : (limit i v : ℕ) → Long (another limit i v) Any
unfolding another longer
goes_another limit i v = search (going, goes_look, goes_digit)

pub long_number : (limit : ℕ) → Long (number limit) (λ _ i. 1 ≤ i)
unfolding number rest
long_number limit =
    long_then long_digit (λ d i h.
    long_weaken (goes_and (goes_require _ 31) (goes_each (another limit) (goes_another limit) 10 d)) (λ _ j _. omega arith))

pub goes_number : (limit : ℕ) → Long (number limit) Any
goes_number limit = goes (long_number limit)

-- with these `search` proves of a reader that it does not go back
pub ruleset onward = (going, goes_look, goes_fail, goes_byte, goes_word, goes_optional, goes_number)
