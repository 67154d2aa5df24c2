-- What the readers of a text give: the logic of readers (`Gives.antt` of the crate `readers`) with the numbers of a text,
-- and the laws of its bytes, words and numbers. Assumes nothing.
use Prim.Native.Nat.{ℕ, ◌+◌, ◌*◌, ◌≤◌}
use mathlib.Core.Path.{◌≡◌}
use mathlib.Core.Bool.{Bool, true}
use mathlib.Core.List.{List, [], ◌∷◌}
use lib.ListN.{length}
use lib.Dec.{eqb, leb, ltb}
use borrow.Author.Tests.{leb-true}
use Rattle.net.specs.Choice.{both}
use Rattle.net.proofs.Laws.{both_r}
use Rattle.readers.specs.Reader.{Parsed, got, Reader, require, fault_at}
use Rattle.readers.proofs.Gives as Logic
use Rattle.readers.proofs.Gives.{fine_unless}
use Rattle.lexemes.specs.Lexemes.{byte_at, look, fail, byte, word, present, optional, digit_of, digit, longer}
use Rattle.lexemes.specs.Lexemes.{another, rest, number}
use Rattle.texts.specs.TextClaims.{TextNumber, astray}
pub use Rattle.readers.proofs.Gives.{value, stopped, gives_pure, gives_weaken, gives_then, gives_and, gives_each, gives_choice, gives_tested}

abbrev pub Fine : {A : Type 0} → (A → Type 0) → Parsed A → Type 0
Fine = Logic.Fine TextNumber

abbrev pub Gives : {A : Type 0} → Reader A → (A → Type 0) → Type 0
Gives = Logic.Gives TextNumber

-- anything at all
abbrev pub Any : {A : Type 0} → A → Type 0
Any a = Unit {0}

pub gives_require : (ok : Bool) (n : ℕ) → TextNumber n → Gives (require ok n) (λ _. ok ≡ true)
gives_require = Logic.gives_require

-- ---- bytes and words
pub gives_look : {A : Type 0} (P : A → Type 0) (f : ℕ → Reader A) → ((b : ℕ) → Gives (f b) P) → Gives (look f) P
unfolding look
gives_look P f g = record { run = λ s p. (g (byte_at s p)).run s p }

pub gives_fail : {A : Type 0} (P : A → Type 0) (n : ℕ) → TextNumber n → Gives (fail n) P
unfolding fail fault_at
gives_fail P n h = record { run = λ s p. stopped h }

pub gives_byte : (c : ℕ) → Gives (byte c) Any
unfolding byte
gives_byte c = record {
  run = λ s p. fine_unless Any (both (ltb p (length s)) (eqb (byte_at s p) c)) (got tt (p + 1)) 31 p 0 astray (λ _. value tt);
}

pub gives_word : (cs : List ℕ) → Gives (word cs) Any
unfolding word
gives_word [] = gives_pure Any tt tt
gives_word (c ∷ cs) = gives_and (gives_byte c) (λ _ _. gives_word cs)

pub gives_optional : (c : ℕ) → Gives (optional c) Any
unfolding optional present
gives_optional c =
    gives_look Any _ (λ b. gives_choice Any _ _ _ (gives_and (gives_byte c) (λ _ _. gives_pure Any _ tt)) (gives_pure Any _ tt))

-- ---- numbers: up to their limit
gives_digit : Gives digit Any
unfolding digit digit_of
gives_digit =
    gives_look Any _ (λ b.
    gives_choice Any _ _ _ (gives_and (gives_byte b) (λ _ _. gives_pure Any _ tt)) (gives_fail Any 31 astray))

gives_longer : (limit v : ℕ) → Gives (longer limit v) (λ x. x ≤ limit)
unfolding longer
gives_longer limit v =
    gives_then gives_digit (λ d _. gives_and (gives_require _ 31 astray) (λ _ h.
    gives_pure _ _ (leb-true (v * 10 + d) limit (both_r (leb 1 v) _ h))))

gives_another : (limit i v : ℕ) → v ≤ limit → Gives (another limit i v) (λ x. x ≤ limit)
unfolding another
gives_another limit i v h = gives_look _ _ (λ b. gives_choice _ _ _ _ (gives_longer limit v) (gives_pure _ v h))

pub gives_number : (limit : ℕ) → Gives (number limit) (λ x. x ≤ limit)
unfolding number rest
gives_number limit =
    gives_then gives_digit (λ d _. gives_and (gives_require _ 31 astray) (λ _ h.
    gives_each (λ i x. x ≤ limit) 10 (another limit) (λ i _ v l. gives_another limit i v l) d (leb-true d limit h)))
