-- The words of fields (`specs/Fields.antt`) as the code makes them: an arm of a match for each kind, and the parts put together.
-- Assumes nothing.
use Prim.Native.Nat.{ℕ}
use mathlib.Core.Path.{◌≡◌, ap, ◌∙◌}
use mathlib.Core.Bool.{Bool, true, ◌&&◌}
use mathlib.Core.List.{List, [], ◌∷◌}
use lib.IntN.{ℤ}
use mir.Syntax.{w32}
use mir.Val.{SFits, to_z, of_z}
use mir.Facts.{to_z-of_z}
use Rattle.net.specs.Choice.{both, all}
use Rattle.net.specs.declared.instruction.Pattern.{Pattern}
use Rattle.lean_words.specs.Items.{reading_word}
use Rattle.lean_words.specs.Stores.{oldest_in, put_words}
use Rattle.lean_words.proofs.StoreLaws.{four}
use Rattle.lean_code.specs.Fields.{actual_words, field_words, field_word, word_from, lowest, highest, wants_words}

-- ---- fields: a word that a callee gave
pub actual_as :
    (from u w x : ℕ) (r : List ℕ) → from ≡ u → w ≡ x → r ≡ actual_words from w → r ≡ actual_words u x
actual_as from u w x r p q e = rw (p, q) at e

-- a reading that an arm has taken out stands there by its bits
pub reading_field :
    (z : ℤ) (x : Pattern) (w : ℕ) (r : List ℕ) → SFits w32 z → x ≡ Pattern.Reading z → w ≡ reading_word (to_z w32 (of_z w32 z))
    → r ≡ actual_words 9 w → r ≡ field_words x
unfolding field_words
reading_field z x w r s e p q = rw e (q ∙ ap (actual_words 9) (p ∙ ap reading_word (to_z-of_z s)))

-- ---- four tests
pub four_hold :
    (a b c d : Bool) (test : ℕ → Bool) → a ≡ test 0 → b ≡ test 1 → c ≡ test 2 → d ≡ test 3
    → ((a && b) && (c && d)) ≡ all 4 test
unfolding both
four_hold a b c d test p q r s = four true a b c d test p q r s

-- ---- what is wanted
pub wants_parts :
    (p : List ℕ) (a : ℕ) (f : List (List ℕ)) (count l₀ h₀ l₁ h₁ l₂ h₂ l₃ h₃ : ℕ)
    → l₀ ≡ word_from p a (field_word f 0 0) (field_word f 0 1)
    → h₀ ≡ word_from p a (field_word f 0 0) (field_word f 0 2)
    → l₁ ≡ word_from p a (field_word f 1 0) (field_word f 1 1)
    → h₁ ≡ word_from p a (field_word f 1 0) (field_word f 1 2)
    → l₂ ≡ word_from p a (field_word f 2 0) (field_word f 2 1)
    → h₂ ≡ word_from p a (field_word f 2 0) (field_word f 2 2)
    → l₃ ≡ word_from p a (field_word f 3 0) (field_word f 3 1)
    → h₃ ≡ word_from p a (field_word f 3 0) (field_word f 3 2)
    → (l₀ ∷ h₀ ∷ l₁ ∷ h₁ ∷ l₂ ∷ h₂ ∷ l₃ ∷ h₃ ∷ count ∷ []) ≡ wants_words p a f count
unfolding wants_words lowest highest
wants_parts p a f count l₀ h₀ l₁ h₁ l₂ h₂ l₃ h₃ d₀ e₀ d₁ e₁ d₂ e₂ d₃ e₃ = rw (d₀, e₀, d₁, e₁, d₂, e₂, d₃, e₃)

-- and what is made of it
pub made_is : (want u r : List ℕ) (a : ℕ) → want ≡ u → r ≡ put_words want a → r ≡ put_words u a
made_is want u r a e q = rw e at q

pub met_is : (want u : List ℕ) (ts : List (List ℕ)) (n r : ℕ) → want ≡ u → r ≡ oldest_in ts n want → r ≡ oldest_in ts n u
met_is want u ts n r e q = rw e at q
