-- Turns of the comparison of our register with a listing (`specs/Comparing.antt`): what comes out of a byte and of a number.
-- Assumes nothing.
use Prim.Native.Nat.{ℕ, ◌+◌}
use mathlib.Core.Path.{◌≡◌, refl, sym, ap, ◌∙◌}
use mathlib.Core.Bool.{Bool, true, false}
use mathlib.Core.List.{List, [], ◌∷◌}
use lib.ListN.{drop}
use lib.Dec.{eqb}
use Rattle.net.specs.Choice.{choose}
use Rattle.net.proofs.Laws.{choose_true, choose_false}
use Rattle.lexemes.specs.Lexemes.{is_digit}
use Rattle.listing.specs.Listing.{Checked, digits_of, after_digits, value_from, writes}
use Rattle.listing.specs.Comparing.{stands_first, parted_at, comparing}

pub by_test : {P : Type 0} (b : Bool) → (b ≡ true → P) → (b ≡ false → P) → P
by_test true f g = f refl
by_test false f g = g refl

-- ---- digits, by whether the first byte is one
module _ (b : ℕ) (rest : List ℕ) where
  pub digits_one : is_digit b ≡ true → digits_of (b ∷ rest) ≡ b ∷ digits_of rest
  unfolding digits_of
  digits_one e = choose_true (is_digit b) (b ∷ digits_of rest) [] e

  pub digits_none : is_digit b ≡ false → digits_of (b ∷ rest) ≡ []
  unfolding digits_of
  digits_none e = choose_false (is_digit b) (b ∷ digits_of rest) [] e

  after_one : is_digit b ≡ true → after_digits (b ∷ rest) ≡ after_digits rest
  unfolding after_digits
  after_one e = choose_true (is_digit b) (after_digits rest) (b ∷ rest) e

  after_none : is_digit b ≡ false → after_digits (b ∷ rest) ≡ b ∷ rest
  unfolding after_digits
  after_none e = choose_false (is_digit b) (after_digits rest) (b ∷ rest) e

-- ---- turns, in line i
module _ (i : ℕ) where
  pub byte_turn :
      (passing fresh : Bool) (b : ℕ) (ours theirs : List ℕ) → is_digit b ≡ false
      → comparing passing fresh i (b ∷ ours) theirs
      ≡ choose (stands_first b theirs) (comparing false (eqb b 10) (choose (eqb b 10) (i + 1) i) ours (drop 1 theirs)) (parted_at fresh i theirs)
  unfolding comparing
  byte_turn passing fresh b ours theirs e = choose_false (is_digit b) _ _ e

  -- the digits of a number that was compared are passed over
  passed : (ours theirs : List ℕ) → comparing true false i ours theirs ≡ comparing false false i (after_digits ours) theirs
  unfolding comparing choose after_digits
  passed [] [] = refl
  passed [] (c ∷ theirs) = refl
  passed (b ∷ ours) theirs =
      by_test (is_digit b)
      (λ e. choose_true (is_digit b) _ _ e ∙ passed ours theirs
      ∙ ap (λ (xs : List ℕ). comparing false false i xs theirs) (sym (after_one b ours e)))
      (λ e. byte_turn true false b ours theirs e ∙ sym (byte_turn false false b ours theirs e)
      ∙ ap (λ (xs : List ℕ). comparing false false i xs theirs) (sym (after_none b ours e)))

  pub number_turn :
      (fresh : Bool) (b : ℕ) (ours theirs : List ℕ) → is_digit b ≡ true
      → comparing false fresh i (b ∷ ours) theirs
      ≡ choose (writes (value_from 0 (digits_of (b ∷ ours))) (digits_of theirs))
      (comparing false false i (after_digits (b ∷ ours)) (after_digits theirs))
      (parted_at fresh i theirs)
  unfolding comparing choose
  number_turn fresh b ours theirs e =
      choose_true (is_digit b) _ _ e
      ∙ ap (λ (x : Checked). choose (writes (value_from 0 (digits_of (b ∷ ours))) (digits_of theirs)) x (parted_at fresh i theirs))
      (passed ours (after_digits theirs) ∙ ap (λ (xs : List ℕ). comparing false false i xs (after_digits theirs)) (sym (after_one b ours e)))
