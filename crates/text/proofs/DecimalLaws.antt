-- Laws of decimal numbers (`specs/Decimal.antt`). Assumes nothing.
use Prim.Native.Nat.{ℕ, zero, suc, ◌*◌, ◌/◌, ◌%◌, ◌^◌, ◌<◌, ◌≤◌}
use mathlib.Core.Path.{◌≡◌, refl, sym, ap, subst, ◌∙◌}
use mathlib.Core.Bool.{Bool, true, false}
use mathlib.Core.List.{List, [], ◌∷◌, ◌++◌}
use native.Mathlib.Omega.{arith}
use native.Mathlib.Nat.{pow-suc, not-suc-le-zero}
use lib.Dec.{ltb}
use lib.ListN.{length, length-append}
use lib.IntN.{ℤ, pos, negsuc, nat_abs}
use lib.Signed.{le_z}
use mir.Syntax.{w32, w64}
use mir.Val.{Fits, SFits, to_z, of_z}
use mir.Facts.{to_z-of_z}
use borrow.Author.Tests.{lt-ltb, le-ltb, ltb-false, leb-false}
use Rattle.net.specs.Choice.{choose}
use Rattle.net.proofs.Laws.{choose_true, choose_false}
use Rattle.net.proofs.Every.{chosen, chosen_lt}
use Rattle.text.specs.Decimal.{digit, digits, decimal, signed_decimal}
use Rattle.text.specs.Writing.{Wrote}
use Rattle.text.proofs.WritingLaws.{wrote_then}

-- two sides of a choice that agree where they are taken
alike :
    {A : Type 0} (n : ℕ) (x y z : A) → (10 ≤ n → y ≡ z) → choose (ltb n 10) x y ≡ choose (ltb n 10) x z
alike n x y z f = go (ltb n 10) refl
  where
    go : (b : Bool) → b ≡ ltb n 10 → choose (ltb n 10) x y ≡ choose (ltb n 10) x z
    go true e = choose_true _ _ _ (sym e) ∙ sym (choose_true _ _ _ (sym e))
    go false e = ap (choose (ltb n 10) x) (f (ltb-false n 10 (sym e)))

-- one more digit allowed than a number has makes no difference
pub digits_more : (k n : ℕ) → n < 10 ^ suc k → digits (suc k) n ≡ digits (suc (suc k)) n
unfolding digits
digits_more zero n h = alike n _ _ _ (λ l. absurd (omega arith))
digits_more (suc k) n h =
    let power : 10 ^ suc (suc k) ≡ 10 ^ suc k * 10 = pow-suc 10 (suc k) in
    alike n _ _ _ (λ l. ap (λ (ds : List ℕ). ds ++ digit (n % 10) ∷ []) (digits_more k (n / 10) (omega (arith, power))))

-- a number below 10 is its digit
pub decimal_digit : (n : ℕ) → n < 10 → digit n ∷ [] ≡ decimal n
unfolding decimal digits
decimal_digit n h = sym (choose_true _ _ _ (lt-ltb n 10 h))

-- any other ends with a digit
pub decimal_more : (n : ℕ) → 10 ≤ n → n < 2 ^ 64 → decimal (n / 10) ++ digit (n % 10) ∷ [] ≡ decimal n
unfolding decimal digits
decimal_more n h l =
    ap (λ (ds : List ℕ). ds ++ digit (n % 10) ∷ []) (sym (digits_more 18 (n / 10) (omega arith)))
    ∙ sym (choose_false _ _ _ (le-ltb n 10 h))

-- ---- how long they are
digits_short : (k n : ℕ) → length (digits k n) ≤ k
unfolding digits
digits_short zero n = omega arith
digits_short (suc k) n =
    chosen (λ (t : List ℕ). length t ≤ suc k) (ltb n 10) _ _ (λ _. omega arith)
    (λ _. let inner = digits_short k (n / 10) in
    let whole = length-append (digits k (n / 10)) (digit (n % 10) ∷ []) in omega (arith, inner, whole))

pub decimal_short : (n : ℕ) → length (decimal n) ≤ 20
unfolding decimal
decimal_short n = digits_short 20 n

-- of a number below a power of ten
digits_below : (k j n : ℕ) → n < 10 ^ suc j → length (digits k n) ≤ suc j
unfolding digits
digits_below zero j n h = omega arith
digits_below (suc k) zero n h =
    chosen_lt (λ (t : List ℕ). length t ≤ 1) n 10 _ _ (λ _. omega arith) (λ l. absurd (omega arith))
digits_below (suc k) (suc j) n h =
    let power : 10 ^ suc (suc j) ≡ 10 ^ suc j * 10 = pow-suc 10 (suc j) in
    let inner = digits_below k j (n / 10) (omega (arith, power)) in
    let whole = length-append (digits k (n / 10)) (digit (n % 10) ∷ []) in
    chosen (λ (t : List ℕ). length t ≤ suc (suc j)) (ltb n 10) _ _ (λ _. omega arith) (λ _. omega (arith, inner, whole))

pub decimal_below : (j n : ℕ) → n < 10 ^ suc j → length (decimal n) ≤ suc j
unfolding decimal
decimal_below j n h = digits_below 20 j n h

-- ---- as they are written
module _ (xs : List ℕ) (at n : ℕ) where
  pub wrote_digit : (ys : List ℕ) (r : ℕ) → n < 10 → Wrote xs at (digit n ∷ []) ys r → Wrote xs at (decimal n) ys r
  wrote_digit ys r h w = subst (λ (t : List ℕ). Wrote xs at t ys r) (decimal_digit n h) w

  pub wrote_digits :
      (ys zs : List ℕ) (r q : ℕ) → 10 ≤ n → Fits w64 n → Wrote xs at (decimal (n / 10)) ys r → Wrote ys r (digit (n % 10) ∷ []) zs q
      → Wrote xs at (decimal n) zs q
  wrote_digits ys zs r q h f w v =
      subst (λ (t : List ℕ). Wrote xs at t zs q) (decimal_more n h f.fits) (wrote_then xs at _ _ _ _ _ _ w v)

-- ---- signed numbers
written_up : (y : ℤ) → le_z (pos 0) y ≡ true → decimal (nat_abs y) ≡ signed_decimal y
unfolding signed_decimal
written_up (pos n) h = refl
written_up (negsuc n) h = absurd (let z : ◌≡◌ {A = ℕ} 0 1 = cc in omega arith)

written_below : (y : ℤ) → le_z (pos 0) y ≡ false → 45 ∷ decimal (nat_abs y) ≡ signed_decimal y
unfolding signed_decimal
written_below (pos n) h = absurd (not-suc-le-zero (leb-false 0 n h))
written_below (negsuc n) h = ap (λ (m : ℕ). 45 ∷ decimal m) (omega arith)

module _ (xs : List ℕ) (at n : ℕ) (x : ℤ) (s : SFits w32 x) (ys : List ℕ) (r : ℕ) where
  pub signed_up :
      le_z (pos 0) (to_z w32 (of_z w32 x)) ≡ true → n ≡ nat_abs (to_z w32 (of_z w32 x)) → Wrote xs at (decimal n) ys r → Wrote xs at (signed_decimal x) ys r
  signed_up h e w =
      subst (λ (t : List ℕ). Wrote xs at t ys r) (ap decimal (e ∙ ap nat_abs (to_z-of_z s)) ∙ written_up x (rw (to_z-of_z s) at h)) w

  pub signed_below :
      le_z (pos 0) (to_z w32 (of_z w32 x)) ≡ false → n ≡ nat_abs (to_z w32 (of_z w32 x)) → Wrote xs at (45 ∷ decimal n) ys r
      → Wrote xs at (signed_decimal x) ys r
  signed_below h e w =
      subst (λ (t : List ℕ). Wrote xs at t ys r)
      (ap (λ (m : ℕ). 45 ∷ decimal m) (e ∙ ap nat_abs (to_z-of_z s)) ∙ written_below x (rw (to_z-of_z s) at h)) w
