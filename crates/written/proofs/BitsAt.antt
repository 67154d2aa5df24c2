-- Bits that stand in the bytes of an image from a place on (`bit_at` of `BitReader.antt`): one part after another, and the
-- digits of a number (`bits_of` of `specs/ImageOf.antt`).
-- Assumes nothing.
use Prim.Native.Nat.{ℕ, zero, suc, ◌+◌, ◌-◌, ◌*◌, ◌/◌, ◌%◌, ◌^◌, ◌<◌, ◌≤◌}
use mathlib.Core.Path.{◌≡◌, refl, sym, ap, subst, ◌∙◌}
use mathlib.Core.Bool.{Bool, false}
use mathlib.Core.List.{List, [], ◌∷◌, ◌++◌}
use native.Mathlib.Omega.{arith}
use native.Mathlib.Decide.{dec_le}
use lib.ListN.{length, get_or, length-append, get_or-append}
use lib.Seq.{get_or-append-add}
use lib.Dec.{eqb}
use Rattle.bitreader.specs.BitReader.{bit_at, number_at}
use Rattle.written.specs.ImageOf.{bits_of, digit}

pub record BitsAt (s : List ℕ) (p : ℕ) (bits : List Bool) : Type 0 where
  pub room : p + length bits ≤ 8 * length s
  pub each : (i : ℕ) → i < length bits → bit_at s (p + i) ≡ digit (get_or bits i false)

-- ---- one part after another
module _ (s : List ℕ) (p : ℕ) (xs ys : List Bool) where
  pub stands_append : BitsAt s p xs → BitsAt s (p + length xs) ys → BitsAt s p (xs ++ ys)
  stands_append f g = record {
    room = let e = length-append xs ys in let r = g.room in omega arith;
    each = λ i h. go i h (dec_le (length xs) i);
  }
    where
      go : (i : ℕ) → i < length (xs ++ ys) → Dec (length xs ≤ i) → bit_at s (p + i) ≡ digit (get_or (xs ++ ys) i false)
      go i h (yes l) =
          let e = length-append xs ys in
          let j : ℕ = i - length xs in
          let d : i ≡ length xs + j = omega arith in
          let a : p + i ≡ p + length xs + j = omega arith in
          ap (bit_at s) a ∙ g.each j (omega arith)
          ∙ ap digit (sym (get_or-append-add xs ys j false) ∙ ap (λ (k : ℕ). get_or (xs ++ ys) k false) (sym d))
      go i h (no l) = f.each i (omega arith) ∙ ap digit (sym (get_or-append xs ys false i (omega arith)))

  pub stands_first_law : BitsAt s p (xs ++ ys) → BitsAt s p xs
  stands_first_law f = record {
    room = let e = length-append xs ys in let r = f.room in omega arith;
    each = λ i h.
        let e = length-append xs ys in
        f.each i (omega arith) ∙ ap digit (get_or-append xs ys false i h);
  }

  pub stands_rest : BitsAt s p (xs ++ ys) → BitsAt s (p + length xs) ys
  stands_rest f = record {
    room = let e = length-append xs ys in let r = f.room in omega arith;
    each = λ i h.
        let e = length-append xs ys in
        let a : p + length xs + i ≡ p + (length xs + i) = omega arith in
        ap (bit_at s) a ∙ f.each (length xs + i) (omega arith) ∙ ap digit (get_or-append-add xs ys i false);
  }

pub stands_none : (s : List ℕ) (p : ℕ) → p ≤ 8 * length s → BitsAt s p []
stands_none s p h = record { room = omega arith; each = λ i l. absurd (omega arith) }

-- ---- a single bit
pub stands_one : (s : List ℕ) (p : ℕ) (b : Bool) → p < 8 * length s → bit_at s p ≡ digit b → BitsAt s p (b ∷ [])
stands_one s p b h e = record { room = omega arith; each = go }
  where
    go : (i : ℕ) → i < 1 → bit_at s (p + i) ≡ digit (get_or (b ∷ []) i false)
    go zero l = let a : p + 0 ≡ p = omega arith in ap (bit_at s) a ∙ e
    go (suc i) l = absurd (omega arith)

-- ---- the digits of a number
pub digit_is : (b : ℕ) → b < 2 → digit (eqb b 1) ≡ b
unfolding digit
digit_is zero h = refl
digit_is (suc zero) h = refl
digit_is (suc (suc b)) h = absurd (omega arith)

pub bits_length : (w v : ℕ) → length (bits_of w v) ≡ w
unfolding bits_of
bits_length zero v = refl
bits_length (suc w) v =
    let e = length-append (bits_of w (v / 2)) (eqb (v % 2) 1 ∷ []) in
    let h = bits_length w (v / 2) in
    omega arith

pub bit_small : (s : List ℕ) (p : ℕ) → bit_at s p < 2
unfolding bit_at
bit_small s p = omega arith

-- the bits that are read as a number are its digits
pub number_stands : (s : List ℕ) (p w : ℕ) → p + w ≤ 8 * length s → BitsAt s p (bits_of w (number_at s p w))
unfolding bits_of number_at
number_stands s p zero h = stands_none s p (omega arith)
number_stands s p (suc w) h =
    let n : ℕ = number_at s p w in
    let b : ℕ = bit_at s (p + w) in
    let small : b < 2 = bit_small s (p + w) in
    let half : n ≡ (n * 2 + b) / 2 = omega arith in
    let low : (n * 2 + b) % 2 ≡ b = omega arith in
    let l = bits_length w ((n * 2 + b) / 2) in
    let at : p + length (bits_of w ((n * 2 + b) / 2)) ≡ p + w = omega arith in
    stands_append s p _ _
    (subst (λ (v : ℕ). BitsAt s p (bits_of w v)) half (number_stands s p w (omega arith)))
    (stands_one s _ _ (omega arith) (ap (bit_at s) at ∙ sym (digit_is b small) ∙ ap (λ (v : ℕ). digit (eqb v 1)) (sym low)))

-- digits that stand there are read as their number
pub stands_number : (s : List ℕ) (p w v : ℕ) → v < 2 ^ w → BitsAt s p (bits_of w v) → number_at s p w ≡ v
unfolding bits_of number_at
stands_number s p zero v h f = omega arith
stands_number s p (suc w) v h f =
    let l = bits_length w (v / 2) in
    let e = stands_number s p w (v / 2) (omega arith) (stands_first_law s p (bits_of w (v / 2)) (eqb (v % 2) 1 ∷ []) f) in
    let r = stands_rest s p (bits_of w (v / 2)) (eqb (v % 2) 1 ∷ []) f in
    let at : p + w ≡ p + length (bits_of w (v / 2)) + 0 = omega arith in
    let d : bit_at s (p + w) ≡ v % 2 = ap (bit_at s) at ∙ r.each 0 (omega arith) ∙ digit_is (v % 2) (omega arith) in
    omega arith
