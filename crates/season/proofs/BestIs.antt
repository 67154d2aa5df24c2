-- The best of a list of fractions is its largest, the earliest on a tie. Assumes nothing.
use Prim.Native.Nat.{ℕ, zero, suc, ◌+◌, ◌*◌, ◌≤◌, ◌<◌}
use mathlib.Core.Path.{◌≡◌, sym, ap, subst}
use mathlib.Core.Logic.{◌⊎◌, inl, inr}
use mathlib.Core.List.{List}
use native.Mathlib.Omega.{arith}
use native.Mathlib.Nat.{mul_right_comm, mul-le-mul_right, mul-lt-mul_of_pos_right, lt_of_mul-lt-mul_right}
use native.Mathlib.Decide.{dec_le}
use lib.ListN.{length, get_or-eq_default}
use borrow.Author.Tests.{eqb-true, eqb-false, ltb-true, ltb-false}
use Rattle.std.specs.Prelude.{Some, None}
use Rattle.net.specs.Choice.{fold}
use Rattle.net.proofs.Laws.{split}
use Rattle.net.proofs.Every.{chosen}
use Rattle.season.specs.Fractions.{Fraction, fraction, larger, Best, against, considered, fraction_at, best_of}
use Rattle.season.specs.SeasonClaims.{BestIs, none_there, largest}

-- ---- fractions by their cross products
abbrev AtMost : Fraction → Fraction → Type 0
AtMost x y = x.numerator * y.denominator ≤ y.numerator * x.denominator

abbrev Below : Fraction → Fraction → Type 0
Below x y = x.numerator * y.denominator < y.numerator * x.denominator

-- at most, then below: both sides times the middle's denominator
below_trans : (x y z : Fraction) → 0 < x.denominator → AtMost x y → Below y z → Below x z
below_trans x y z positive h g =
    let one : x.numerator * y.denominator * z.denominator ≤ y.numerator * x.denominator * z.denominator = mul-le-mul_right z.denominator h in
    let two : y.numerator * z.denominator * x.denominator < z.numerator * y.denominator * x.denominator = mul-lt-mul_of_pos_right g positive in
    let left = mul_right_comm x.numerator y.denominator z.denominator in
    let middle = mul_right_comm y.numerator x.denominator z.denominator in
    let right = mul_right_comm z.numerator y.denominator x.denominator in
    lt_of_mul-lt-mul_right y.denominator (omega arith)

-- ---- the best of the first n
module _ (f : ℕ → Fraction) where
  pub record LargestBelow (n i : ℕ) : Type 0 where
    pub within : i < n
    pub counted : 0 < (f i).denominator
    pub none_larger : (j : ℕ) → j < n → 0 < (f j).denominator → AtMost (f j) (f i)
    pub none_earlier : (j : ℕ) → j < i → 0 < (f j).denominator → Below (f j) (f i)

  pub data BestBelow (n : ℕ) : Best → Type 0 where
    none_below : ((j : ℕ) → j < n → (f j).denominator ≡ 0) → BestBelow n None
    largest_below : (i : ℕ) → LargestBelow n i → BestBelow n (Some (i + 1, f i))

  -- a fact of those below n, and of n, at each below n + 1
  each_below : (P : ℕ → Type 0) (n : ℕ) → ((j : ℕ) → j < n → P j) → P n → (j : ℕ) → j < suc n → P j
  each_below P n h g j l = go (split j n l)
    where
      go : (j < n) ⊎ (j ≡ n) → P j
      go (inl m) = h j m
      go (inr e) = subst P (sym e) g

  -- one more, that is passed over
  passed : (n : ℕ) (best : Best) → (f n).denominator ≡ 0 → BestBelow n best → BestBelow (suc n) best
  passed n best e (none_below h) = none_below (each_below (λ j. (f j).denominator ≡ 0) n h e)
  passed n best e (largest_below i h) = largest_below i (record {
    within = omega (arith, h.within);
    counted = h.counted;
    none_larger = each_below (λ j. 0 < (f j).denominator → AtMost (f j) (f i)) n h.none_larger (λ p. absurd (omega arith));
    none_earlier = h.none_earlier;
  })

  -- one more, that is the first
  first_one : (n : ℕ) → 0 < (f n).denominator → ((j : ℕ) → j < n → (f j).denominator ≡ 0) → LargestBelow (suc n) n
  first_one n positive h = record {
    within = omega arith;
    counted = positive;
    none_larger = each_below (λ j. 0 < (f j).denominator → AtMost (f j) (f n)) n (λ j l p. absurd (omega (arith, h j l))) (λ p. omega arith);
    none_earlier = λ j l p. absurd (omega (arith, h j l));
  }

  -- one more, that is larger
  overtaken : (n i : ℕ) → 0 < (f n).denominator → LargestBelow n i → Below (f i) (f n) → LargestBelow (suc n) n
  overtaken n i positive h g = record {
    within = omega arith;
    counted = positive;
    none_larger = each_below (λ j. 0 < (f j).denominator → AtMost (f j) (f n)) n (λ j l p. let less = before j l p in omega (arith, less)) (λ p. omega arith);
    none_earlier = before;
  }
    where
      before : (j : ℕ) → j < n → 0 < (f j).denominator → Below (f j) (f n)
      before j l p = below_trans (f j) (f i) (f n) p (h.none_larger j l p) g

  -- one more, that is not
  stays : (n i : ℕ) → LargestBelow n i → AtMost (f n) (f i) → LargestBelow (suc n) i
  stays n i h g = record {
    within = omega (arith, h.within);
    counted = h.counted;
    none_larger = each_below (λ j. 0 < (f j).denominator → AtMost (f j) (f i)) n h.none_larger (λ p. g);
    none_earlier = h.none_earlier;
  }

  contested : (n : ℕ) (best : Best) → 0 < (f n).denominator → BestBelow n best → BestBelow (suc n) (against (n + 1) (f n) best)
  unfolding against larger
  contested n best positive (none_below h) = largest_below n (first_one n positive h)
  contested n best positive (largest_below i h) =
      chosen (BestBelow (suc n)) _ _ _ (λ e. largest_below n (overtaken n i positive h (ltb-true _ _ e)))
      (λ e. largest_below i (stays n i h (ltb-false _ _ e)))

  pub best_below : (n : ℕ) → BestBelow n (fold n (λ i best. considered (i + 1) (f i) best) None)
  unfolding fold considered
  best_below zero = none_below (λ j l. absurd (omega arith))
  best_below (suc n) =
      chosen (BestBelow (suc n)) _ _ _ (λ e. passed n _ (eqb-true _ 0 e) (best_below n))
      (λ e. contested n _ (omega (arith, eqb-false (f n).denominator 0 e)) (best_below n))

-- ---- the best of a list
module _ (xs : List Fraction) where
  -- past its end all are passed over
  past : (j : ℕ) → length xs ≤ j → (fraction_at xs j).denominator ≡ 0
  unfolding fraction_at fraction
  past j l = ap (λ (x : Fraction). x.denominator) (get_or-eq_default xs (fraction 0 0) l)

  within_list : (j : ℕ) → 0 < (fraction_at xs j).denominator → j < length xs
  within_list j p = go (dec_le (length xs) j)
    where
      go : Dec (length xs ≤ j) → j < length xs
      go (yes l) = let none = past j l in absurd (omega arith)
      go (no l) = omega arith

  none_at : ((j : ℕ) → j < length xs → (fraction_at xs j).denominator ≡ 0) → (j : ℕ) → (fraction_at xs j).denominator ≡ 0
  none_at h j = go (dec_le (length xs) j)
    where
      go : Dec (length xs ≤ j) → (fraction_at xs j).denominator ≡ 0
      go (yes l) = past j l
      go (no l) = h j (omega arith)

  whole : (best : Best) → BestBelow (fraction_at xs) (length xs) best → BestIs xs best
  whole best (none_below h) = none_there (none_at h)
  whole best (largest_below i h) = largest i (record {
    counted = h.counted;
    none_larger = λ j p. h.none_larger j (within_list j p) p;
    none_earlier = h.none_earlier;
  })

  pub best_is : BestIs xs (best_of xs)
  unfolding best_of
  best_is = whole _ (best_below (fraction_at xs) (length xs))
