-- The figures of one run more, from those of the runs before it. Assumes nothing.
use Prim.Native.Nat.{ℕ, zero, suc, ◌+◌, ◌<◌}
use mathlib.Core.Path.{◌≡◌, refl, ap, ◌∙◌}
use mathlib.Core.List.{List, [], ◌∷◌, ◌++◌, map}
use native.Mathlib.Omega.{arith}
use lib.ListN.{length, length-map, get_or-append}
use lib.Seq.{get_or-append_seam}
use Rattle.std.specs.Prelude.{Some, None}
use Rattle.net.specs.Choice.{fold}
use Rattle.season.specs.Types.{Locality}
use Rattle.season.specs.Fractions.{Fraction, fraction, Best, considered, fraction_at, best_of}
use Rattle.season.specs.Season.{MadeRun, share_at, summed, shares_at, best_at}

-- ---- lists
pub length_more : {A : Type 0} (xs : List A) (x : A) → length (xs ++ x ∷ []) ≡ suc (length xs)
length_more [] x = refl
length_more (y ∷ xs) x = ap suc (length_more xs x)

map_more : {A B : Type 0} (f : A → B) (xs : List A) (x : A) → map f (xs ++ x ∷ []) ≡ map f xs ++ f x ∷ []
map_more f [] x = refl
map_more f (y ∷ xs) x = ap (λ (zs : List _). f y ∷ zs) (map_more f xs x)

-- ---- sums
pub summed_more : (f : MadeRun → ℕ) (ms : List MadeRun) (m : MadeRun) → summed (map f (ms ++ m ∷ [])) ≡ summed (map f ms) + f m
unfolding summed
summed_more f [] m = omega arith
summed_more f (n ∷ ms) m = let rest = summed_more f ms m in omega (arith, rest)

-- ---- the best
pub fold_same :
    {A : Type 0} (n : ℕ) (f g : ℕ → A → A) (a : A) → ((i : ℕ) → i < n → (x : A) → f i x ≡ g i x) → fold n f a ≡ fold n g a
unfolding fold
fold_same zero f g a h = refl
fold_same (suc n) f g a h =
    ap (f n) (fold_same n f g a (λ i l. h i (omega arith))) ∙ h n (omega arith) (fold n g a)

module _ (xs : List Fraction) (x : Fraction) where
  abbrev longer : List Fraction
  longer = xs ++ x ∷ []

  earlier : (i : ℕ) → i < length xs → fraction_at longer i ≡ fraction_at xs i
  unfolding fraction_at
  earlier i l = get_or-append xs (x ∷ []) (fraction 0 0) i l

  last : fraction_at longer (length xs) ≡ x
  unfolding fraction_at
  last = get_or-append_seam xs x [] (fraction 0 0)

  abbrev turn : List Fraction → ℕ → Best → Best
  turn ys i best = considered (i + 1) (fraction_at ys i) best

  best_more : best_of longer ≡ considered (length xs + 1) x (best_of xs)
  unfolding best_of fold
  best_more =
      ap (λ (n : ℕ). fold n (turn longer) None) (length_more xs x)
      ∙ ap (λ (y : Fraction). considered (length xs + 1) y (fold (length xs) (turn longer) None)) last
      ∙ ap (considered (length xs + 1) x)
      (fold_same (length xs) (turn longer) (turn xs) None (λ i l best. ap (λ (y : Fraction). considered (i + 1) y best) (earlier i l)))

pub best_at_more :
    (l : Locality) (ms : List MadeRun) (m : MadeRun)
    → best_at l (ms ++ m ∷ []) ≡ considered (length ms + 1) (share_at l m) (best_at l ms)
unfolding best_at shares_at
best_at_more l ms m =
    ap best_of (map_more (share_at l) ms m) ∙ best_more (map (share_at l) ms) (share_at l m)
    ∙ ap (λ (n : ℕ). considered (n + 1) (share_at l m) (best_of (map (share_at l) ms))) (length-map ms (share_at l))
