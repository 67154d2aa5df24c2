-- Arrays that are changed at each place below a bound, one place after another (`fold` of net's `specs/Choice.antt`).
-- Assumes nothing.
use Prim.Native.Nat.{ℕ, zero, suc, ◌<◌, ◌≤◌}
use mathlib.Core.Path.{◌≡◌, refl, sym, ap, ◌∙◌}
use mathlib.Core.Logic.{◌≢◌, ◌⊎◌, inl, inr}
use mathlib.Core.List.{List}
use native.Mathlib.Omega.{arith}
use native.Mathlib.Decide.{ℕ_discrete}
use lib.ListN.{length, get_or, set, length-set}
use lib.Seq.{get_or-set_same, get_or-set_other, set-get_or, ext_get_or}
use Rattle.net.specs.Choice.{fold}
use Rattle.net.proofs.Laws.{split}

module _ {A : Type 0} (d : A) where
  unfoldable pub each : (ℕ → A → A) → ℕ → List A → List A
  each f n xs = fold n (λ i ys. set ys i (f i (get_or ys i d))) xs

  length_each : (f : ℕ → A → A) (n : ℕ) (xs : List A) → length (each f n xs) ≡ length xs
  unfolding each fold
  length_each f zero xs = refl
  length_each f (suc n) xs = length-set (each f n xs) n _ ∙ length_each f n xs

  pub each_same :
      (f g : ℕ → A → A) (n : ℕ) (xs : List A) → ((i : ℕ) (x : A) → i < n → g i x ≡ f i x) → each g n xs ≡ each f n xs
  unfolding each fold
  each_same f g zero xs h = refl
  each_same f g (suc n) xs h =
      rw (each_same f g n xs (λ i x l. h i x (omega arith)), h n (get_or (each f n xs) n d) (omega arith)) refl

  -- where each place keeps what it has
  pub each_none : (f : ℕ → A → A) (n : ℕ) (xs : List A) → ((i : ℕ) → i < n → f i (get_or xs i d) ≡ get_or xs i d) → each f n xs ≡ xs
  unfolding each fold
  each_none f zero xs h = refl
  each_none f (suc n) xs h =
      rw (each_none f n xs (λ i l. h i (omega arith)), h n (omega arith)) (set-get_or xs n d)

  each_above : (f : ℕ → A → A) (n : ℕ) (xs : List A) (i : ℕ) → n ≤ i → get_or (each f n xs) i d ≡ get_or xs i d
  unfolding each fold
  each_above f zero xs i h = refl
  each_above f (suc n) xs i h =
      get_or-set_other (each f n xs) n i _ d (λ e. omega arith) ∙ each_above f n xs i (omega arith)

  pub each_at : (f : ℕ → A → A) (n : ℕ) (xs : List A) → n ≤ length xs → (i : ℕ) → i < n → get_or (each f n xs) i d ≡ f i (get_or xs i d)
  unfolding each fold
  each_at f zero xs l i h = absurd (omega arith)
  each_at f (suc n) xs l i h = go (each_at f n xs (omega arith) i) (split i n h)
    where
      go : (i < n → get_or (each f n xs) i d ≡ f i (get_or xs i d)) → (i < n) ⊎ (i ≡ n) → get_or (each f (suc n) xs) i d ≡ f i (get_or xs i d)
      go below (inl u) = get_or-set_other (each f n xs) n i _ d (λ e. omega arith) ∙ below u
      go below (inr e) =
          rw e (get_or-set_same (each f n xs) n _ d (omega (arith, length_each f n xs)) ∙ ap (f n) (each_above f n xs n (omega arith)))

  -- one place set before, and what is done at every other place is the same
  pub each_set :
      (f g : ℕ → A → A) (n : ℕ) (xs : List A) (k : ℕ) (y : A) → length xs ≡ n → k < n
      → ((i : ℕ) (x : A) → i < n → i ≢ k → g i x ≡ f i x) → each g n (set xs k y) ≡ set (each f n xs) k (g k y)
  each_set f g n xs k y e h same =
      ext_get_or d _ _ (length_each g n (set xs k y) ∙ length-set xs k y ∙ sym (length-set (each f n xs) k _ ∙ length_each f n xs))
      (λ i l. at i (omega (arith, length_each g n (set xs k y), length-set xs k y)) (ℕ_discrete i k))
    where
      at : (i : ℕ) → i < n → Dec (i ≡ k) → get_or (each g n (set xs k y)) i d ≡ get_or (set (each f n xs) k (g k y)) i d
      at i l (yes p) =
          rw p (each_at g n (set xs k y) (omega (arith, length-set xs k y)) k h ∙ ap (g k) (get_or-set_same xs k y d (omega arith))
          ∙ sym (get_or-set_same (each f n xs) k (g k y) d (omega (arith, length_each f n xs))))
      at i l (no p) =
          each_at g n (set xs k y) (omega (arith, length-set xs k y)) i l ∙ ap (g i) (get_or-set_other xs k i y d p)
          ∙ same i (get_or xs i d) l p ∙ sym (each_at f n xs (omega arith) i l)
          ∙ sym (get_or-set_other (each f n xs) k i (g k y) d p)
