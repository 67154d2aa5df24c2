-- Arrays whose first places are given by a function (`specs/Filled.antt`): the loop that fills one, and what stands in it.
-- Assumes nothing.
use Prim.Native.Nat.{ℕ, zero, suc, ◌+◌, ◌<◌, ◌≤◌}
use mathlib.Core.Path.{◌≡◌, refl, sym, ap, ◌∙◌}
use mathlib.Core.Logic.{◌≢◌, ◌⊎◌, inl, inr}
use mathlib.Core.List.{List}
use native.Mathlib.Omega.{arith}
use native.Mathlib.Decide.{ℕ_discrete}
use lib.ListN.{length, get_or, set, length-set}
use lib.Seq.{get_or-set_same, get_or-set_other, ext_get_or}
use Rattle.net.specs.Choice.{fold}
use Rattle.net.proofs.Laws.{split}
use Rattle.net.proofs.FoldLaws.{fold_none, fold_more, fold_end}
use Rattle.lean_words.specs.Filled.{filled}

module _ {A : Type 0} (f : ℕ → A) (start : List A) where
  -- ---- the loop
  pub filled_none : (xs : List A) → xs ≡ start → xs ≡ filled 0 f start
  unfolding filled
  filled_none xs e = fold_none _ start xs e

  pub filled_more : (i : ℕ) (xs : List A) (x : A) → xs ≡ filled i f start → x ≡ f i → set xs i x ≡ filled (i + 1) f start
  unfolding filled
  filled_more i xs x p q = fold_more _ start i xs _ p (ap (set xs i) q)

  pub filled_end : (i n : ℕ) (xs : List A) → xs ≡ filled i f start → i ≤ n → n ≤ i → xs ≡ filled n f start
  unfolding filled
  filled_end i n xs p l g = fold_end _ start i n xs p l g

  -- ---- what stands in it
  pub length_filled : (n : ℕ) → length (filled n f start) ≡ length start
  unfolding filled fold
  length_filled zero = refl
  length_filled (suc n) = length-set (filled n f start) n (f n) ∙ length_filled n

  pub filled_past : (d : A) (n i : ℕ) → n ≤ i → get_or (filled n f start) i d ≡ get_or start i d
  unfolding filled fold
  filled_past d zero i h = refl
  filled_past d (suc n) i h =
      get_or-set_other (filled n f start) n i (f n) d (λ e. omega arith) ∙ filled_past d n i (omega arith)

  pub filled_at : (d : A) (n i : ℕ) → i < n → i < length start → get_or (filled n f start) i d ≡ f i
  unfolding filled fold
  filled_at d zero i h l = absurd (omega arith)
  filled_at d (suc n) i h l = go (λ u. filled_at d n i u l) (split i n h)
    where
      go : (i < n → get_or (filled n f start) i d ≡ f i) → (i < n) ⊎ (i ≡ n) → get_or (filled (suc n) f start) i d ≡ f i
      go below (inl u) = get_or-set_other (filled n f start) n i (f n) d (λ e. omega arith) ∙ below u
      go below (inr e) = rw e (get_or-set_same (filled n f start) n (f n) d (omega (arith, length_filled n)))

-- ---- arrays that are filled whole
module _ {A : Type 0} (d : A) (n : ℕ) (f : ℕ → A) (start : List A) (size : length start ≡ n) where
  -- they are the arrays that have these elements
  pub filled_whole : (xs : List A) → length xs ≡ n → ((i : ℕ) → i < n → f i ≡ get_or xs i d) → filled n f start ≡ xs
  filled_whole xs e same =
      ext_get_or d _ xs (length_filled f start n ∙ size ∙ sym e)
      (λ i h. let l : i < n = omega (arith, length_filled f start n) in filled_at f start d n i l (omega arith) ∙ same i l)

  pub filled_same :
      (g : ℕ → A) (other : List A) → length other ≡ n → ((i : ℕ) → i < n → f i ≡ g i) → filled n f start ≡ filled n g other
  filled_same g other e same =
      filled_whole (filled n g other) (length_filled g other n ∙ e)
      (λ i h. same i h ∙ sym (filled_at g other d n i h (omega arith)))

  -- one place anew, and every other as it was
  pub filled_set :
      (g : ℕ → A) (k : ℕ) (x : A) → ((i : ℕ) → i < n → i ≢ k → f i ≡ g i) → (k < n → f k ≡ x)
      → filled n f start ≡ set (filled n g start) k x
  filled_set g k x same here =
      filled_whole (set (filled n g start) k x) (length-set (filled n g start) k x ∙ length_filled g start n ∙ size)
      (λ i h. go i h (ℕ_discrete i k))
    where
      go : (i : ℕ) → i < n → Dec (i ≡ k) → f i ≡ get_or (set (filled n g start) k x) i d
      go i h (yes p) =
          rw p (here (omega arith) ∙ sym (get_or-set_same (filled n g start) k x d (omega (arith, length_filled g start n))))
      go i h (no p) = same i h p ∙ sym (get_or-set_other (filled n g start) k i x d p ∙ filled_at g start d n i h (omega arith))
