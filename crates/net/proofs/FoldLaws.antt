-- Laws of the loops that change one value at each number below a bound (`fold` of `specs/Choice.antt`), stated over what
-- a turn does. Assumes nothing.
use Prim.Native.Nat.{ℕ, zero, suc, ◌+◌, ◌<◌, ◌≤◌}
use mathlib.Core.Path.{◌≡◌, refl, ap, ◌∙◌}
use mathlib.Core.Bool.{Bool, true, false, cond}
use mathlib.Core.List.{List, [], ◌∷◌}
use lib.ListN.{length, get_or}
use native.Mathlib.Omega.{arith}
use native.Mathlib.Numerals.{add-one}
use Rattle.std.specs.List.{count_by}
use Rattle.net.specs.Choice.{choose, fold}

module _ {A : Type 0} (f : ℕ → A → A) (a : A) where
  -- no turn is made
  pub fold_none : (x : A) → x ≡ a → x ≡ fold 0 f a
  unfolding fold
  fold_none x e = e

  -- turn i, on what the turns before it gave
  more : (i : ℕ) (x y : A) → x ≡ fold i f a → y ≡ f i x → y ≡ fold (suc i) f a
  unfolding fold
  more i x y p q = q ∙ ap (f i) p

  pub fold_more : (i : ℕ) (x y : A) → x ≡ fold i f a → y ≡ f i x → y ≡ fold (i + 1) f a
  fold_more i x y p q = rw add-one (more i x y p q)

  -- every turn is made
  pub fold_end : (i n : ℕ) (x : A) → x ≡ fold i f a → i ≤ n → n ≤ i → x ≡ fold n f a
  fold_end i n x p l g = let e : i ≡ n = omega arith in rw e at p

-- turns, each of which keeps a fact
module _ {A : Type 0} (P : ℕ → A → Type 0) (f : ℕ → A → A) (a : A) where
  pub fold_keeps :
      (size : ℕ) → P 0 a → ((i : ℕ) (x : A) → i < size → P i x → P (suc i) (f i x)) → P size (fold size f a)
  unfolding fold
  fold_keeps zero p turn = p
  fold_keeps (suc size) p turn =
      turn size _ (omega arith) (fold_keeps size p (λ i x h q. turn i x (omega arith) q))

-- how many of four elements pass a test, as a list counts them
module _ {A : Type 0} (p : A → Bool) (d : A) where
  one_more : (b : Bool) (m : ℕ) → choose b (m + 1) m ≡ m + cond b 1 0
  unfolding choose
  one_more true m = refl
  one_more false m = omega arith

  at_most : (b : Bool) → cond b 1 0 ≤ 1
  at_most true = omega arith
  at_most false = omega arith

  pub counted_four : (xs : List A) → length xs ≡ 4
      → (count_by p xs ≡ fold 4 (λ i m. choose (p (get_or xs i d)) (m + 1) m) 0) × (count_by p xs ≤ 4)
  unfolding fold
  counted_four (a ∷ b ∷ c ∷ e ∷ []) l = (simp one_more (omega arith), omega (arith, at_most (p a), at_most (p b), at_most (p c), at_most (p e)))
  counted_four [] l = absurd (omega arith)
  counted_four (a ∷ []) l = absurd (omega arith)
  counted_four (a ∷ b ∷ []) l = absurd (omega arith)
  counted_four (a ∷ b ∷ c ∷ []) l = absurd (omega arith)
  counted_four (a ∷ b ∷ c ∷ e ∷ f ∷ xs) l = absurd (omega arith)
