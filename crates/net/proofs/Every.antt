-- Arrays of which a fact is known at each place, and arrays that are filled up to a count: what `replicate`, `set` and
-- the bounded tests of `specs/Choice.antt` make of them.
-- Assumes nothing.
use Prim.Native.Nat.{ℕ, ◌+◌, ◌<◌, ◌≤◌}
use mathlib.Core.Path.{◌≡◌, refl, sym, subst, ◌∙◌}
use mathlib.Core.Logic.{◌≢◌}
use mathlib.Core.Bool.{Bool, true, false}
use mathlib.Core.List.{List}
use native.Mathlib.Omega.{arith}
use native.Mathlib.Decide.{ℕ_discrete, dec_le}
use lib.ListN.{length, get_or, set, replicate, length-set, length-replicate, get_or-replicate}
use lib.Seq.{get_or-set_same, get_or-set_other}
use lib.Dec.{ltb}
use borrow.Author.Tests.{ltb-true, ltb-false, lt-ltb, le-ltb}
use Rattle.net.specs.Choice.{choose, all}
use Rattle.net.proofs.Laws.{choose_e, choose_else, all_i, all_e}

-- ---- a choice has what both of its sides have
module _ {A : Type 0} (Q : A → Type 0) where
  pub chosen : (b : Bool) (x y : A) → (b ≡ true → Q x) → (b ≡ false → Q y) → Q (choose b x y)
  unfolding choose
  chosen true x y f g = f refl
  chosen false x y f g = g refl

  pub chosen_lt : (a b : ℕ) (x y : A) → (a < b → Q x) → (b ≤ a → Q y) → Q (choose (ltb a b) x y)
  chosen_lt a b x y f g = chosen (ltb a b) x y (λ e. f (ltb-true a b e)) (λ e. g (ltb-false a b e))

-- ---- at each place
pub record Every {A : Type 0} (P : ℕ → A → Type 0) (d : A) (size : ℕ) (xs : List A) : Type 0 where
  pub size_is : length xs ≡ size
  pub holds : (j : ℕ) → j < size → P j (get_or xs j d)

module _ {A : Type 0} (P : ℕ → A → Type 0) (d : A) (size : ℕ) where
  pub every_replicate : (a : A) → ((j : ℕ) → j < size → P j a) → Every P d size (replicate size a)
  every_replicate a f = record {
    size_is = length-replicate size a;
    holds = λ j h. subst (P j) (sym (get_or-replicate size j a d h)) (f j h);
  }

at_set :
    {A : Type 0} (Q : ℕ → A → Type 0) (d : A) (xs : List A) (i j : ℕ) (a : A) → j < length xs
    → (j ≢ i → Q j (get_or xs j d)) → Q i a → Dec (j ≡ i) → Q j (get_or (set xs i a) j d)
at_set Q d xs i j a h f q (yes p) =
    let l : i < length xs = omega arith in
    subst (λ (m : ℕ). Q m (get_or (set xs i a) m d)) (sym p) (subst (Q i) (sym (get_or-set_same xs i a d l)) q)
at_set Q d xs i j a h f q (no p) = subst (Q j) (sym (get_or-set_other xs i j a d p)) (f p)

module _ {A : Type 0} {P Q : ℕ → A → Type 0} {d : A} {size : ℕ} {xs : List A} where
  pub every_set :
      (i : ℕ) (a : A) → Every P d size xs → ((j : ℕ) (b : A) → j ≢ i → P j b → Q j b) → Q i a
      → Every Q d size (set xs i a)
  every_set i a e f q = record {
    size_is = length-set xs i a ∙ e.size_is;
    holds = λ j h.
        at_set Q d xs i j a (omega (arith, e.size_is)) (λ n. f j (get_or xs j d) n (e.holds j h)) q (ℕ_discrete j i);
  }

  pub every_weaken : Every P d size xs → ((j : ℕ) (b : A) → P j b → Q j b) → Every Q d size xs
  every_weaken e f = record { size_is = e.size_is; holds = λ j h. f j (get_or xs j d) (e.holds j h) }

-- ---- filled up to a count: U at each place below it, Z from it on
pub record Filled {A : Type 0} (U Z : A → Type 0) (count j : ℕ) (a : A) : Type 0 where
  pub used : j < count → U a
  pub unused : count ≤ j → Z a

module _ {A : Type 0} {U Z : A → Type 0} {d : A} {size count : ℕ} {xs : List A} where
  -- a place below the count is set anew
  pub filled_set :
      (i : ℕ) (a : A) → i < count → U a → Every (Filled U Z count) d size xs
      → Every (Filled U Z count) d size (set xs i a)
  filled_set i a h u e = every_set i a e (λ j b n f. f) (record { used = λ _. u; unused = λ l. absurd (omega arith) })

  -- the place at the count is set, and the count goes up
  pub filled_add :
      (a : A) → U a → Every (Filled U Z count) d size xs → Every (Filled U Z (count + 1)) d size (set xs count a)
  filled_add a u e =
      every_set count a e
      (λ j b n f. record { used = λ l. f.used (omega arith); unused = λ l. f.unused (omega arith) })
      (record { used = λ _. u; unused = λ l. absurd (omega arith) })

  -- what every record of both kinds has, the array has at each place
  pub filled_each :
      {Q : A → Type 0} → Every (Filled U Z count) d size xs → ((x : A) → U x → Q x) → ((x : A) → Z x → Q x)
      → (j : ℕ) → j < size → Q (get_or xs j d)
  filled_each {Q} e f g j h = go (dec_le count j)
    where
      go : Dec (count ≤ j) → Q (get_or xs j d)
      go (yes l) = g _ ((e.holds j h).unused l)
      go (no l) = f _ ((e.holds j h).used (omega arith))

  pub filled_at :
      {U₂ Z₂ : A → Type 0} → Every (Filled U Z count) d size xs
      → ((j : ℕ) → j < size → U (get_or xs j d) → U₂ (get_or xs j d)) → ((x : A) → Z x → Z₂ x)
      → Every (Filled U₂ Z₂ count) d size xs
  filled_at e f g = record {
    size_is = e.size_is;
    holds = λ j h. record { used = λ l. f j h ((e.holds j h).used l); unused = λ l. g _ ((e.holds j h).unused l) };
  }

  pub filled_map :
      {U₂ Z₂ : A → Type 0} → ((x : A) → U x → U₂ x) → ((x : A) → Z x → Z₂ x) → Every (Filled U Z count) d size xs
      → Every (Filled U₂ Z₂ count) d size xs
  filled_map f g e = filled_at e (λ j h. f _) g

  -- the computed test, and back
  pub filled_all :
      (p z : A → Bool) → Every (Filled U Z count) d size xs → ((x : A) → U x → p x ≡ true) → ((x : A) → Z x → z x ≡ true)
      → all size (λ j. choose (ltb j count) (p (get_or xs j d)) (z (get_or xs j d))) ≡ true
  filled_all p z e f g =
      all_i size _ (λ j h. chosen_lt (λ b. b ≡ true) j count _ _
      (λ l. f _ ((e.holds j h).used l)) (λ l. g _ ((e.holds j h).unused l)))

  pub all_filled :
      (p z : A → Bool) → length xs ≡ size
      → all size (λ j. choose (ltb j count) (p (get_or xs j d)) (z (get_or xs j d))) ≡ true
      → ((j : ℕ) → j < size → p (get_or xs j d) ≡ true → U (get_or xs j d))
      → ((j : ℕ) → j < size → z (get_or xs j d) ≡ true → Z (get_or xs j d)) → Every (Filled U Z count) d size xs
  all_filled p z e h f g = record {
    size_is = e;
    holds = λ j l. record {
      used = λ u. f j l (choose_e _ _ _ (all_e size _ h j l) (lt-ltb j count u));
      unused = λ u. g j l (choose_else _ _ _ (all_e size _ h j l) (le-ltb j count u));
    };
  }
