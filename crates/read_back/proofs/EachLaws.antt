-- Lists of which a fact holds at each element, with those before it (`Each` of `specs/WellFormed.antt` of `sources`): one after
-- another, and parts joined. Assumes nothing.
use Prim.Native.Nat.{ℕ, zero, suc, ◌<◌}
use mathlib.Core.Path.{◌≡◌, sym, subst}
use mathlib.Core.Bool.{Bool, true}
use mathlib.Core.List.{List, [], ◌∷◌, ◌++◌, append-nil, append_assoc}
use native.Mathlib.Omega.{arith}
use Rattle.net.specs.Choice.{choose}
use Rattle.net.proofs.Every.{chosen}
use Rattle.text.specs.Joined.{joined}
use Rattle.sources.specs.WellFormed.{Each, none, more}
use Rattle.read_back.specs.NetSource.{listed}

module _ {A : Type 0} {R : List A → A → Type 0} where
  pub each_append : {xs ys : List A} (zs : List A) → Each R xs ys → Each R (xs ++ ys) zs → Each R xs (ys ++ zs)
  each_append zs (none {xs = xs}) e = subst (λ (ws : List A). Each R ws zs) (append-nil xs) e
  each_append zs (more {xs = xs} {y = y} {ys = ys} r h) e =
      more r (each_append zs h (subst (λ (ws : List A). Each R ws zs) (sym (append_assoc xs (y ∷ []) ys)) e))

  module _ (xs : List A) where
    pub each_joined : (n : ℕ) (f : ℕ → List A) → ((i : ℕ) → i < n → Each R (xs ++ joined i f) (f i)) → Each R xs (joined n f)
    unfolding joined
    each_joined zero f h = none
    each_joined (suc n) f h = each_append (f n) (each_joined n f (λ i l. h i (omega arith))) (h n (omega arith))

    pub each_listed : (n : ℕ) (f : ℕ → A) → ((i : ℕ) → i < n → R (xs ++ listed i f) (f i)) → Each R xs (listed n f)
    unfolding listed
    each_listed n f h = each_joined n _ (λ i l. more (h i l) none)

    -- an element that may be left away
    pub each_chosen : (b : Bool) (y : A) → (b ≡ true → R xs y) → Each R xs (choose b (y ∷ []) [])
    each_chosen b y h = chosen (Each R xs) b _ _ (λ e. more (h e) none) (λ e. none)

-- what is asked of each by itself
pub each_alone :
    {A : Type 0} {P Q : A → Type 0} {xs ys : List A} (zs : List A) → ((x : A) → P x → Q x) → Each (λ before. P) xs ys
    → Each (λ before. Q) zs ys
each_alone zs f none = none
each_alone zs f (more {y = y} p e) = more (f y p) (each_alone (zs ++ (y ∷ [])) f e)
