-- Lists, each of whose elements is good. Assumes nothing.
use Prim.Native.Nat.{ℕ, zero, suc, ◌<◌}
use mathlib.Core.List.{List, [], ◌∷◌, ◌++◌, map}
use native.Mathlib.Omega.{arith}
use lib.ListN.{get_or, length}

pub data Each {A : Type 0} (P : A → Type 0) : List A → Type 0 where
  none : Each P []
  more : {x : A} {xs : List A} → P x → Each P xs → Each P (x ∷ xs)

pub each_append : {A : Type 0} {P : A → Type 0} (xs : List A) (x : A) → Each P xs → P x → Each P (xs ++ (x ∷ []))
each_append [] x none h = more h none
each_append (y ∷ xs) x (more g e) h = more g (each_append xs x e h)

pub each_both : {A : Type 0} {P : A → Type 0} (xs ys : List A) → Each P xs → Each P ys → Each P (xs ++ ys)
each_both [] ys none e = e
each_both (x ∷ xs) ys (more h d) e = more h (each_both xs ys d e)

pub each_or : {A : Type 0} {P : A → Type 0} (xs : List A) (d : A) → Each P xs → P d → (i : ℕ) → P (get_or xs i d)
each_or [] d none h i = h
each_or (x ∷ xs) d (more g e) h zero = g
each_or (x ∷ xs) d (more g e) h (suc i) = each_or xs d e h i

pub each_at :
    {A : Type 0} {P : A → Type 0} (Q : A → Type 0) (d : A) (xs : List A) → Each P xs
    → ((i : ℕ) → i < length xs → P (get_or xs i d) → Q (get_or xs i d)) → Each Q xs
each_at Q d [] none h = none
each_at Q d (x ∷ xs) (more g e) h = more (h 0 (omega arith) g) (each_at Q d xs e (λ i l. h (suc i) (omega arith)))

pub each_map : {A B : Type 0} (Q : B → Type 0) (f : A → B) (xs : List A) → Each (λ x. Q (f x)) xs → Each Q (map f xs)
each_map Q f [] none = none
each_map Q f (x ∷ xs) (more h e) = more h (each_map Q f xs e)
