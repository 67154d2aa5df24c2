-- Lists of f at each number below n (`listed` of `specs/NetSource.antt`): their length, and what stands in an array whose last
-- places are all alike. Assumes nothing.
use Prim.Native.Nat.{ℕ, zero, suc, ◌+◌, ◌-◌, ◌<◌, ◌≤◌}
use mathlib.Core.Path.{◌≡◌, refl, sym, ap, ◌∙◌}
use mathlib.Core.Logic.{◌⊎◌, inl, inr}
use mathlib.Core.List.{List, [], ◌∷◌, ◌++◌, map}
use native.Mathlib.Omega.{arith}
use lib.ListN.{length, get_or, take, drop, replicate, length-append, length-drop, length-replicate, get_or-replicate}
use lib.ListN.{take-append-drop, get_or-append}
use lib.Seq.{take-suc, get_or-drop, get_or_at, ext_get_or}
use Rattle.text.specs.Joined.{joined}
use Rattle.text.proofs.WritingLaws.{joined_same}
use Rattle.net.proofs.Laws.{split}
use Rattle.net.proofs.Every.{Every, Filled}
use Rattle.read_back.specs.NetSource.{listed}

pub listed_same : {A : Type 0} (n : ℕ) (f g : ℕ → A) → ((i : ℕ) → i < n → f i ≡ g i) → listed n f ≡ listed n g
unfolding listed
listed_same {A} n f g h = joined_same n _ _ (λ i l. ap (λ (x : A). x ∷ []) (h i l))

pub listed_length : {A : Type 0} (n : ℕ) (f : ℕ → A) → length (listed n f) ≡ n
unfolding listed joined
listed_length zero f = refl
listed_length (suc n) f = let before = listed_length n f in omega (arith, length-append (listed n f) (f n ∷ []))

last_at :
    {A : Type 0} (n : ℕ) (f : ℕ → A) (d : A) (i : ℕ) → (i < n → get_or (listed n f) i d ≡ f i) → (i < n) ⊎ (i ≡ n)
    → get_or (listed n f ++ (f n ∷ [])) i d ≡ f i
last_at n f d i before (inl l) =
    get_or-append (listed n f) (f n ∷ []) d i (omega (arith, listed_length n f)) ∙ before l
last_at n f d i before (inr e) =
    get_or_at (listed n f) (f n) [] d i (listed_length n f ∙ sym e) ∙ ap f (sym e)

pub listed_at : {A : Type 0} (n : ℕ) (f : ℕ → A) (d : A) (i : ℕ) → i < n → get_or (listed n f) i d ≡ f i
unfolding listed joined
listed_at zero f d i h = absurd (omega arith)
listed_at (suc n) f d i h = last_at n f d i (listed_at n f d i) (split i n h)

pub map-append : {A B : Type 0} (f : A → B) (xs ys : List A) → map f (xs ++ ys) ≡ map f xs ++ map f ys
map-append f [] ys = refl
map-append {A} {B} f (x ∷ xs) ys = ap (λ (zs : List B). f x ∷ zs) (map-append f xs ys)

pub map_listed : {A B : Type 0} (f : A → B) (n : ℕ) (g : ℕ → A) → map f (listed n g) ≡ listed n (λ i. f (g i))
unfolding listed joined
map_listed f zero g = refl
map_listed {A} {B} f (suc n) g =
    map-append f (listed n g) (g n ∷ []) ∙ ap (λ (xs : List B). xs ++ (f (g n) ∷ [])) (map_listed f n g)

-- the first elements of a list
pub listed_take : {A : Type 0} (xs : List A) (d : A) (n : ℕ) → n ≤ length xs → listed n (λ i. get_or xs i d) ≡ take n xs
unfolding listed joined
listed_take xs d zero h = refl
listed_take {A} xs d (suc n) h =
    ap (λ (ys : List A). ys ++ (get_or xs n d ∷ [])) (listed_take xs d n (omega arith)) ∙ sym (take-suc xs n d h)

-- an array of which z stands from a count on
pub rest_is :
    {A : Type 0} (z d : A) (size count : ℕ) (xs : List A) → length xs ≡ size → ((i : ℕ) → count ≤ i → i < size → get_or xs i d ≡ z)
    → drop count xs ≡ replicate (size - count) z
rest_is z d size count xs e h =
    let long = length-drop count xs in
    ext_get_or d (drop count xs) (replicate (size - count) z) (long ∙ ap (λ (m : ℕ). m - count) e ∙ sym (length-replicate (size - count) z))
    (λ i l. get_or-drop count xs i d ∙ h (count + i) (omega arith) (omega arith)
    ∙ sym (get_or-replicate (size - count) i z d (omega arith)))

pub filled_is :
    {A : Type 0} {U : A → Type 0} {z d : A} {size count : ℕ} {xs : List A} → Every (Filled U (λ x. z ≡ x) count) d size xs
    → take count xs ++ replicate (size - count) z ≡ xs
filled_is {A} {z = z} {d} {size} {count} {xs} e =
    ap (λ (ys : List A). take count xs ++ ys)
    (sym (rest_is z d size count xs e.size_is (λ i l m. sym ((e.holds i m).unused l))))
    ∙ take-append-drop count xs
