-- Laws of words in a table (`specs/Table.antt`). Assumes nothing.
use Prim.Native.Nat.{ℕ, suc, ◌+◌, ◌<◌, ◌≤◌}
use mathlib.Core.Path.{◌≡◌, refl, sym, ap, ◌∙◌}
use mathlib.Core.List.{List, [], ◌∷◌, ◌++◌}
use native.Mathlib.Omega.{arith}
use native.Mathlib.Numerals.{add-one}
use lib.ListN.{length, get_or, set, take}
use lib.Seq.{set_out, take-suc, take_all}
use Rattle.std.proofs.lemmas.List.{length-take-le}
use Rattle.text.specs.Buffer.{over}
use Rattle.text.proofs.WritingLaws.{over_both}

-- ---- words stored past the end of a table change nothing
pub over_past : {A : Type 0} (xs : List A) (at : ℕ) (ys : List A) → length xs ≤ at → xs ≡ over xs at ys
unfolding over
over_past xs at [] h = refl
over_past {A} xs at (y ∷ ys) h =
    over_past xs (suc at) ys (omega arith) ∙ ap (λ (zs : List A). over zs (suc at) ys) (sym (set_out xs at y h))

-- ---- one word more
over_one : {A : Type 0} (xs : List A) (at : ℕ) (x : A) → set xs at x ≡ over xs at (x ∷ [])
unfolding over
over_one xs at x = refl

pub over_more :
    {A : Type 0} (xs : List A) (at : ℕ) (ys : List A) (i : ℕ) (d : A) → i < length ys
    → set (over xs at (take i ys)) (at + i) (get_or ys i d) ≡ over xs at (take (i + 1) ys)
over_more {A} xs at ys i d h =
    let length_is : length (take i ys) ≡ i = length-take-le i ys (omega arith) in
    let next : take (i + 1) ys ≡ take i ys ++ (get_or ys i d ∷ []) = ap (λ (k : ℕ). take k ys) (add-one i) ∙ take-suc ys i d h in
    over_one (over xs at (take i ys)) (at + i) (get_or ys i d)
    ∙ ap (λ (j : ℕ). over (over xs at (take i ys)) (at + j) (get_or ys i d ∷ [])) (sym length_is)
    ∙ over_both xs at (take i ys) (get_or ys i d ∷ [])
    ∙ ap (over xs at) (sym next)

pub over_whole : {A : Type 0} (xs : List A) (at : ℕ) (ys zs : List A) (i : ℕ) → length ys ≤ i → zs ≡ over xs at (take i ys) → zs ≡ over xs at ys
over_whole xs at ys zs i h e = e ∙ ap (over xs at) (take_all i ys h)

pub set_past : {A : Type 0} (xs : List A) (i : ℕ) (x : A) → length xs ≤ i → xs ≡ set xs i x
set_past xs i x h = sym (set_out xs i x h)
