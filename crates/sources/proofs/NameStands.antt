-- A name stands for what its body starts with (`NameStands` of `specs/SourceClaims.antt`). Assumes nothing.
use Prim.Native.Nat.{ℕ, zero, suc, ◌+◌}
use mathlib.Core.Path.{◌≡◌, refl, sym, ap, ◌∙◌}
use mathlib.Core.Bool.{Bool, true, false}
use mathlib.Core.List.{List, [], ◌∷◌, ◌++◌}
use native.Mathlib.Omega.{arith}
use lib.Dec.{eqb, leb}
use borrow.Author.Tests.{eq-eqb, leb-true, le-leb}
use Rattle.net.specs.Choice.{choose, implies}
use Rattle.net.proofs.Laws.{both_l, both_r, implies_e, all_e, choose_true, choose_false}
use Rattle.net.proofs.ReadingLaws.{never}
use Rattle.terms.specs.Terms.{Process}
use Rattle.terms.specs.Numbering.{size, Start, here, called, start_of}
use Rattle.linking.specs.Source.{Line, definition, process, tuple}
use Rattle.linking.specs.Names.{used, defines, defined, name_right, names_right}
use Rattle.linking.specs.Compiled.{size_of, total, defined_in, settle, is_here, settled, number_of, place_in}
use Rattle.sources.specs.SourceClaims.{NameStands}

-- ---- the first definition of a name
module _ (k : ℕ) (p : Process) (ms : List Line) where
  once : (b : Bool) (a : ℕ) → choose b 1 0 + a ≡ 0 → b ≡ false
  unfolding choose
  once true a e = absurd (omega arith)
  once false a e = refl

  none_before : (b : Bool) (a : ℕ) → choose b 1 0 + a ≡ 0 → a ≡ 0
  unfolding choose
  none_before true a e = absurd (omega arith)
  none_before false a e = omega arith

  defined_at : (n : ℕ) (ls : List Line) → defined k ls ≡ 0 → defined_in k n (ls ++ (definition k p ∷ ms)) ≡ start_of (n + total ls) p
  unfolding defined_in total size_of defined defines
  defined_at n [] e =
      let z : n ≡ n + 0 = omega arith in
      choose_true _ _ _ (eq-eqb k k refl) ∙ ap (λ (i : ℕ). start_of i p) z
  defined_at n (definition j q ∷ ls) e =
      let z : n + size q + total ls ≡ n + (size q + total ls) = omega arith in
      choose_false _ _ _ (once (eqb k j) (defined k ls) e)
      ∙ defined_at (n + size q) ls (none_before (eqb k j) (defined k ls) e)
      ∙ ap (λ (i : ℕ). start_of i p) z
  defined_at n (process a q ∷ ls) e =
      let z : n + size q + total ls ≡ n + (size q + total ls) = omega arith in
      defined_at (n + size q) ls (omega arith) ∙ ap (λ (i : ℕ). start_of i p) z
  defined_at n (tuple a t ∷ ls) e =
      let z : n + total ls ≡ n + (0 + total ls) = omega arith in
      defined_at n ls (omega arith) ∙ ap (λ (i : ℕ). start_of i p) z

  counted_in : (ls : List Line) → defined k (ls ++ (definition k p ∷ ms)) ≡ defined k ls + (1 + defined k ms)
  unfolding defined defines choose
  counted_in [] = ap (λ (b : Bool). choose b 1 0 + defined k ms) (eq-eqb k k refl) ∙ omega arith
  counted_in (l ∷ ls) = let e = counted_in ls in omega arith

-- ---- one hop more than is needed makes no difference
module _ (ls : List Line) where
  settle_more : (h : ℕ) (x : Start) → is_here (settle h ls x) ≡ true → settle (suc h) ls x ≡ settle h ls x
  unfolding settle is_here
  settle_more zero (here n) e = refl
  settle_more zero (called k) e = never e
  settle_more (suc h) (here n) e = refl
  settle_more (suc h) (called k) e = settle_more h (defined_in k 0 ls) e

  settled_called : (k : ℕ) → is_here (settled ls (called k)) ≡ true → settled ls (called k) ≡ settled ls (defined_in k 0 ls)
  unfolding settled settle
  settled_called k e = sym (settle_more 511 (defined_in k 0 ls) e)

pub name_stands : NameStands
unfolding NameStands names_right name_right place_in
name_stands ls ms k p h e =
    let all = ls ++ (definition k p ∷ ms) in
    let right = all_e 512 _ e k h in
    let few = leb-true (defined k all) 1 (both_l _ _ right) in
    let count = counted_in k p ms ls in
    let rest = both_r (leb (defined k all) 1) _ right in
    let settles =
    implies_e (leb 1 (defined k all)) _ (both_r (implies (used k all) (leb 1 (defined k all))) _ rest)
    (le-leb 1 (defined k all) (omega arith)) in
    let z : 0 + total ls ≡ total ls = omega arith in
    ap (λ (x : Start). record { 0 = number_of x })
    (settled_called all k settles ∙ ap (settled all) (defined_at k p ms 0 ls (omega arith) ∙ ap (λ (i : ℕ). start_of i p) z))
