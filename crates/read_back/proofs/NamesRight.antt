-- The names of a net's source (`Names.antt` and `Compiled.antt` of `linking`): each is right, and the name j stands for place j.
-- Assumes nothing.
use Prim.Native.Nat.{ℕ, zero, suc, ◌<◌, ◌≤◌}
use mathlib.Core.Path.{◌≡◌, refl, ap, ◌∙◌}
use mathlib.Core.Bool.{true}
use mathlib.Core.List.{List, [], ◌++◌}
use native.Mathlib.Omega.{arith}
use native.Mathlib.Decide.{dec_le}
use lib.Dec.{leb}
use borrow.Author.Tests.{le-leb, leb-true}
use Rattle.net.specs.Records.{place_of}
use Rattle.net.proofs.Laws.{both_i, implies_i, all_i}
use Rattle.terms.specs.Numbering.{here, called, uses}
use Rattle.linking.specs.Source.{Line}
use Rattle.linking.specs.Compiled.{settle, settled, is_here, number_of, place_in}
use Rattle.linking.specs.Names.{uses_line, used, defined, name_right, names_right}
use Rattle.sources.specs.WellFormed.{Each}
use Rattle.read_back.specs.Types.{Instruction}
use Rattle.read_back.specs.NetSource.{body_of}
use Rattle.read_back.proofs.EachLaws.{each_append, each_listed, each_alone}
use Rattle.read_back.proofs.LineLists.{defined_append, used_below}
use Rattle.read_back.proofs.Definitions.{definitions, found_at, never_defined, once_defined}
use Rattle.read_back.proofs.Located.{Located, located_below, located_defined}

settle_here : (h n : ℕ) (ls : List Line) → settle h ls (here n) ≡ here n
unfolding settle
settle_here zero n ls = refl
settle_here (suc h) n ls = refl

-- k definitions, and lines at addresses behind them
module _ (c : ℕ → Instruction) (k : ℕ) (rest : List Line) where
  abbrev lines : List Line
  lines = definitions c k ++ rest

  settled_at : (j : ℕ) → j < k → settled lines (called j) ≡ here j
  unfolding settled settle
  settled_at j h = ap (settle 511 lines) (found_at c j k rest h) ∙ settle_here 511 j lines

  pub name_stands : (j : ℕ) → j < k → place_in lines (called j) ≡ place_of j
  unfolding place_in number_of
  name_stands j h = ap (λ x. place_of (number_of x)) (settled_at j h)

  module _ (below : (i j : ℕ) → i < k → uses j (body_of (c i)) ≡ true → j < k) (located : Each (λ before. Located k) (definitions c k) rest) where
    all_below : (j : ℕ) → used j lines ≡ true → j < k
    unfolding uses_line
    all_below =
        used_below k {ms = []} lines
        (each_append rest (each_listed [] k _ (λ i l j. below i j l)) (each_alone _ (located_below k) located))

    known : (j : ℕ) → j < k → name_right lines j ≡ true
    unfolding name_right is_here
    known j h =
        let once = once_defined c j k h in
        let none = located_defined j rest located in
        let whole : defined j lines ≡ 1 = omega (arith, defined_append j (definitions c k) rest) in
        both_i _ _ (le-leb (defined j lines) 1 (omega arith))
        (both_i _ _ (implies_i _ _ (λ e. le-leb 1 (defined j lines) (omega arith)))
        (implies_i _ _ (λ e. ap is_here (settled_at j h))))

    unknown : (j : ℕ) → k ≤ j → name_right lines j ≡ true
    unfolding name_right
    unknown j h =
        let never = never_defined c j k h in
        let none = located_defined j rest located in
        let whole : defined j lines ≡ 0 = omega (arith, defined_append j (definitions c k) rest) in
        both_i _ _ (le-leb (defined j lines) 1 (omega arith))
        (both_i _ _ (implies_i (used j lines) _ (λ e. absurd (omega (arith, all_below j e))))
        (implies_i (leb 1 (defined j lines)) _ (λ e. absurd (omega (arith, leb-true 1 (defined j lines) e)))))

    pub names_right_law : names_right lines ≡ true
    unfolding names_right
    names_right_law = all_i 512 _ (λ j h. go j (dec_le k j))
      where
        go : (j : ℕ) → Dec (k ≤ j) → name_right lines j ≡ true
        go j (yes l) = unknown j l
        go j (no l) = known j (omega arith)
