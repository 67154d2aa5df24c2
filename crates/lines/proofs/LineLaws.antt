-- Laws by which the writing of lines meets their definitions (`specs/Lines.antt`). Assumes nothing.
use Prim.Native.Nat.{ℕ, ◌+◌, ◌≤◌}
use mathlib.Core.Path.{◌≡◌, refl, sym, ap, subst, ◌∙◌}
use mathlib.Core.Bool.{Bool, true, false}
use mathlib.Core.List.{List, []}
use native.Mathlib.Omega.{arith}
use Rattle.net.specs.Choice.{choose}
use Rattle.net.specs.Records.{node_at, address_of}
use Rattle.net.proofs.Laws.{choose_true, choose_false}
use Rattle.net.proofs.FoldLaws.{fold_none, fold_more}
use Rattle.text.specs.Writing.{Wrote}
use Rattle.text.proofs.WritingLaws.{wrote_nothing}
use Rattle.names.specs.Names.{places_from, places_of, first_of, fault_among, list_fault, names_fault, found_among, found_in, no_name, stretch_for, stretch_after}
use Rattle.names.specs.Names.{bytes_of, name_after, name_of}
use Rattle.lines.specs.Types.{Net}
use Rattle.lines.specs.Shown.{Parts, unnamed, named}
use Rattle.lines.specs.Lines.{fewer}
use Rattle.lines.specs.Lines.{tuples_below, tuple_count}
use Rattle.lines.proofs.WordLaws.{fewer_min}
use Rattle.std.proofs.Common.{min}

-- empty lists give none
pub named_none : (parts : Parts) → named parts [] [] ≡ unnamed parts
unfolding named unnamed name_of name_after names_fault list_fault fault_among places_of places_from first_of stretch_after stretch_for found_in found_among no_name bytes_of choose
named_none parts = refl

-- ---- the total
module _ (s : Net) where
  pub tuples_none : 0 ≡ tuples_below s 0
  unfolding tuples_below
  tuples_none = fold_none _ 0 0 refl

  -- one address more is counted
  pub tuples_more :
      (i n k : ℕ) → n ≡ tuples_below s i → k ≡ min (node_at s (address_of i)).stored 16 → n + k ≡ tuples_below s (i + 1)
  unfolding tuples_below
  tuples_more i n k e f = fold_more _ 0 i n (n + k) e (ap (λ (m : ℕ). n + m) (f ∙ sym (fewer_min _ 16)))

  pub tuples_all :
      (i n k : ℕ) → k ≡ tuples_below s i → i ≤ n → n ≤ i → n ≡ min s.addresses 16 → k ≡ tuple_count s
  unfolding tuple_count
  tuples_all i n k e l m f =
      let same : i ≡ fewer s.addresses 16 = rw fewer_min (omega arith) in e ∙ ap (tuples_below s) same

-- ---- what may be left out
module _ {A : Type 0} (g : List A → List ℕ) (none : g [] ≡ []) (xs : List ℕ) (at : ℕ) (t : Bool) (part : List A) where
  pub part_shown : (ys : List ℕ) (r : ℕ) → t ≡ true → Wrote xs at (g part) ys r → Wrote xs at (g (choose t part [])) ys r
  part_shown ys r e h = subst (λ (u : List A). Wrote xs at (g u) ys r) (sym (choose_true t part [] e)) h

  pub part_left : t ≡ false → Wrote xs at (g (choose t part [])) xs at
  part_left e =
      subst (λ (u : List A). Wrote xs at (g u) xs at) (sym (choose_false t part [] e))
      (subst (λ (u : List ℕ). Wrote xs at u xs at) (sym none) (wrote_nothing xs at))
