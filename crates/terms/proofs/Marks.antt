-- The marks of names (`marked` of `specs/Table.antt`) say which names a process uses (`uses` of `specs/Numbering.antt`).
-- Assumes nothing.
use Prim.Native.Nat.{ℕ, ◌<◌}
use mathlib.Core.Path.{◌≡◌, refl, ◌∙◌}
use mathlib.Core.Bool.{Bool, true, false}
use mathlib.Core.List.{List}
use native.Mathlib.Omega.{arith}
use native.Mathlib.Decide.{ℕ_discrete}
use lib.ListN.{get_or, length, set, length-set}
use lib.Seq.{get_or-set_same, get_or-set_other}
use lib.Dec.{eqb}
use Rattle.net.specs.Choice.{choose}
use Rattle.net.proofs.Laws.{if_eq, if_ne}
use Rattle.terms.specs.Terms.{Process, Action, nil, name, fork, act, out, input, read, eval, newloc, out_all}
use Rattle.terms.specs.Numbering.{uses, uses_in}
use Rattle.terms.specs.Table.{marked, marked_in}

-- ---- as many marks as before
mutual
  unfolding marked marked_in

  pub marked_length : (x : Process) (used : List Bool) → length (marked x used) ≡ length used
  marked_length nil used = refl
  marked_length (name k) used = length-set used k true
  marked_length (fork p q) used = marked_length q (marked p used) ∙ marked_length p used
  marked_length (act a p) used = marked_length p (marked_in a used) ∙ marked_in_length a used

  pub marked_in_length : (a : Action) (used : List Bool) → length (marked_in a used) ≡ length used
  marked_in_length (out c t) used = refl
  marked_in_length (input c t) used = refl
  marked_in_length (read c t) used = refl
  marked_in_length (eval p t) used = marked_length p used
  marked_in_length (newloc v) used = refl
  marked_in_length (out_all c g) used = refl

-- ---- which are marked

-- entry k, once entry j is set
pub entry_set : {A : Type 0} (xs : List A) (j k : ℕ) (v d : A) → k < length xs → get_or (set xs j v) k d ≡ choose (eqb k j) v (get_or xs k d)
entry_set {A} xs j k v d h = go (ℕ_discrete k j)
  where
    go : Dec (k ≡ j) → get_or (set xs j v) k d ≡ choose (eqb k j) v (get_or xs k d)
    go (yes e) = if_eq _ _ _ k j e (rw e (get_or-set_same xs j v d (omega arith)))
    go (no e) = if_ne _ _ _ k j e (get_or-set_other xs j k v d e)

-- marked by the one before or by the one after
pub two_marks : (a b c m n : Bool) → n ≡ choose b true m → m ≡ choose a true c → n ≡ choose (choose a true b) true c
unfolding choose
two_marks true true c m n e f = e
two_marks true false c m n e f = e ∙ f
two_marks false true c m n e f = e
two_marks false false c m n e f = e ∙ f

mutual
  unfolding marked marked_in uses uses_in choose

  pub marked_uses :
      (x : Process) (k : ℕ) (used : List Bool) → k < length used
      → get_or (marked x used) k false ≡ choose (uses k x) true (get_or used k false)
  marked_uses nil k used h = refl
  marked_uses (name j) k used h = entry_set used j k true false h
  marked_uses (fork p q) k used h =
      two_marks (uses k p) (uses k q) _ _ _ (marked_uses q k (marked p used) (omega (arith, marked_length p used)))
      (marked_uses p k used h)
  marked_uses (act a p) k used h =
      two_marks (uses_in k a) (uses k p) _ _ _ (marked_uses p k (marked_in a used) (omega (arith, marked_in_length a used)))
      (marked_in_uses a k used h)

  pub marked_in_uses :
      (a : Action) (k : ℕ) (used : List Bool) → k < length used
      → get_or (marked_in a used) k false ≡ choose (uses_in k a) true (get_or used k false)
  marked_in_uses (out c t) k used h = refl
  marked_in_uses (input c t) k used h = refl
  marked_in_uses (read c t) k used h = refl
  marked_in_uses (eval p t) k used h = marked_uses p k used h
  marked_in_uses (newloc v) k used h = refl
  marked_in_uses (out_all c g) k used h = refl
