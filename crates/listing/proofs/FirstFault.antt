-- The answer names the first line at fault (`FirstFault` of `specs/ListingClaims.antt`). Assumes nothing.
use Prim.Native.Nat.{ℕ, zero, suc, ◌+◌}
use mathlib.Core.Path.{◌≡◌, refl, ap, subst}
use mathlib.Core.Bool.{Bool, true, false}
use mathlib.Core.List.{List, [], ◌∷◌}
use native.Mathlib.Omega.{arith}
use lib.ListN.{length}
use Rattle.std.specs.Prelude.{Err}
use Rattle.net.specs.Choice.{choose}
use Rattle.lines.specs.Words.{Word}
use Rattle.listing.specs.Listing.{Checked, Mismatch, carries, checked_from}
use Rattle.listing.specs.ListingClaims.{PaddedLine, PaddedBelow, FirstFault, no_fault, line_differs, lines_wanting, lines_left}
use Rattle.listing.proofs.Carrying.{line_carried, carried_line}

none_below : (wanted : List (List Word)) (lines : List (List ℕ)) → PaddedBelow 0 wanted lines
unfolding PaddedBelow
none_below wanted lines j h = absurd (omega arith)

more_below :
    (n : ℕ) (line : List Word) (wanted : List (List Word)) (x : List ℕ) (lines : List (List ℕ)) → PaddedLine line x
    → PaddedBelow n wanted lines → PaddedBelow (suc n) (line ∷ wanted) (x ∷ lines)
unfolding PaddedBelow
more_below n line wanted x lines p h zero l = p
more_below n line wanted x lines p h (suc j) l = h j (omega arith)

-- a line more at the front, which is carried
fault_later :
    (i : ℕ) (line : List Word) (wanted : List (List Word)) (x : List ℕ) (lines : List (List ℕ)) (c : Checked) → PaddedLine line x
    → FirstFault (i + 1) wanted lines c → FirstFault i (line ∷ wanted) (x ∷ lines) c
fault_later i line wanted x lines _ p (no_fault e h) = no_fault (ap suc e) (more_below _ line wanted x lines p h)
fault_later i line wanted x lines _ p (line_differs n l g h differs) =
    let same : i + suc n ≡ i + 1 + n = omega arith in
    subst (λ (k : ℕ). FirstFault i (line ∷ wanted) (x ∷ lines) (Err (Mismatch.Differs k))) same
    (line_differs (suc n) (omega arith) (omega arith) (more_below n line wanted x lines p h) differs)
fault_later i line wanted x lines _ p (lines_wanting l h) =
    let same : i + suc (length lines) ≡ i + 1 + length lines = omega arith in
    subst (λ (k : ℕ). FirstFault i (line ∷ wanted) (x ∷ lines) (Err (Mismatch.Wanting k))) same
    (lines_wanting (omega arith) (more_below _ line wanted x lines p h))
fault_later i line wanted x lines _ p (lines_left l h) =
    let same : i + suc (length wanted) ≡ i + 1 + length wanted = omega arith in
    subst (λ (k : ℕ). FirstFault i (line ∷ wanted) (x ∷ lines) (Err (Mismatch.LeftOver k))) same
    (lines_left (omega arith) (more_below _ line wanted x lines p h))

-- the first line differs
fault_here :
    (i : ℕ) (line : List Word) (wanted : List (List Word)) (x : List ℕ) (lines : List (List ℕ)) → carries line x ≡ false
    → FirstFault i (line ∷ wanted) (x ∷ lines) (Err (Mismatch.Differs i))
fault_here i line wanted x lines e =
    let same : i + 0 ≡ i = omega arith in
    subst (λ (k : ℕ). FirstFault i (line ∷ wanted) (x ∷ lines) (Err (Mismatch.Differs k))) same
    (line_differs 0 (omega arith) (omega arith) (none_below _ _) (λ p. let t = line_carried p in let z : ◌≡◌ {A = ℕ} 0 1 = cc in omega arith))

pub fault_first :
    (i : ℕ) (wanted : List (List Word)) (lines : List (List ℕ)) → FirstFault i wanted lines (checked_from i wanted lines)
unfolding checked_from choose
fault_first i [] [] = no_fault refl (none_below _ _)
fault_first i [] (x ∷ lines) =
    subst (λ (k : ℕ). FirstFault i [] (x ∷ lines) (Err (Mismatch.LeftOver k))) (omega arith) (lines_left (omega arith) (none_below _ _))
fault_first i (line ∷ wanted) [] =
    subst (λ (k : ℕ). FirstFault i (line ∷ wanted) [] (Err (Mismatch.Wanting k))) (omega arith) (lines_wanting (omega arith) (none_below _ _))
fault_first i (line ∷ wanted) (x ∷ lines) = go (carries line x) refl (fault_first (i + 1) wanted lines)
  where
    go : (b : Bool) → carries line x ≡ b → FirstFault (i + 1) wanted lines (checked_from (i + 1) wanted lines)
        → FirstFault i (line ∷ wanted) (x ∷ lines) (choose b (checked_from (i + 1) wanted lines) (Err (Mismatch.Differs i)))
    go true e h = fault_later i line wanted x lines _ (carried_line line x e) h
    go false e h = fault_here i line wanted x lines e
