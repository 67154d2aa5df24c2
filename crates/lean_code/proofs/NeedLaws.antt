-- Laws of the loops over needs (`specs/Needs.antt`). Assumes nothing.
use Prim.Native.Nat.{ℕ, ◌+◌, ◌≤◌}
use mathlib.Core.Path.{◌≡◌, ap, ◌∙◌}
use mathlib.Core.Bool.{Bool, false, ◌||◌}
use mathlib.Core.List.{List}
use lib.ListN.{get_or, set, replicate}
use Rattle.net.specs.Choice.{fold}
use Rattle.net.specs.Records.{address_of}
use Rattle.net.specs.Groups.{member}
use Rattle.net.proofs.FoldLaws.{fold_more, fold_end}
use Rattle.keeping.specs.Reaching.{reached_of}
use Rattle.lean_code.specs.Types.{Place, Group, Instruction}
use Rattle.lean_code.specs.Needs.{add_member, add_reached, needs_of}

-- one member more
pub member_more :
    (need xs : List Bool) (g : Group) (i : ℕ) (b : Bool) → xs ≡ fold i (add_member g) need → b ≡ member g (address_of i)
    → set xs (i + 32) (get_or xs (i + 32) false || b) ≡ fold (i + 1) (add_member g) need
unfolding add_member
member_more need xs g i b e h =
    fold_more (add_member g) need i xs _ e (ap (λ (x : Bool). set xs (i + 32) (get_or xs (i + 32) false || x)) h)

-- every place is passed
pub needs_end :
    (code : List Instruction) (p : Place) (marks need : List Bool) (i : ℕ) → marks ≡ reached_of code p
    → need ≡ fold i (add_reached code marks) (replicate 69 false) → i ≤ 512 → 512 ≤ i → need ≡ needs_of code p
unfolding needs_of
needs_end code p marks need i m e l h =
    fold_end (add_reached code marks) (replicate 69 false) i 512 need e l h
    ∙ ap (λ (ms : List Bool). fold 512 (add_reached code ms) (replicate 69 false)) m
