-- Rows as flags (`specs/Rights.antt`): what the loops make, and the tests of the code, which joins truth values by `&` and `|`.
-- Assumes nothing.
use Prim.Native.Nat.{ℕ, ◌%◌, ◌<◌, ◌≤◌}
use mathlib.Core.Path.{◌≡◌, refl, ap}
use mathlib.Core.Bool.{Bool, true, false, not, ◌&&◌, ◌||◌}
use mathlib.Core.List.{List}
use native.Mathlib.Omega.{arith}
use lib.ListN.{get_or, set, replicate}
use Rattle.net.specs.Choice.{choose, both, implies, all, fold}
use Rattle.net.specs.Records.{rights_at, address_of, no_rights, zero_row}
use Rattle.net.proofs.AllLaws.{and_both, all_end}
use Rattle.net.proofs.FoldLaws.{fold_end}
use Rattle.lean_words.specs.Filled.{filled}
use Rattle.lean_words.specs.Rights.{with_flags, row_flags, rights_in, row_in, own_in, covered, admits_words}
use Rattle.lean_words.specs.Types.{Rights, Row}
use Rattle.lean_words.proofs.FilledLaws.{filled_none, filled_end}

-- ---- rows
pub flags_row :
    (r : Row) (fs : List Bool) (l : ℕ) → fs ≡ fold l (λ m gs. with_flags gs m (rights_at r (address_of m))) (replicate 65 false)
    → l ≤ 16 → 16 ≤ l → set fs 64 r.create ≡ row_flags r
unfolding row_flags
flags_row r fs l e h g = ap (λ (gs : List Bool). set gs 64 r.create) (fold_end _ _ l 16 fs e h g)

module _ (fs : List Bool) where
  pub rights_none : (r : Row) → r ≡ zero_row → r.rights ≡ filled 0 (rights_in fs) (replicate 16 no_rights)
  unfolding zero_row
  rights_none r e = filled_none _ _ _ (ap (λ (q : Row). q.rights) e)

  pub row_parts :
      (xs : List Rights) (l : ℕ) → xs ≡ filled l (rights_in fs) (replicate 16 no_rights) → l ≤ 16 → 16 ≤ l
      → ◌≡◌ {A = Row} (record { create = get_or fs 64 false; rights = xs }) (row_in fs)
  unfolding row_in
  row_parts xs l e h g = λ d. record { create = get_or fs 64 false; rights = filled_end _ _ l 16 xs e h g d }

-- ---- tests
or_choose : (a b : Bool) → (a || b) ≡ choose a true b
unfolding choose
or_choose true b = refl
or_choose false b = refl

or_implies : (a b c : Bool) → b ≡ c → (not a || b) ≡ implies a c
unfolding implies
or_implies true b c e = e
or_implies false b c e = refl

pub granted : (a x y : Bool) → (a || (x && y)) ≡ choose (both x y) true a
unfolding choose both
granted true true true = refl
granted true true false = refl
granted true false y = refl
granted false true true = refl
granted false true false = refl
granted false false y = refl

pub covered_is :
    (a b c d e f g h : Bool)
    → (((not a || e) && (not b || (e || f))) && ((not c || g) && (not d || h)))
    ≡ covered (record { take = a; read = b; put = c; send = d }) (record { take = e; read = f; put = g; send = h })
unfolding covered
covered_is a b c d e f g h =
    and_both _ _ _ _
    (and_both _ _ _ _ (or_implies a e e refl) (or_implies b (e || f) _ (or_choose e f)))
    (and_both _ _ _ _ (or_implies c g g refl) (or_implies d h h refl))

-- an address below 16 stands for itself
pub covered_at :
    (need fs : List Bool) (m : ℕ) (b : Bool) → m < 16 → b ≡ covered (rights_in need (m % 16)) (rights_in fs (m % 16))
    → b ≡ covered (rights_in need m) (rights_in fs m)
covered_at need fs m b h e = let p : m % 16 ≡ m = omega arith in rw p at e

pub admits_is :
    (need fs : List Bool) (l m : ℕ) (ok own : Bool) → ok ≡ all m (λ j. covered (rights_in need j) (rights_in fs j)) → m ≤ 16 → 16 ≤ m
    → own ≡ covered (own_in need) (rights_in fs (l % 16))
    → (ok && (own && (not (get_or need 64 false) || get_or fs 64 false))) ≡ admits_words need fs l
unfolding admits_words
admits_is need fs l m ok own e h g o =
    and_both _ _ _ _ (all_end m 16 _ ok e h g) (and_both _ _ _ _ o (or_implies (get_or need 64 false) _ _ refl))
