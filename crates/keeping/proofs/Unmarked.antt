-- The marks of a search: how many places have none yet, that meeting a place moves one of them to the waiting ones, and that a
-- place stays marked. Assumes nothing.
use Prim.Native.Nat.{ℕ, zero, suc, ◌+◌, ◌<◌}
use mathlib.Core.Path.{◌≡◌, refl, sym, ap, ◌∙◌}
use mathlib.Core.Bool.{Bool, true, false, not}
use mathlib.Core.Logic.{◌⊎◌, inl, inr}
use mathlib.Core.List.{List, [], ◌∷◌, Memᴰ}
use native.Mathlib.Nat.{zero-add, not-suc-le-zero, le_of_suc-le-suc}
use native.Mathlib.Omega.{arith}
use native.Mathlib.Decide.{ℕ_discrete}
use lib.ListN.{length, get_or, set, replicate, length-set, length-replicate}
use lib.Seq.{get_or-set_same, get_or-set_other}
use lib.Dec.{ltb}
use borrow.Author.Tests.{ltb-true, lt-ltb, not-true, not-false}
use Rattle.net.specs.Choice.{choose, both}
use Rattle.keeping.specs.Types.{Place}
use Rattle.keeping.specs.Reaching.{Search, meet, meet_all}
use Rattle.keeping.specs.Worklist.{unmarked}
use Rattle.net.proofs.Laws.{both_l, both_r}

-- a mark set where there was none
pub unmarked_set :
    (marks : List Bool) (i : ℕ)
    → i < length marks
    → get_or marks i false ≡ false
    → unmarked (set marks i true) + 1 ≡ unmarked marks
unfolding unmarked
unmarked_set [] i h e = absurd (not-suc-le-zero h)
unmarked_set (true ∷ ms) zero h e = let z : ◌≡◌ {A = ℕ} 0 1 = cc in absurd (omega arith)
unmarked_set (false ∷ ms) zero h e = omega arith
unmarked_set (true ∷ ms) (suc i) h e = unmarked_set ms i (le_of_suc-le-suc h) e
unmarked_set (false ∷ ms) (suc i) h e = omega (arith, unmarked_set ms i (le_of_suc-le-suc h) e)

pub unmarked_replicate : (n : ℕ) → unmarked (replicate n false) ≡ n
unfolding unmarked
unmarked_replicate zero = refl
unmarked_replicate (suc n) = ap suc (unmarked_replicate n)

pub unmarked_at : (n i : ℕ) → get_or (replicate n false) i false ≡ false
unmarked_at zero i = refl
unmarked_at (suc n) zero = refl
unmarked_at (suc n) (suc i) = unmarked_at n i

-- ---- meeting a place: it was marked already or lies past the marks, or it is marked and waits now
pub meet_cases :
    (P : Search → Type 0) (s : Search) (p : Place)
    → ((p.0 < 512 → get_or s.marks p.0 false ≡ true) → P s)
    → (p.0 < 512
    → get_or s.marks p.0 false ≡ false
    → P (record { marks = set s.marks p.0 true; waiting = p ∷ s.waiting }))
    → P (meet s p)
unfolding meet choose both
meet_cases P s p old new = go _ refl
  where
    go : (b : Bool)
        → both (ltb p.0 512) (not (get_or s.marks p.0 false)) ≡ b
        → P (choose b (record { marks = set s.marks p.0 true; waiting = p ∷ s.waiting }) s)
    go true e = new (ltb-true _ _ (both_l _ _ e)) (not-true _ (both_r (ltb p.0 512) _ e))
    go false e = old (λ low. not-false _ (rw (lt-ltb p.0 512 low) at e))

-- what meeting each of the places keeps
pub meet_all_keeps :
    (P : Search → Type 0) (ps : List Place)
    → ((t : Search) (p : Place) → Memᴰ p ps → P t → P (meet t p))
    → (s : Search)
    → P s
    → P (meet_all s ps)
unfolding meet_all
meet_all_keeps P [] step s h = h
meet_all_keeps P (p ∷ ps) step s h =
    meet_all_keeps P ps (λ t q m. step t q (Memᴰ.tail m)) (meet s p) (step s p (Memᴰ.head refl) h)

-- ---- the waiting and the unmarked places together: m of them, in a search with its 512 marks
pub record Measured (m : ℕ) (s : Search) : Type 0 where
  pub long : length s.marks ≡ 512
  pub left : length s.waiting + unmarked s.marks ≡ m

pub measured_meet : (m : ℕ) (s : Search) (p : Place) → Measured m s → Measured m (meet s p)
measured_meet m s p h =
    meet_cases (Measured m) s p (λ _. h)
    (λ low off.
    record {
      long = length-set s.marks p.0 true ∙ h.long;
      left = omega (arith, unmarked_set s.marks p.0 (omega arith) off);
    })

pub measured_meet_all : (m : ℕ) (s : Search) (ps : List Place) → Measured m s → Measured m (meet_all s ps)
measured_meet_all m s ps h = meet_all_keeps (Measured m) ps (λ t p _. measured_meet m t p) s h

-- no place marked, none waiting
unfoldable pub fresh : Search
fresh = record { marks = replicate 512 false; waiting = [] }

pub fresh_measured : Measured 512 fresh
unfolding fresh
fresh_measured = record { long = length-replicate 512 false; left = zero-add _ ∙ unmarked_replicate 512 }

-- ---- a marked place stays marked
unfoldable pub Marked : List Bool → Place → Type 0
Marked marks q = get_or marks q.0 false ≡ true

pub marked_set : (marks : List Bool) (i j : ℕ) → get_or marks j false ≡ true → get_or (set marks i true) j false ≡ true
marked_set [] i j h = h
marked_set (m ∷ ms) zero zero h = refl
marked_set (m ∷ ms) zero (suc j) h = h
marked_set (m ∷ ms) (suc i) zero h = h
marked_set (m ∷ ms) (suc i) (suc j) h = marked_set ms i j h

pub set_marked : (marks : List Bool) (p q : Place) → Marked (set marks p.0 true) q → (q ≡ p) ⊎ Marked marks q
unfolding Marked
set_marked marks p q h =
    elim (ℕ_discrete q.0 p.0) [
      | yes e ↦ inl (λ i. record { 0 = e i })
      | no n ↦ inr (sym (get_or-set_other marks p.0 q.0 true false n) ∙ h)
    ]

pub marked_meet : (q : Place) (s : Search) (p : Place) → Marked s.marks q → Marked (meet s p).marks q
unfolding Marked
marked_meet q s p h =
    meet_cases (λ t. Marked t.marks q) s p (λ _. h) (λ _ _. marked_set s.marks p.0 q.0 h)

pub met_marked : {k : ℕ} (s : Search) (p : Place) → Measured k s → p.0 < 512 → Marked (meet s p).marks p
unfolding Marked
met_marked s p h low =
    meet_cases (λ t. Marked t.marks p) s p (λ old. old low)
    (λ _ _. get_or-set_same s.marks p.0 true false (omega arith))
