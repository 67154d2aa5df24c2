-- The loop of `search`: its locals stand for the search after some number of visits, and what it has judged, with the places
-- that wait, is what is marked. That the place on top is in range, as a visit needs it, is `NeverMoreWait`. Assumes nothing.
use Prim.Native.Nat.{ℕ, zero, suc, ◌+◌, ◌-◌, ◌*◌, ◌%◌, ◌^◌, ◌<◌, ◌≤◌}
use mathlib.Core.Path.{◌≡◌, refl, sym, ap, ◌∙◌}
use mathlib.Core.Bool.{Bool, true, false, not, ◌&&◌}
use mathlib.Core.Logic.{⊎_elim}
use mathlib.Core.List.{List, [], ◌∷◌}
use native.Mathlib.Nat.{zero-add, suc-add, mod-eq_of_lt}
use native.Mathlib.Decide.{dec_le}
use native.Mathlib.Omega.{arith}
use lib.ListN.{length, get_or, set, replicate, length-set}
use lib.Seq.{get_or-set_same}
use lib.Dec.{leb}
use borrow.Author.Tests.{le-leb, lt-leb}
use borrow.Author.Rules.{scaled_Fits}
use mir.Syntax.{w64}
use mir.Val.{Fits}
use Rattle.net.specs.Choice.{choose, both}
use Rattle.keeping.specs.Types.{Place, Action, Instruction}
use Rattle.net.specs.Records.{instruction_at, place_of}
use Rattle.keeping.specs.Reaching.{Search, meet, meet_all, followers, visit_first, visit, visits, started_at, reached_of}
use Rattle.keeping.specs.ReachingClaims.{waiting_at, WaitOnce, NeverMoreWait}
use Rattle.keeping.specs.Worklist.{unmarked, tops, search_of, good_marked, OnTop, Visited}
use Rattle.net.proofs.Laws.{both_i, both_l, both_r, both_both, both_swap, both_end, same_truth, implies_i, implies_e, all_i, all_e}
use Rattle.net.proofs.AllLaws.{and_both}
use Rattle.keeping.proofs.Unmarked.{unmarked_at, meet_cases, meet_all_keeps, Measured, measured_meet, measured_meet_all}
use Rattle.keeping.proofs.Unmarked.{fresh, fresh_measured, Marked, marked_set, set_marked}
use Rattle.keeping.proofs.NeverMoreWait.{never_more_wait}
use Rattle.keeping.proofs.WorklistLaws.{tops_length, tops_last, met_before, met_new, left_is}

module _ (code : List Instruction) (g : Action → Bool) where
  -- ---- one mark more, one judgement more
  pub good : Place → Bool
  good q = g (instruction_at code q).action

  good_set : (marks : List Bool) (p : Place) → length marks ≡ 512 → p.0 < 512
      → good_marked (set marks p.0 true) code g ≡ both (good p) (good_marked marks code g)
  unfolding good_marked good Marked
  good_set marks p l low =
      same_truth _ _
      (λ h.
      both_i _ _ (implies_e _ _ (all_e 512 _ h p.0 low) (get_or-set_same marks p.0 true false (omega arith)))
      (all_i 512 _ (λ q below. implies_i _ _ (λ m. implies_e _ _ (all_e 512 _ h q below) (marked_set marks p.0 q m)))))
      (λ h.
      all_i 512 _
      (λ q below.
      implies_i _ _
      (λ m.
      ⊎_elim (λ e. rw e (both_l _ _ h)) (λ o. implies_e _ _ (all_e 512 _ (both_r (good p) _ h) q below) o)
      (set_marked marks p (place_of q) m))))

  good_none : good_marked (replicate 512 false) code g ≡ true
  unfolding good_marked
  good_none =
      all_i 512 _
      (λ q below. implies_i _ _ (λ m. let z : ◌≡◌ {A = ℕ} 0 1 = cc (unmarked_at 512 q) in absurd (omega arith)))

  -- ---- what is judged, and what waits to be
  pub good_all : List Place → Bool
  good_all [] = true
  good_all (p ∷ ps) = both (good p) (good_all ps)

  pub record Judged (ok : Bool) (s : Search) : Type 0 where
    pub long : length s.marks ≡ 512
    pub judged : good_marked s.marks code g ≡ both ok (good_all s.waiting)

  judged_meet : (ok : Bool) (s : Search) (p : Place) → Judged ok s → Judged ok (meet s p)
  unfolding good_all
  judged_meet ok s p j =
      meet_cases (Judged ok) s p (λ _. j)
      (λ low _. record {
        long = length-set s.marks p.0 true ∙ j.long;
        judged = good_set s.marks p j.long low ∙ ap (both (good p)) j.judged ∙ both_swap (good p) ok _;
      })

  judged_fresh : Judged true fresh
  unfolding fresh good_all both
  judged_fresh = record { long = fresh_measured.long; judged = good_none }

  judged_first : (ok : Bool) (marks : List Bool) (p : Place) (ps : List Place)
      → Judged ok (record { marks = marks; waiting = p ∷ ps }) → Judged (both ok (good p)) (visit_first code marks (p ∷ ps))
  unfolding visit_first good_all
  judged_first ok marks p ps j =
      meet_all_keeps (Judged (both ok (good p))) _ (λ t q _. judged_meet _ t q) _
      (record { long = j.long; judged = j.judged ∙ sym (both_both ok (good p) _) })

-- ---- visits
visits_last : (code : List Instruction) (k : ℕ) (s : Search) → visits (suc k) code s ≡ visit code (visits k code s)
unfolding visits
visits_last code zero s = refl
visits_last code (suc k) s = visits_last code k (visit code s)

pub visits_more : (code : List Instruction) (k m : ℕ) (s : Search) → visits (k + m) code s ≡ visits m code (visits k code s)
unfolding visits
visits_more code zero m s = rw zero-add
visits_more code (suc k) m s = rw suc-add (visits_more code k m (visit code s))

pub nothing_waits : (code : List Instruction) (m : ℕ) (s : Search) → s.waiting ≡ [] → (visits m code s).marks ≡ s.marks
unfolding visits visit visit_first
nothing_waits code zero s e = refl
nothing_waits code (suc m) s e = rw e (nothing_waits code m (record { marks = s.marks; waiting = [] }) refl)

-- the search s is met after some visits from p on, with `ok` what is judged on them; each visit takes one from the places
-- that wait or are unmarked
pub record Underway (code : List Instruction) (p : Place) (g : Action → Bool) (s : Search) (ok : Bool) : Type 0 where
  pub turns : ℕ
  pub left : ℕ
  pub whole : turns + left ≡ 512
  pub met : s ≡ visits turns code (started_at p)
  pub measured : Measured left s
  pub judged : Judged code g ok s

module _ (code : List Instruction) (p : Place) (g : Action → Bool) where
  begun : Underway code p g (started_at p) true
  unfolding visits started_at fresh
  begun = record {
    turns = 0;
    left = 512;
    whole = refl;
    met = refl;
    measured = measured_meet 512 fresh p fresh_measured;
    judged = judged_meet code g true fresh p (judged_fresh code g);
  }

  visited : (marks : List Bool) (w : Place) (ws : List Place) (ok : Bool)
      → Underway code p g (record { marks = marks; waiting = w ∷ ws }) ok
      → Underway code p g
      (meet_all (record { marks = marks; waiting = ws }) (followers (instruction_at code w).action))
      (both ok (good code g w))
  unfolding visit visit_first
  visited marks w ws ok u = record {
    turns = suc u.turns;
    left = u.left - 1;
    whole = omega (arith, u.whole, u.measured.left);
    met = ap (visit code) u.met ∙ sym (visits_last code u.turns (started_at p));
    measured =
        measured_meet_all (u.left - 1) (record { marks = marks; waiting = ws }) _
        (record { long = u.measured.long; left = omega (arith, u.measured.left) });
    judged = judged_first code g ok marks w ws u.judged;
  }

  -- with nothing waiting, all is judged
  ended : (s : Search) (ok : Bool) → Underway code p g s ok → s.waiting ≡ [] → ok ≡ good_marked (reached_of code p) code g
  unfolding reached_of good_all
  ended s ok u e =
      let marks : (visits 512 code (started_at p)).marks ≡ s.marks =
      ap (λ (n : ℕ). (visits n code (started_at p)).marks) (sym u.whole)
      ∙ ap (λ (t : Search). t.marks) (visits_more code u.turns u.left (started_at p))
      ∙ ap (λ (t : Search). (visits u.left code t).marks) (sym u.met)
      ∙ nothing_waits code u.left s e
      in
      sym
      (ap (λ (ms : List Bool). good_marked ms code g) marks ∙ u.judged.judged
      ∙ ap (λ (ps : List Place). both ok (good_all code g ps)) e
      ∙ both_end ok)

-- ---- the loop's locals
pub none_reached : (code : List Instruction) (p : Place) (g : Action → Bool) → 512 ≤ p.0 → true ≡ good_marked (reached_of code p) code g
unfolding started_at
none_reached code p g h =
    ended code p g (started_at p) true (begun code p g)
    (ap (λ (t : Search). t.waiting) (met_before (record { marks = replicate 512 false; waiting = [] }) p (λ low. absurd (omega arith))))

pub underway_first : (code : List Instruction) (p : Place) (g : Action → Bool) (waiting : List ℕ)
    → p.0 < 512
    → get_or waiting 0 0 ≡ p.0
    → Underway code p g (search_of (set (replicate 512 false) p.0 true) waiting 1) true
unfolding started_at search_of tops
underway_first code p g waiting low e =
    let met = met_new (record { marks = replicate 512 false; waiting = [] }) p low (unmarked_at 512 p.0) in
    rw e (rw met at (begun code p g))

unset_again : (n i : ℕ) → set (replicate n false) i false ≡ replicate n false
unset_again zero i = refl
unset_again (suc n) zero = refl
unset_again (suc n) (suc i) = ap (λ (ms : List Bool). false ∷ ms) (unset_again n i)

-- the same from any place: past the code nothing is marked, and none waits
pub underway_from : (code : List Instruction) (p : Place) (g : Action → Bool) (waiting : List ℕ) (count : ℕ)
    → count ≡ choose (leb 512 p.0) 0 1 → get_or waiting 0 0 ≡ p.0
    → Underway code (place_of p.0) g (search_of (set (replicate 512 false) (p.0 % 512) (not (leb 512 p.0))) waiting count) true
unfolding choose started_at search_of tops
underway_from code p g waiting count c e =
    elim (dec_le 512 p.0) [
      | yes h ↦
          let none : count ≡ 0 = rw (le-leb 512 p.0 h) at c in
          let met = met_before (record { marks = replicate 512 false; waiting = [] }) p (λ low. absurd (omega arith)) in
          rw (le-leb 512 p.0 h, none, unset_again 512 (p.0 % 512)) (rw met at (begun code p g))
      | no n ↦
          let low : p.0 < 512 = omega arith in
          let one : count ≡ 1 = rw (lt-leb 512 p.0 low) at c in
          rw (lt-leb 512 p.0 low, one, mod-eq_of_lt low) (underway_first code p g waiting low e)
    ]

pub all_judged : (code : List Instruction) (p : Place) (g : Action → Bool) (marks : List Bool) (waiting : List ℕ) (count : ℕ) (ok : Bool)
    → Underway code (place_of p.0) g (search_of marks waiting count) ok → count ≤ 0 → ok ≡ good_marked (reached_of code p) code g
unfolding search_of tops
all_judged code p g marks waiting count ok u h =
    let e : count ≡ 0 = omega arith in ended code p g (search_of marks waiting count) ok u (rw e)

-- a visit takes one from the places that wait or are unmarked
pub turned_less : (marks : List Bool) (waiting : List ℕ) (count : ℕ) (action : Action) (marks' : List Bool) (waiting' : List ℕ) (r : ℕ)
    → Visited marks waiting count action marks' waiting' r → r + unmarked marks' < count + unmarked marks
turned_less marks waiting count action marks' waiting' r v = v.fewer

pub marks_long : (code : List Instruction) (p : Place) (g : Action → Bool) (marks : List Bool) (waiting : List ℕ) (count : ℕ) (ok : Bool)
    → Underway code p g (search_of marks waiting count) ok → length marks ≡ 512
unfolding search_of
marks_long code p g marks waiting count ok u = u.measured.long

module _ (code : List Instruction) (p : Place) (g : Action → Bool)
    (marks : List Bool) (waiting : List ℕ) (count : ℕ) (ok : Bool)
    (u : Underway code p g (search_of marks waiting count) ok) (some : 0 < count) where
  -- what `NeverMoreWait` says of the places that wait
  once : WaitOnce (search_of marks waiting count)
  unfolding NeverMoreWait
  once = rw u.met (never_more_wait code p u.turns)

  -- the place on top
  abbrev place : Place
  place = place_of (get_or waiting (count - 1) 0)

  top_low : count - 1 < 512
  unfolding search_of
  top_low = omega (arith, once.few, tops_length waiting count)

  -- a list of 512 has room
  pub top_in : (m : ℕ) → 512 ≤ m → count - 1 < m
  top_in m enough = omega (arith, top_low)

  pub top_scaled : Fits w64 ((count - 1) * 2)
  top_scaled = omega (arith, top_low)

  top_is : waiting_at (search_of marks waiting count) 0 ≡ place
  unfolding waiting_at search_of
  top_is = rw (tops_last waiting count some) refl

  waits : 0 < length (search_of marks waiting count).waiting
  unfolding search_of
  waits = omega (arith, tops_length waiting count)

  pub place_low : get_or waiting (count - 1) 0 < 512
  place_low = rw top_is at (once.low 0 waits)

  pub place_fits : Fits w64 (get_or waiting (count - 1) 0)
  place_fits = omega (arith, place_low)

  pub place_scaled : (k : ℕ) → 512 * k < 2 ^ 63 → Fits w64 (get_or waiting (count - 1) 0 * k)
  place_scaled k h = scaled_Fits (get_or waiting (count - 1) 0) 512 k place_low h

  place_marked : get_or marks (get_or waiting (count - 1) 0) false ≡ true
  unfolding search_of
  place_marked = rw top_is at (once.marked 0 waits)

  -- a visit has what it needs
  pub on_top : (m : ℕ) → length waiting ≡ m → 512 ≤ m → OnTop marks waiting count
  unfolding search_of
  on_top m long enough = record {
    some = some;
    long = u.measured.long;
    enough = omega arith;
    room = omega (arith, left_is u.left marks waiting count u.measured, u.whole);
    low = place_low;
    marked = place_marked;
  }

  -- and the loop is under way after it
  pub turned : (judged : Bool) (marks' : List Bool) (waiting' : List ℕ) (r : ℕ)
      → judged ≡ g (instruction_at code place).action
      → Visited marks waiting count (instruction_at code place).action marks' waiting' r
      → Underway code p g (search_of marks' waiting' r) (ok && judged)
  unfolding search_of good
  turned judged marks' waiting' r good-is v =
      rw (v.met, and_both ok judged ok _ refl good-is)
      (visited code p g marks place (tops waiting (count - 1)) ok (rw (tops_last waiting count some) at u))
