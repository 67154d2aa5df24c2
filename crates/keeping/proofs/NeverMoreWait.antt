-- No more than 512 places ever wait, and each waits once (`NeverMoreWait` of `specs/ReachingClaims.antt`): a place is put to
-- wait when it is marked, so that the waiting and the unmarked places together never grow. Assumes nothing.
use Prim.Native.Nat.{ℕ, zero, suc, ◌+◌, ◌<◌, ◌≤◌}
use mathlib.Core.Path.{◌≡◌, ◌∙◌}
use mathlib.Core.Bool.{Bool, true, false}
use mathlib.Core.List.{List, [], ◌∷◌}
use native.Mathlib.Nat.{not-suc-le-zero, le_of_suc-le-suc}
use native.Mathlib.Omega.{arith}
use lib.ListN.{length, get_or, set, length-set}
use lib.Seq.{get_or-set_same}
use Rattle.keeping.specs.Types.{Place, Instruction}
use Rattle.keeping.specs.Reaching.{Search, meet, visit_first, visit, visits, started_at}
use Rattle.keeping.specs.ReachingClaims.{waiting_at, WaitOnce, NeverMoreWait}
use Rattle.keeping.specs.Worklist.{unmarked}
use Rattle.keeping.proofs.Unmarked.{unmarked_set, meet_cases, meet_all_keeps, fresh, fresh_measured, marked_set}

record Waits (s : Search) : Type 0 where
  long : length s.marks ≡ 512
  room : length s.waiting + unmarked s.marks ≤ 512
  once : WaitOnce s

-- ---- one place more waits
module _ (marks : List Bool) (p : Place) (ps : List Place) where
  before : Search
  before = record { marks = marks; waiting = ps }

  after : Search
  after = record { marks = set marks p.0 true; waiting = p ∷ ps }

  module _ (w : Waits before) (near : p.0 < 512) (new : get_or marks p.0 false ≡ false) where
    after_low : (i : ℕ) → i < suc (length ps) → (waiting_at after i).0 < 512
    unfolding waiting_at after before
    after_low zero h = near
    after_low (suc i) h = w.once.low i (le_of_suc-le-suc h)

    after_marked : (i : ℕ) → i < suc (length ps) → get_or (set marks p.0 true) (waiting_at after i).0 false ≡ true
    unfolding waiting_at after before
    after_marked zero h = get_or-set_same marks p.0 true false (omega (arith, w.long))
    after_marked (suc i) h = marked_set marks p.0 _ (w.once.marked i (le_of_suc-le-suc h))

    other : (j : ℕ) → j < length ps → p ≡ waiting_at before j → ⊥
    unfolding before
    other j h e = let z : ◌≡◌ {A = ℕ} 0 1 = cc (w.once.marked j h) in omega arith

    after_distinct : (i j : ℕ) → i < j → j < suc (length ps) → waiting_at after i ≡ waiting_at after j → ⊥
    unfolding waiting_at after before
    after_distinct i zero l h e = not-suc-le-zero l
    after_distinct zero (suc j) l h e = other j (le_of_suc-le-suc h) e
    after_distinct (suc i) (suc j) l h e = w.once.distinct i j (le_of_suc-le-suc l) (le_of_suc-le-suc h) e

    put : Waits after
    unfolding after before
    put = record {
      long = length-set marks p.0 true ∙ w.long;
      room = omega (arith, unmarked_set marks p.0 (omega (arith, w.long)) new, w.room);
      once =
          record {
            few = omega (arith, unmarked_set marks p.0 (omega (arith, w.long)) new, w.room);
            low = after_low;
            marked = after_marked;
            distinct = after_distinct;
          };
    }

waits_meet : (s : Search) (p : Place) → Waits s → Waits (meet s p)
unfolding before after
waits_meet s p w = meet_cases Waits s p (λ _. w) (λ near new. put s.marks p s.waiting w near new)

-- ---- the first waiting place is taken off and visited
taken : (marks : List Bool) (p : Place) (ps : List Place)
    → Waits (record { marks = marks; waiting = p ∷ ps }) → Waits (record { marks = marks; waiting = ps })
unfolding waiting_at
taken marks p ps w = record {
  long = w.long;
  room = omega (arith, w.room);
  once =
      record {
        few = omega (arith, w.room);
        low = λ i h. w.once.low (suc i) (omega arith);
        marked = λ i h. w.once.marked (suc i) (omega arith);
        distinct = λ i j l h. w.once.distinct (suc i) (suc j) (omega arith) (omega arith);
      };
}

waits_first : (code : List Instruction) (marks : List Bool) (ps : List Place)
    → Waits (record { marks = marks; waiting = ps }) → Waits (visit_first code marks ps)
unfolding visit_first
waits_first code marks [] w = w
waits_first code marks (p ∷ ps) w = meet_all_keeps Waits _ (λ t q _. waits_meet t q) _ (taken marks p ps w)

waits_visits : (code : List Instruction) (k : ℕ) (s : Search) → Waits s → Waits (visits k code s)
unfolding visits visit
waits_visits code zero s w = w
waits_visits code (suc k) s w = waits_visits code k (visit code s) (waits_first code s.marks s.waiting w)

waits_fresh : Waits fresh
unfolding fresh
waits_fresh = record {
  long = fresh_measured.long;
  room = omega (arith, fresh_measured.left);
  once =
      record {
        few = omega arith;
        low = λ i h. absurd (not-suc-le-zero h);
        marked = λ i h. absurd (not-suc-le-zero h);
        distinct = λ i j l h. absurd (not-suc-le-zero h);
      };
}

pub never_more_wait : NeverMoreWait
unfolding NeverMoreWait started_at fresh
never_more_wait code p k = (waits_visits code k (started_at p) (waits_meet fresh p waits_fresh)).once
