-- The promise of `specs/KeepingPromise.antt`, from the definitions of `specs/Keeping.antt` and `specs/Reaching.antt`. Code
-- of any length is cut after 512 instructions: the marks, and where the code does not lead past them also what is reached,
-- are those of the cut code, for which `Reached.antt` has the claim.
-- Assumes nothing.
use Prim.Native.Nat.{ℕ, zero, suc, ◌<◌, ◌≤◌}
use mathlib.Core.Path.{◌≡◌, refl, sym, ap, ◌∙◌}
use mathlib.Core.Logic.{◌↔◌}
use mathlib.Core.Bool.{Bool, true}
use mathlib.Core.List.Memᴰ
use mathlib.Core.List.{List, [], ◌∷◌, Memᴰ}
use native.Mathlib.Omega.{arith}
use lib.ListN.{length, take, length-take}
use lib.Seq.{get_or-take}
use Rattle.keeping.specs.Types.{Locality, Place, Row, Instruction}
use Rattle.net.specs.Records.{instruction_at, place_of}
use Rattle.keeping.specs.Reaching.{Follows, Reaches, itself, onward, Search, meet, meet_all}
use Rattle.keeping.specs.Reaching.{visit_first, visit, visits, started_at, reached_of}
use Rattle.keeping.specs.Keeping.{may_take, may_read, may_put, may_send, may_create, permits, permits_marked, keeps_of}
use Rattle.keeping.specs.KeepingPromise.{KeepingPromise}
use Rattle.keeping.specs.ReachingClaims.{KeepsIsEvery}
use Rattle.net.proofs.Laws.{all_i, all_e}
use Rattle.keeping.proofs.Unmarked.{meet_cases, meet_all_keeps}
use Rattle.keeping.proofs.Reached.{keeps_is_every}

-- ---- a place waits only below 512
Low : Search → Type 0
Low s = (q : Place) → Memᴰ q s.waiting → q.0 < 512

waiting_low :
    (p q : Place) (ps : List Place) → p.0 < 512 → ((r : Place) → Memᴰ r ps → r.0 < 512) → Memᴰ q (p ∷ ps)
    → q.0 < 512
waiting_low p q ps h f (Memᴰ.head e) = rw e h
waiting_low p q ps h f (Memᴰ.tail m) = f q m

low_meet : (s : Search) (p : Place) → Low s → Low (meet s p)
unfolding Low
low_meet s p f = meet_cases Low s p (λ _. f) (λ h _ q m. waiting_low p q s.waiting h f m)

low_meet_all : (s : Search) (ps : List Place) → Low s → Low (meet_all s ps)
low_meet_all s ps f = meet_all_keeps Low ps (λ t p _. low_meet t p) s f

low_start : (p : Place) → Low (started_at p)
unfolding started_at Low
low_start p = low_meet _ p (λ q m. absurd (Memᴰ.not-nil m))

-- ---- two lists of instructions that agree below 512
record Agree (c d : List Instruction) : Type 0 where
  same : (p : Place) → p.0 < 512 → instruction_at c p ≡ instruction_at d p

module _ (c d : List Instruction) (agree : Agree c d) where
  visit_same :
      (marks : List Bool) (ps : List Place) → Low (record { marks = marks; waiting = ps })
      → visit_first c marks ps ≡ visit_first d marks ps
  unfolding visit_first Low
  visit_same marks [] f = refl
  visit_same marks (p ∷ ps) f = rw (agree.same p (f p (Memᴰ.head refl)))

  low_visit :
      (marks : List Bool) (ps : List Place) → Low (record { marks = marks; waiting = ps }) → Low (visit_first c marks ps)
  unfolding visit_first Low
  low_visit marks [] f = f
  low_visit marks (p ∷ ps) f = low_meet_all _ _ (λ q m. f q (Memᴰ.tail m))

  visits_same : (k : ℕ) (s : Search) → Low s → visits k c s ≡ visits k d s
  unfolding visits visit
  visits_same zero s f = refl
  visits_same (suc k) s f =
      visits_same k (visit c s) (low_visit s.marks s.waiting f)
      ∙ ap (visits k d) (visit_same s.marks s.waiting f)

  reached_same : (p : Place) → reached_of c p ≡ reached_of d p
  unfolding reached_of
  reached_same p = ap (λ (s : Search). s.marks) (visits_same 512 (started_at p) (low_start p))

  -- what keeps in the one keeps in the other
  keeps_carry : (p : Place) (a : Locality) (r : Row) → keeps_of c p a r ≡ true → keeps_of d p a r ≡ true
  unfolding keeps_of permits_marked
  keeps_carry p a r h =
      all_i 512 _ (λ i l. rw (← reached_same p, ← agree.same (place_of i) l) (all_e 512 _ h i l))

  -- what is reached in the one is reached in the other, where the instructions below n lead to places below n
  reaches_carry :
      (n : ℕ) (from q : Place) → n ≤ 512 → from.0 < n
      → ((p r : Place) → p.0 < n → Follows r (instruction_at c p).action → r.0 < n)
      → Reaches c from q → (q.0 < n) × Reaches d from q
  reaches_carry n from _ fits l closed itself = (l, itself)
  reaches_carry n from q fits l closed (onward {p} m f) =
      let before = reaches_carry n from p fits l closed m in
      (closed p q before.0 f, onward before.1 (rw (agree.same p (omega arith)) at f))

agree_sym : (c d : List Instruction) → Agree c d → Agree d c
agree_sym c d a = record { same = λ i l. sym (a.same i l) }

cut : (c : List Instruction) → Agree (take 512 c) c
unfolding instruction_at
cut c = record { same = λ p l. get_or-take 512 c p.0 _ l }

-- ---- code whose first k instructions lead to no place past them
Closed : List Instruction → ℕ → Type 0
Closed code k = (p q : Place) → p.0 < k → Follows q (instruction_at code p).action → q.0 < k

module _ (code : List Instruction) (k : ℕ) (few : k ≤ 512) (closed : Closed code k) where
  short : List Instruction
  short = take 512 code

  short_is : length short ≤ 512
  unfolding short
  short_is = omega (arith, length-take 512 code)

  there : Agree short code
  unfolding short
  there = cut code

  back : Agree code short
  back = agree_sym _ _ there

  closed_short : Closed short k
  unfolding Closed
  closed_short p q h f = closed p q h (rw (there.same p (omega arith)) at f)

  keeps_every :
      (p : Place) (a : Locality) (r : Row) → p.0 < k
      → (keeps_of code p a r ≡ true)
      ↔ ((q : Place) → Reaches code p q → permits r a (instruction_at code q).action ≡ true)
  unfolding KeepsIsEvery Closed
  keeps_every p a r low = (
    λ h q m.
        let c = reaches_carry code short back k p q few low closed m in
        rw (back.same q (omega (arith, c.0)))
        ((keeps_is_every short short_is p a r).0 (keeps_carry code short back p a r h) q c.1),
    λ h. keeps_carry short code there p a r
        ((keeps_is_every short short_is p a r).1
        (λ q m.
        let c = reaches_carry short code there k p q few low closed_short m in
        rw (there.same q (omega (arith, c.0))) (h q c.1))),
  )

pub keeping_promise : KeepingPromise
unfolding may_take may_read may_put may_send may_create Closed
keeping_promise = record {
  takes = λ r l. refl;
  reads = λ r l. refl;
  puts = λ r l. refl;
  sends = λ r l. refl;
  creates = λ r. refl;
  keeps = keeps_every;
}
