-- The marks are the places reached, and the computed keeping is a right for each of them (`specs/ReachingClaims.antt`).
-- Assumes nothing.
use Prim.Native.Nat.{ℕ, zero, suc, ◌<◌, ◌≤◌}
use mathlib.Core.Path.{◌≡◌, refl, ap}
use mathlib.Core.Bool.{Bool, true, false}
use mathlib.Core.Logic.{◌⊎◌, inl, inr, ⊎_elim, ⊎_map, ⊎_swap}
use mathlib.Core.List.Memᴰ
use mathlib.Core.List.{List, [], ◌∷◌, Memᴰ}
use native.Mathlib.Omega.{arith}
use native.Mathlib.Decide.{dec_le}
use lib.ListN.{length, get_or, replicate, get_or-eq_default}
use Rattle.keeping.specs.Types.{Place, Action, Instruction}
use Rattle.net.specs.Records.{instruction_at}
use Rattle.keeping.specs.Reaching.{Follows, Reaches, itself, onward, followers, Search, meet, meet_all}
use Rattle.keeping.specs.Reaching.{out_next, in_next, read_next, eval_next, new_next, fork_first, fork_second, out_all_next}
use Rattle.keeping.specs.Reaching.{visit_first, visit, visits, started_at, reached_of}
use Rattle.keeping.specs.Keeping.{permits, permits_marked, keeps_of}
use Rattle.keeping.specs.ReachingClaims.{MarkedIsReached, KeepsIsEvery}
use Rattle.net.proofs.Laws.{implies_i, implies_e, all_i, all_e}
use Rattle.keeping.proofs.Unmarked.{unmarked_at, meet_cases, meet_all_keeps, fresh, fresh_measured}
use Rattle.keeping.proofs.Unmarked.{Measured, measured_meet, measured_meet_all}
use Rattle.keeping.proofs.Unmarked.{Marked, set_marked, marked_meet, met_marked}

-- ---- the computed followers are the places that follow
follows_in : (q : Place) (a : Action) → Follows q a → Memᴰ q (followers a)
unfolding followers
follows_in q _ out_next = Memᴰ.head refl
follows_in q _ in_next = Memᴰ.head refl
follows_in q _ read_next = Memᴰ.head refl
follows_in q _ eval_next = Memᴰ.head refl
follows_in q _ new_next = Memᴰ.head refl
follows_in q _ fork_first = Memᴰ.head refl
follows_in q _ fork_second = Memᴰ.tail (Memᴰ.head refl)
follows_in q _ out_all_next = Memᴰ.head refl

in_follows : (q : Place) (a : Action) → Memᴰ q (followers a) → Follows q a
unfolding followers
in_follows q Action.Stop m = absurd (Memᴰ.not-nil m)
in_follows q (Action.Out t p) m = rw (Memᴰ.eq_of_singleton m) out_next
in_follows q (Action.In t p) m = rw (Memᴰ.eq_of_singleton m) in_next
in_follows q (Action.Read t p) m = rw (Memᴰ.eq_of_singleton m) read_next
in_follows q (Action.Eval t sent p) m = rw (Memᴰ.eq_of_singleton m) eval_next
in_follows q (Action.New v p) m = rw (Memᴰ.eq_of_singleton m) new_next
in_follows q (Action.Fork p r) (Memᴰ.head e) = rw e fork_first
in_follows q (Action.Fork p r) (Memᴰ.tail m) = rw (Memᴰ.eq_of_singleton m) fork_second
in_follows q (Action.OutAll g p) m = rw (Memᴰ.eq_of_singleton m) out_all_next

-- ---- marks
marked_meet_all : (q : Place) (s : Search) (ps : List Place) → Marked s.marks q → Marked (meet_all s ps).marks q
marked_meet_all q s ps h = meet_all_keeps (λ t. Marked t.marks q) ps (λ t p _. marked_meet q t p) s h

all_met_marked :
    {k : ℕ} (q : Place) (ps : List Place) (s : Search)
    → Measured k s
    → Memᴰ q ps
    → q.0 < 512
    → Marked (meet_all s ps).marks q
unfolding meet_all
all_met_marked q (p ∷ ps) s h (Memᴰ.head e) low =
    marked_meet_all q (meet s p) ps (rw e (met_marked s p h (rw e at low)))
all_met_marked q (p ∷ ps) s h (Memᴰ.tail m) low = all_met_marked q ps (meet s p) (measured_meet _ s p h) m low
all_met_marked {k = k} q [] s h x3 low = elim x3 [ ]

-- ---- the search: what is marked or waits satisfies R, and what is marked waits or satisfies C
record Good (R C : Place → Type 0) (s : Search) : Type 0 where
  sound : (q : Place) → Marked s.marks q → R q
  waits : (q : Place) → Memᴰ q s.waiting → R q
  excused : (q : Place) → Marked s.marks q → Memᴰ q s.waiting ⊎ C q

good_meet : (R C : Place → Type 0) (s : Search) (p : Place) → R p → Good R C s → Good R C (meet s p)
good_meet R C s p r g =
    meet_cases (Good R C) s p (λ _. g)
    (λ _ _.
    record {
      sound = λ q m. ⊎_elim (λ e. rw e r) (g.sound q) (set_marked s.marks p q m);
      waits = λ q m. ⊎_elim (λ e. rw e r) (g.waits q) (Memᴰ.cases_cons m);
      excused =
          λ q m.
          ⊎_elim (λ e. inl (Memᴰ.head e)) (λ o. ⊎_map Memᴰ.tail (λ c. c) (g.excused q o))
          (set_marked s.marks p q m);
    })

-- ---- one visit: the place visited is excused by itself while its followers are met, and then by their marks
FollowersMarked : List Instruction → List Bool → Place → Type 0
FollowersMarked code marks p =
    (q : Place) → Follows q (instruction_at code p).action → q.0 < 512 → Marked marks q

-- the search after the visit of w
after : List Instruction → List Bool → Place → List Place → Search
after code marks w ws =
    meet_all (record { marks = marks; waiting = ws }) (followers (instruction_at code w).action)

module _ (code : List Instruction) (p : Place) (marks : List Bool) (w : Place) (ws : List Place) where
  good_visit :
      (k : ℕ)
      → Measured k (record { marks = marks; waiting = ws })
      → Good (Reaches code p) (FollowersMarked code marks) (record { marks = marks; waiting = w ∷ ws })
      → Good (Reaches code p) (FollowersMarked code (after code marks w ws).marks) (after code marks w ws)
  unfolding after FollowersMarked
  good_visit k h g =
      record {
        sound = met.sound;
        waits = met.waits;
        excused = λ q m. ⊎_map (λ o. o) (closed q) (met.excused q m);
      }
    where
      old : Search
      old = record { marks = marks; waiting = ws }

      Excuse : Place → Type 0
      Excuse q = (q ≡ w) ⊎ FollowersMarked code marks q

      follow : List Place
      follow = followers (instruction_at code w).action

      start : Good (Reaches code p) Excuse old
      start =
          record {
            sound = g.sound;
            waits = λ q m. g.waits q (Memᴰ.tail m);
            excused = λ q m.
                ⊎_elim (λ o. ⊎_swap (⊎_map inl (λ n. n) (Memᴰ.cases_cons o))) (λ c. inr (inr c)) (g.excused q m);
          }

      met : Good (Reaches code p) Excuse (meet_all old follow)
      met =
          meet_all_keeps (Good (Reaches code p) Excuse) follow
          (λ t q m. good_meet (Reaches code p) Excuse t q (onward (g.waits w (Memᴰ.head refl)) (in_follows q _ m)))
          old start

      closed : (q : Place) → Excuse q → FollowersMarked code (meet_all old follow).marks q
      closed q (inl e) r f low = all_met_marked r follow old h (follows_in r _ (rw e at f)) low
      closed q (inr c) r f low = marked_meet_all r old follow (c r f low)

-- ---- all visits: as many as places wait or are unmarked, after which none waits

-- marks at the end, beside those at an earlier time
record Done (code : List Instruction) (p : Place) (before marks : List Bool) : Type 0 where
  sound : (q : Place) → Marked marks q → Reaches code p q
  closed : (q : Place) → Marked marks q → FollowersMarked code marks q
  kept : (q : Place) → Marked before q → Marked marks q

earlier :
    {code : List Instruction} {p : Place} {marks : List Bool} (s : Search) (ps : List Place)
    → Done code p (meet_all s ps).marks marks
    → Done code p s.marks marks
earlier s ps d =
    record { sound = d.sound; closed = d.closed; kept = λ q m. d.kept q (marked_meet_all q s ps m) }

at_rest :
    (code : List Instruction) (p : Place) (k : ℕ) (marks : List Bool)
    → Good (Reaches code p) (FollowersMarked code marks) (record { marks = marks; waiting = [] })
    → Done code p marks (visits k code (record { marks = marks; waiting = [] })).marks
unfolding visits visit visit_first
at_rest code p zero marks g =
    record {
      sound = g.sound;
      closed = λ q m. ⊎_elim (λ n. absurd (Memᴰ.not-nil n)) (λ c. c) (g.excused q m);
      kept = λ q m. m;
    }
at_rest code p (suc k) marks g = at_rest code p k marks g

finish :
    (code : List Instruction) (p : Place) (k : ℕ) (marks : List Bool) (ws : List Place)
    → Measured k (record { marks = marks; waiting = ws })
    → Good (Reaches code p) (FollowersMarked code marks) (record { marks = marks; waiting = ws })
    → Done code p marks (visits k code (record { marks = marks; waiting = ws })).marks
unfolding visits visit visit_first after
finish code p zero marks [] h g = at_rest code p zero marks g
finish code p zero marks (w ∷ ws) h g = absurd (omega arith)
finish code p (suc k) marks [] h g = at_rest code p k marks g
finish code p (suc k) marks (w ∷ ws) h g =
    let less : Measured k (record { marks = marks; waiting = ws }) = record { long = h.long; left = omega arith } in
    earlier _ _ (finish code p k _ _ (measured_meet_all k _ _ less) (good_visit code p marks w ws k less g))

-- ---- nothing follows past the end
past_end : (code : List Instruction) (p : Place) → length code ≤ p.0 → (instruction_at code p).action ≡ Action.Stop
unfolding instruction_at
past_end code p h = ap (λ (c : Instruction). c.action) (get_or-eq_default code _ {n = p.0} h)

followed_low :
    (code : List Instruction) (p q : Place)
    → length code ≤ 512
    → Follows q (instruction_at code p).action
    → p.0 < 512
unfolding followers
followed_low code p q fits f =
    elim (dec_le 512 p.0) [
      | yes h ↦ absurd (Memᴰ.not-nil (follows_in q Action.Stop (rw (past_end code p (omega arith)) at f)))
      | no n ↦ omega arith
    ]

-- ---- the search from p
fresh_good : (R C : Place → Type 0) → Good R C fresh
unfolding fresh Marked
fresh_good R C =
    record {
      sound = λ q m. absurd (none q m);
      waits = λ q m. absurd (Memᴰ.not-nil m);
      excused = λ q m. absurd (none q m);
    }
  where
    none : (q : Place) → get_or (replicate 512 false) q.0 false ≡ true → ⊥
    none q m = let z : ◌≡◌ {A = ℕ} 0 1 = cc (unmarked_at 512 q.0) in omega arith

searched : (code : List Instruction) (p : Place) → Done code p (meet fresh p).marks (reached_of code p)
unfolding reached_of started_at fresh
searched code p =
    finish code p 512 _ _ (measured_meet 512 fresh p fresh_measured)
    (good_meet (Reaches code p) _ fresh p itself (fresh_good (Reaches code p) _))

complete :
    (code : List Instruction)
    → length code ≤ 512
    → (p q : Place)
    → Reaches code p q
    → q.0 < 512
    → Marked (reached_of code p) q
unfolding FollowersMarked
complete code fits p _ itself low = (searched code p).kept p (met_marked fresh p fresh_measured low)
complete code fits p q (onward {p = r} m f) low =
    (searched code p).closed r (complete code fits p r m (followed_low code r q fits f)) q f low

-- ---- the two claims
pub marked_is_reached : MarkedIsReached
unfolding MarkedIsReached Marked
marked_is_reached code fits p q low = ((searched code p).sound q, λ m. complete code fits p q m low)

pub keeps_is_every : KeepsIsEvery
unfolding KeepsIsEvery keeps_of permits_marked permits Marked
keeps_is_every code fits p a r = (
  λ k q m. each k q m (dec_le 512 q.0),
  λ every. all_i 512 _ (λ i low. implies_i _ _ (λ m. every _ ((searched code p).sound (record { 0 = i }) m))),
)
  where
    each :
        keeps_of code p a r ≡ true
        → (q : Place)
        → Reaches code p q
        → Dec (512 ≤ q.0)
        → permits r a (instruction_at code q).action ≡ true
    each k q m (yes h) = rw (past_end code q (omega arith))
    each k q m (no n) = implies_e _ _ (all_e 512 _ k q.0 (omega arith)) (complete code fits p q m (omega arith))
