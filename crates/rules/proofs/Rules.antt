-- The claims of `specs/Rules.antt`: a pick is read back, test by test, to the rule whose premises the tests are, and a
-- rule's premises let each test pass.
-- Assumes nothing.
use Prim.Native.Nat.{ℕ, ◌<◌, ◌≤◌}
use mathlib.Core.Path.{◌≡◌, refl, ap, subst, ◌∙◌}
use mathlib.Core.Logic.{◌↔◌}
use mathlib.Core.Bool.{Bool, true, not}
use native.Mathlib.Omega.{arith}
use borrow.Author.Tests.{ltb-true, lt-ltb, eq-eqb, not-true, not-false}
use Rattle.std.specs.Prelude.{Option, Some, None}
use Rattle.net.specs.Records.{process_at, tuple_at, node_at, moved_to, free_slot}
use Rattle.matching.specs.Matching.{bound_of, matched_of}
use Rattle.sound.specs.Soundness.{sound_of, target_sound, group_sound, action_sound}
use Rattle.keeping.specs.Keeping.{may_put_all}
use Rattle.net.proofs.GroupLaws.{members_at, members_all}
use Rattle.matching.specs.MatchingPromise.{OldestThatFits}
use Rattle.net.proofs.Laws.{both_l, both_r, choose_true}
use Rattle.matching.proofs.MatchingPromise.{matching_promise as promise}
use Rattle.net.proofs.Lowest.{Lowest, first_is, first_cases}
use Rattle.rules.specs.Types.{Locality, Place, Process, Node, Target, Action, Evaluated, Net, Matched}
use Rattle.rules.specs.Types.{Answer, Picked, Request}
use Rattle.plans.specs.Answer.{number_of}
use Rattle.plans.specs.Request.{target_of, at, spoken, asked, request_of, granted}
use Rattle.step.specs.Pick.{host_of, slot_of, spare_of, performed, unchanged, with_host, stopped, out, in_found, input}
use Rattle.step.specs.Pick.{read_found, read, started_in, eval, fork, create, room_at_all, out_all, carried_out, acting, process_step}
use Rattle.step.specs.Pick.{step_of, slot_step, pick_of}
use Rattle.rules.specs.Rules.{process_in, instruction_in, template_in, row_in, Stands, Points}
use Rattle.rules.specs.Rules.{LowestFree, Reduces, OUT, IN, READ, EVAL, NEW, FORK, OUT_ALL, Ends, NIL}
use Rattle.rules.specs.Rules.{StepIsPick, StopIsPick}
use Rattle.rules.proofs.StepFacts.{Facts, facts, stored_few, Runs, running, target_exists}
use Rattle.rules.proofs.Within.{keeps_within, within_keeps}
use Rattle.rules.proofs.Outcomes.{ComesTo, performs, refuses, ends, outcome}
use Rattle.rules.proofs.ReadBack.{Gave, same_number, refused, through, Aimed, acted, aimed, told, spoke, seated}

-- ---- the lowest free slot, as the definition looks for it
free_test : Node → ℕ → Bool
free_test x j = not (process_at x j).busy

slot_lowest : (x : Node) (j : ℕ) → Lowest 4 (free_test x) j ↔ LowestFree x j
unfolding free_test
slot_lowest x j = (
  λ h. record { slot = h.below; free = not-true _ h.holds; lowest = λ i l. not-false _ (h.before i l) },
  λ h. record { below = h.slot; holds = ap not h.free; before = λ i l. ap not (h.lowest i l) },
)

slot_is : (x : Node) (j : ℕ) → LowestFree x j → free_slot x ≡ Some j
unfolding free_slot free_test
slot_is x j h = first_is 4 (free_test x) Some None j ((slot_lowest x j).1 h)

slot_cases :
    (P : Option ℕ → Type 0) (x : Node) → ((j : ℕ) → LowestFree x j → P (Some j)) → P None → P (free_slot x)
unfolding free_slot free_test
slot_cases P x f = first_cases P 4 (free_test x) Some None (λ j h. f j ((slot_lowest x j).0 h))

-- ---- a busy slot of an address in use, in a sound net
record Seat (s : Net) (a : Locality) (k : ℕ) : Type 0 where
  ok : Facts s
  used : a.0 < s.addresses
  low : k < 4

module _ (s : Net) (a : Locality) (k : ℕ) (seat : Seat s a k) where
  runs : (process_in s a k).busy ≡ true → Runs s.addresses s.length (process_in s a k)
  unfolding process_in
  runs = running s.format s.addresses s.length (node_at s a) k (seat.ok.nodes a seat.used) seat.low

  sound_action : (x : Action) → Stands s a k x → action_sound s.format s.addresses s.length x ≡ true
  unfolding instruction_in
  sound_action x h = rw h.acts at (seat.ok.actions (process_in s a k).at (runs h.busy).placed)

  sent_low : (t : Target) (sent q : Place) → Stands s a k (Action.Eval t sent q) → sent.0 < s.length
  unfolding action_sound
  sent_low t sent q h = ltb-true _ _ (both_l _ _ (both_r _ _ (sound_action _ h)))

  few_stored : (l : Locality) → l.0 < s.addresses → (node_at s l).stored ≤ 16
  few_stored l h = stored_few s.format s.addresses s.length (node_at s l) (seat.ok.nodes l h)

-- what the template of the process in slot k of address a meets at l
abbrev met : Net → Locality → ℕ → Locality → Matched
met s a k l = matched_of (process_in s a k) (node_at s l) (template_in s a k)

-- ---- from the pick to the rule
pub final_0 : number_of Answer.Performed ≤ 1
unfolding number_of
final_0 = omega arith

final_1 : number_of Answer.Ended ≤ 1
unfolding number_of
final_1 = omega arith

module _ (s : Net) (a : Locality) (k : ℕ) (after : Net) (seat : Seat s a k) where
  -- the net that the rule gives is the net after
  as_performed : (n : Net) → Gave Answer.Performed after (performed n) → Reduces s a k n → Reduces s a k after
  unfolding performed
  as_performed n h step = subst (Reduces s a k) (ap (λ (x : Picked). x.net) h.is) step

  -- an address was aimed at, with the right of the request there
  record Reached (t : Target) (f : Locality → Request) : Type 0 where
    l : Locality
    to : Points s a k t l
    right : granted (row_in s a k) (f l) ≡ true
    rest : Gave Answer.Performed after (carried_out s a k (process_in s a k) (template_in s a k) (f l))

  reached :
      (x : Action) (t : Target) (f : Locality → Request) → Stands s a k x → target_sound s.addresses t ≡ true
      → Aimed Answer.Performed after s a k (process_in s a k) (template_in s a k) (target_of a (process_in s a k) t) f
      → Reached t f
  unfolding row_in
  reached x t f h sound aim =
      let ac = acted final_0 s a k _ _ _ aim.acts in
      record {
        l = aim.l;
        to = record {
          points = aim.points;
          exists =
              target_exists s.addresses s.length a (process_in s a k) t aim.l seat.used
              (runs s a k seat h.busy) sound aim.points;
        };
        right = ac.test;
        rest = ac.rest;
      }

  -- a template met the oldest tuple that fits
  module _
      (l : Locality) (go : Option ℕ → Process → Picked) (low : l.0 < s.addresses)
      (at :
      (i : ℕ) → OldestThatFits (node_at s l) (template_in s a k) i
      → Gave Answer.Performed after
      (go (Some i) (bound_of (process_in s a k) (tuple_at (node_at s l) i) (template_in s a k)))
      → Reduces s a k after)
      (none : (p : Process) → Gave Answer.Performed after (go None p) → ⊥)
    where
      met_by :
          (f : Option ℕ) → (met s a k l).found ≡ f → Gave Answer.Performed after (go f (met s a k l).process)
          → Reduces s a k after
      met_by (Some i) d g =
          at i ((promise.finds _ _ _ i (few_stored s a k seat l low)).0 d) (rw (promise.binds _ _ _ i d) at g)
      met_by None d g = absurd (none _ g)

      matched : Gave Answer.Performed after (go (met s a k l).found (met s a k l).process) → Reduces s a k after
      matched = met_by (met s a k l).found refl

  -- a started process found the lowest free slot
  started :
      (l : Locality) (copy : Process) (q : Place)
      → ((j : ℕ)
      → LowestFree (node_at s l) j
      → Reduces s a k (with_host (with_host s a k (moved_to (process_in s a k) q)) l j copy))
      → Gave Answer.Performed after (started_in s a k l (process_in s a k) copy q (free_slot (node_at s l)))
      → Reduces s a k after
  unfolding started_in number_of
  started l copy q f =
      slot_cases
      (λ j. Gave Answer.Performed after (started_in s a k l (process_in s a k) copy q j) → Reduces s a k after)
      (node_at s l) (λ j h g. as_performed _ g (f j h)) (λ g. absurd (refused final_0 Answer.NoRoom s (omega arith) g))

  -- by the action
  step_by :
      (x : Action) → Stands s a k x → action_sound s.format s.addresses s.length x ≡ true
      → Gave Answer.Performed after
      (acting s a k (process_in s a k) (template_in s a k) (asked a (process_in s a k) (template_in s a k) x))
      → Reduces s a k after
  unfolding asked granted carried_out action_sound group_sound may_put_all number_of row_in stopped out out_all room_at_all input in_found read
      read_found eval fork create
  step_by Action.Stop h sound g =
      let no = same_number (acted final_0 s a k _ _ _ g).rest in
      absurd (omega arith)
  step_by (Action.Out t q) h sound g =
      let sp = spoke final_0 s a k _ _ _ _ g in
      let r = reached _ t _ h (both_l _ _ sound) sp.aims in
      let room = through final_0 Answer.NoRoom s _ _ (omega arith) r.rest in
      as_performed _ room.rest (OUT h r.to sp.defined r.right (ltb-true _ _ room.test))
  step_by (Action.In t q) h sound g =
      let sp = spoke final_0 s a k _ _ _ _ g in
      let r = reached _ t _ h (both_l _ _ sound) sp.aims in
      matched r.l (in_found s a k r.l q) r.to.exists
      (λ i o m. as_performed _ m (IN h r.to sp.defined r.right o))
      (λ p. refused final_0 Answer.NoTuple s (omega arith))
      r.rest
  step_by (Action.Read t q) h sound g =
      let sp = spoke final_0 s a k _ _ _ _ g in
      let r = reached _ t _ h (both_l _ _ sound) sp.aims in
      matched r.l (read_found s a k q) r.to.exists
      (λ i o m. as_performed _ m (READ h r.to sp.defined r.right o))
      (λ p. refused final_0 Answer.NoTuple s (omega arith))
      r.rest
  step_by (Action.Eval t sent q) h sound g =
      let r = reached _ t _ h (both_l _ _ sound) (aimed final_0 s a k _ _ _ _ g) in
      let kept = through final_0 Answer.NotWithin s _ _ (omega arith) r.rest in
      let within = keeps_within s seat.ok sent (sent_low s a k seat t sent q h) r.l _ kept.test in
      started r.l _ q (λ j f. EVAL h r.to r.right within f) kept.rest
  step_by (Action.New v q) h sound g =
      let ac = acted final_0 s a k _ _ _ g in
      let room = through final_0 Answer.NoRoom s _ _ (omega arith) ac.rest in
      as_performed _ room.rest (NEW h ac.test (ltb-true _ _ room.test))
  step_by (Action.Fork q r) h sound g = started a _ q (λ j f. FORK h f) (acted final_0 s a k _ _ _ g).rest
  step_by (Action.OutAll all q) h sound g =
      let t = told final_0 s a k _ _ _ (Request.OutAll all q) g in
      let ac = acted final_0 s a k _ _ _ t.rest in
      let room = through final_0 Answer.NoRoom s _ _ (omega arith) ac.rest in
      as_performed _ room.rest
      (OUT_ALL h t.test (λ l m. ltb-true _ _ (members_at all _ (both_l _ _ (both_r _ _ sound)) l m))
      (members_at all _ ac.test) (λ l m. ltb-true _ _ (members_at all _ room.test l m)))

-- a stop, and nothing else, is answered 1
stop_by :
    (s : Net) (a : Locality) (k : ℕ) (after : Net) (x : Action) (r : Picked) → ComesTo s a k x r → Stands s a k x
    → Gave Answer.Ended after r → Ends s a k after
unfolding performed stopped unchanged number_of
stop_by s a k after _ _ (performs n) h g = let no = same_number g in absurd (omega arith)
stop_by s a k after _ _ (refuses n l) h g = let no = same_number g in absurd (omega arith)
stop_by s a k after _ _ ends h g = subst (Ends s a k) (ap (λ (x : Picked). x.net) g.is) (NIL h)

-- ---- from the rule to the pick
at_is : (aim : Option Locality) (f : Locality → Request) (l : Locality) → aim ≡ Some l → at aim f ≡ f l
unfolding at
at_is aim f l e = rw e

spoken_is :
    (e : Evaluated) (aim : Option Locality) (f : Locality → Request) (l : Locality) → e.defined ≡ true → aim ≡ Some l
    → spoken e aim f ≡ f l
unfolding spoken
spoken_is e aim f l d p = choose_true _ _ _ d ∙ at_is aim f l p

module _ (s : Net) (a : Locality) (k : ℕ) where
  Does : Picked → Type 0
  Does r = process_step s a k (process_in s a k) (instruction_in s a k) ≡ r

  does :
      (x : Action) (r : Request) → Stands s a k x
      → asked a (process_in s a k) (template_in s a k) x ≡ r
      → granted (row_in s a k) r ≡ true
      → Does (carried_out s a k (process_in s a k) (template_in s a k) r)
  unfolding Does process_step request_of template_in acting row_in
  does x r h e g =
      ap (acting s a k (process_in s a k) (template_in s a k))
      (ap (asked a (process_in s a k) (template_in s a k)) h.acts ∙ e)
      ∙ choose_true _ _ _ g

  step_does : (after : Net) → Seat s a k → Reduces s a k after → Does (performed after)
  unfolding Does asked granted carried_out may_put_all out out_all room_at_all input in_found read read_found eval fork create started_in
  step_does _ seat (OUT h p d g room) =
      does _ _ h (spoken_is _ _ _ _ d p.points) g ∙ choose_true _ _ _ (lt-ltb _ _ room)
  step_does _ seat (IN {l = l} {i = i} h p d g o) =
      let found : (met s a k l).found ≡ Some i = (promise.finds _ _ _ i (few_stored s a k seat l p.exists)).1 o in
      does _ _ h (spoken_is _ _ _ _ d p.points) g ∙ rw (found, promise.binds _ _ _ i found)
  step_does _ seat (READ {l = l} {i = i} h p d g o) =
      let found : (met s a k l).found ≡ Some i = (promise.finds _ _ _ i (few_stored s a k seat l p.exists)).1 o in
      does _ _ h (spoken_is _ _ _ _ d p.points) g ∙ rw (found, promise.binds _ _ _ i found)
  step_does _ seat (EVAL h p g within f) =
      does _ _ h (at_is _ _ _ p.points) g
      ∙ choose_true _ _ _ (within_keeps s seat.ok _ (sent_low s a k seat _ _ _ h) _ _ within)
      ∙ rw (slot_is _ _ f)
  step_does _ seat (NEW h g room) = does _ _ h refl g ∙ choose_true _ _ _ (lt-ltb _ _ room)
  step_does _ seat (FORK h f) = does _ _ h refl refl ∙ rw (slot_is _ _ f)
  step_does _ seat (OUT_ALL {g = g} h d used may room) =
      does _ _ h (choose_true _ _ _ d) (members_all g _ may)
      ∙ choose_true _ _ _ (members_all g _ (λ l m. lt-ltb _ _ (room l m)))

  stop_does : (after : Net) → Ends s a k after → Does (record { answer = Answer.Ended; net = after })
  unfolding Does asked granted carried_out stopped
  stop_does _ (NIL h) = does _ _ h refl refl

  stands_busy : (after : Net) → Reduces s a k after → (process_in s a k).busy ≡ true
  stands_busy _ (OUT h p d g room) = h.busy
  stands_busy _ (IN h p d g o) = h.busy
  stands_busy _ (READ h p d g o) = h.busy
  stands_busy _ (EVAL h p g within f) = h.busy
  stands_busy _ (NEW h g room) = h.busy
  stands_busy _ (FORK h f) = h.busy
  stands_busy _ (OUT_ALL h d used may room) = h.busy

  stop_busy : (after : Net) → Ends s a k after → (process_in s a k).busy ≡ true
  stop_busy _ (NIL h) = h.busy

-- ---- the claims
seat_of_law : (s : Net) (b : ℕ) → sound_of s ≡ true → (host_of b).0 < s.addresses → Seat s (host_of b) (slot_of b)
unfolding slot_of
seat_of_law s b sound used = record { ok = facts s sound; used = used; low = omega arith }

pick_is :
    (s : Net) (b : ℕ) → sound_of s ≡ true → spare_of b ≡ 0 → (host_of b).0 < s.addresses
    → (process_in s (host_of b) (slot_of b)).busy ≡ true
    → pick_of s b
    ≡ process_step s (host_of b) (slot_of b) (process_in s (host_of b) (slot_of b))
    (instruction_in s (host_of b) (slot_of b))
unfolding pick_of step_of slot_step process_in instruction_in
pick_is s b sound spare used busy =
    choose_true _ _ _ sound ∙ choose_true _ _ _ (eq-eqb _ _ spare) ∙ choose_true _ _ _ (lt-ltb _ _ used)
    ∙ choose_true _ _ _ busy

stands_at :
    (s : Net) (a : Locality) (k : ℕ) → (process_at (node_at s a) k).busy ≡ true
    → Stands s a k (instruction_in s a k).action
unfolding process_in
stands_at s a k busy = record { busy = busy; acts = refl }

pub picked_step :
    (s : Net) (b : ℕ) (after : Net) → Gave Answer.Performed after (pick_of s b)
    → Reduces s (host_of b) (slot_of b) after
unfolding process_in instruction_in template_in process_step request_of
picked_step s b after h =
    let p = seated final_0 s b h in
    let seat = seat_of_law s b p.sound p.used in
    let stands = stands_at s (host_of b) (slot_of b) p.busy in
    step_by s (host_of b) (slot_of b) after seat _ stands (sound_action s _ _ seat _ stands) p.acts

pub step_is_pick : StepIsPick
unfolding StepIsPick performed Does
step_is_pick s sound b after = (
  λ e.
      let h : Gave Answer.Performed after (pick_of s b) = record { is = e } in
      let p = seated final_0 s b h in
      (p.spare, p.used, picked_step s b after h),
  λ h.
      let step = h.2 in
      pick_is s b sound h.0 h.1 (stands_busy s _ _ after step)
      ∙ step_does s _ _ after (seat_of_law s b sound h.1) step,
)

pub picked_stop :
    (s : Net) (b : ℕ) (after : Net) → Gave Answer.Ended after (pick_of s b) → Ends s (host_of b) (slot_of b) after
unfolding process_in instruction_in template_in process_step request_of
picked_stop s b after h =
    let p = seated final_1 s b h in
    stop_by s (host_of b) (slot_of b) after _ _ (outcome s (host_of b) (slot_of b) _ _ _)
    (stands_at s (host_of b) (slot_of b) p.busy) p.acts

pub stop_is_pick : StopIsPick
unfolding StopIsPick Does
stop_is_pick s sound b after = (
  λ e.
      let h : Gave Answer.Ended after (pick_of s b) = record { is = e } in
      let p = seated final_1 s b h in
      (p.spare, p.used, picked_stop s b after h),
  λ h. pick_is s b sound h.0 h.1 (stop_busy s _ _ after h.2) ∙ stop_does s _ _ after h.2,
)
