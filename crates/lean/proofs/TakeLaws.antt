-- An in and a read on words that stand for a sound net are those of the lean step. Assumes nothing.
use Prim.Native.Nat.{ℕ, ◌-◌, ◌<◌, ◌≤◌, ◌%◌}
use mathlib.Core.Path.{◌≡◌, refl, ap, ◌∙◌}
use mathlib.Core.Bool.{true}
use mathlib.Core.List.{List}
use native.Mathlib.Omega.{arith}
use lib.ListN.{get_or, set}
use borrow.Author.Tests.{lt-ltb, le-ltb, lt-leb}
use Rattle.std.specs.Prelude.{Option, Some, None}
use Rattle.net.specs.Choice.{choose}
use Rattle.net.specs.Records.{address_of, node_at, tuple_at}
use Rattle.net.proofs.Laws.{choose_true, choose_false}
use Rattle.matching.specs.declared.template.Evaluated.{Evaluated}
use Rattle.matching.specs.Matching.{evaluated_of, bound_of}
use Rattle.sound.proofs.CodeFacts.{Acts}
use Rattle.plans.specs.declared.request.Request.{Request}
use Rattle.plans.specs.Answer.{number_of}
use Rattle.plans.specs.Request.{asked, granted}
use Rattle.step.specs.Pick.{performed, taken, in_found, input, read_found, read, carried_out}
use Rattle.lean_step.specs.LeanStep.{at_variable, lean_process_step}
use Rattle.lean_words.proofs.RowLaws.{grants_take, grants_read}
use Rattle.lean_code.specs.Fields.{template_words, defined_words}
use Rattle.lean_code.specs.Heads.{aimed_words, action_words, head_words}
use Rattle.lean.specs.Types.{Place, Process, Target, Action, Instruction, Net, Answer}
use Rattle.lean.specs.Words.{Words, net_in, with_slot}
use Rattle.lean.specs.Actions.{Met, met_with, fewer, removed_of, take_met, take_place_at, take_of, read_met, read_at, read_of}
use Rattle.lean.specs.Rounds.{after_acted, after_moved, take_words, read_words}
use Rattle.lean.specs.Standing.{Seated, Agrees}
use Rattle.lean.proofs.ActionTypes.{TakeAgrees, ReadAgrees}
use Rattle.lean.proofs.Aims.{seat_few, seat_acts, seat_head, seat_asks, aimed}
use Rattle.lean.proofs.Hosts.{with_host_words, host_sized, same_moved, same_acted}
use Rattle.lean.proofs.Meetings.{bound_to, bound_host, bound_slot, meeting}
use Rattle.lean.proofs.Seats.{nodes_are}
use Rattle.lean.proofs.StoreChanges.{taken_anew, slot_ranged, taken_ranged}

-- ---- at an address
module _
    (start : Net) (w : Words) (a k : ℕ) (ws : List ℕ) (p : Process) (c : Instruction) (seat : Seated start w a k ws p c)
    (there : defined_words ws (template_words c) ≡ true) (q : Place) (next : q.0 < start.length) (l : ℕ) (used : l < w.count)
    (h : List ℕ) (at_next : get_or h 3 0 ≡ q.0) (at_count : get_or h 5 0 ≡ c.count)
  where
    abbrev s : Net
    s = net_in start w

    abbrev e : Evaluated
    e = evaluated_of (address_of a) p c

    low : l < 16
    low = omega (arith, seat_few start w a k ws p c seat)

    near : l % 16 ≡ l
    near = omega (arith, low)

    abbrev bound : ℕ → List ℕ
    bound j = bound_to start w a k ws p c seat there q next l used j

    -- ---- in
    fewer_is : 0 < get_or w.stored l 0 → fewer w.stored l ≡ set w.stored l (get_or w.stored l 0 - 1)
    unfolding fewer
    fewer_is g = rw near (choose_true _ _ _ (lt-ltb 0 (get_or w.stored l 0) g))

    take_some :
        (j : ℕ) → j < 16 → j < get_or w.stored l 0
        → Agrees start (after_moved w (take_met l w.stored w.tuples (met_with j (with_slot w.slots a k (bound j)))))
        (in_found s (address_of a) k (address_of l) q (Some j) (bound_of p (tuple_at (node_at s (address_of l)) j) e))
    unfolding take_met removed_of in_found after_moved performed number_of
    take_some j g m =
        rw (choose_true _ _ _ (lt-ltb j 16 g), fewer_is (omega arith), near) (record {
          answer_is = refl;
          net_is =
              taken_anew start (nodes_are start w seat.stands) (with_host_words start w a k ws p c seat (bound j))
              (host_sized start w a k ws p c seat (bound j)) l low j g
              ∙ ap (λ (s' : Net). taken s' (address_of l) j) (bound_host start w a k ws p c seat there q next l used j g);
          ranged = record {
            slots_in = slot_ranged w.slots a k (bound j) seat.stands.ranged.slots_in (bound_slot start w a k ws p c seat there q next l used j g);
            tuples_ranged = taken_ranged w.tuples l j low seat.stands.sized.tuples_are seat.stands.ranged.tuples_ranged;
          };
        })

    take_none :
        (j : ℕ) → 16 ≤ j
        → Agrees start (after_moved w (take_met l w.stored w.tuples (met_with j w.slots)))
        (in_found s (address_of a) k (address_of l) q None p)
    unfolding take_met in_found number_of
    take_none j g = rw (choose_false _ _ _ (le-ltb j 16 g)) (same_moved start w a k ws p c seat 2 Answer.NoTuple refl)

    pub take_reached :
        Agrees start (after_moved w (take_place_at l w.slots w.stored w.tuples h (template_words c) a k))
        (carried_out s (address_of a) k p e (Request.In (address_of l) q))
    unfolding take_place_at carried_out input
    take_reached =
        rw (choose_false _ _ _ (lt-leb 16 l low))
        (meeting start w a k ws p c seat there q next l used
        (λ (m : Met) (f : Option ℕ) (r : Process). Agrees start (after_moved w (take_met l w.stored w.tuples m)) (in_found s (address_of a) k (address_of l) q f r))
        take_some take_none h at_next at_count)

    -- ---- read
    read_some :
        (j : ℕ) → j < 16 → j < get_or w.stored l 0
        → Agrees start (after_acted w (read_met (met_with j (with_slot w.slots a k (bound j)))))
        (read_found s (address_of a) k q (Some j) (bound_of p (tuple_at (node_at s (address_of l)) j) e))
    unfolding read_met read_found after_acted performed number_of
    read_some j g m =
        rw (choose_true _ _ _ (lt-ltb j 16 g)) (record {
          answer_is = refl;
          net_is = bound_host start w a k ws p c seat there q next l used j g;
          ranged = record {
            slots_in = slot_ranged w.slots a k (bound j) seat.stands.ranged.slots_in (bound_slot start w a k ws p c seat there q next l used j g);
            tuples_ranged = seat.stands.ranged.tuples_ranged;
          };
        })

    read_none :
        (j : ℕ) → 16 ≤ j
        → Agrees start (after_acted w (read_met (met_with j w.slots))) (read_found s (address_of a) k q None p)
    unfolding read_met read_found number_of
    read_none j g = rw (choose_false _ _ _ (le-ltb j 16 g)) (same_acted start w a k ws p c seat 2 Answer.NoTuple refl)

    pub read_reached :
        Agrees start (after_acted w (read_at l w.slots w.stored w.tuples h (template_words c) a k))
        (carried_out s (address_of a) k p e (Request.Read (address_of l) q))
    unfolding read_at carried_out read
    read_reached =
        rw (choose_false _ _ _ (lt-leb 16 l low))
        (meeting start w a k ws p c seat there q next l used
        (λ (m : Met) (f : Option ℕ) (r : Process). Agrees start (after_acted w (read_met m)) (read_found s (address_of a) k q f r))
        read_some read_none h at_next at_count)

-- ---- the actions
module _
    (start : Net) (w : Words) (a k : ℕ) (ws : List ℕ) (p : Process) (c : Instruction) (seat : Seated start w a k ws p c)
    (t : Target) (q : Place)
  where
    take_in : c.action ≡ Action.In t q → Agrees start (take_words w (head_words c) (template_words c) a k) (lean_process_step (net_in start w) (address_of a) k p c)
    unfolding take_words take_of take_place_at choose granted number_of action_words aimed_words asked at_variable Acts
    take_in act =
        let x : Action = Action.In t q in
        let known = seat_acts start w a k ws p c seat x act in
        aimed start w a k ws p c seat t (λ l. Request.In l q) 0 (seat_head start w a k ws p c seat x 2 act) (seat_head start w a k ws p c seat x 1 act) known.0 (seat_asks start w a k ws p c seat x act)
        (ap at_variable act) (λ fs l low. grants_take fs l low)
        (λ l r. Agrees start (after_moved w (take_place_at l w.slots w.stored w.tuples (head_words c) (template_words c) a k)) r)
        (same_moved start w a k ws p c seat 6 Answer.NotSet refl) (same_moved start w a k ws p c seat 4 Answer.NoRight refl)
        (λ l used there. take_reached start w a k ws p c seat there q known.1 l used (head_words c) (seat_head start w a k ws p c seat x 3 act) (seat_head start w a k ws p c seat x 5 act))

    read_in : c.action ≡ Action.Read t q → Agrees start (read_words w (head_words c) (template_words c) a k) (lean_process_step (net_in start w) (address_of a) k p c)
    unfolding read_words read_of read_at choose granted number_of action_words aimed_words asked at_variable Acts
    read_in act =
        let x : Action = Action.Read t q in
        let known = seat_acts start w a k ws p c seat x act in
        aimed start w a k ws p c seat t (λ l. Request.Read l q) 1 (seat_head start w a k ws p c seat x 2 act) (seat_head start w a k ws p c seat x 1 act) known.0 (seat_asks start w a k ws p c seat x act)
        (ap at_variable act) (λ fs l low. grants_read fs l low)
        (λ l r. Agrees start (after_acted w (read_at l w.slots w.stored w.tuples (head_words c) (template_words c) a k)) r)
        (same_acted start w a k ws p c seat 6 Answer.NotSet refl) (same_acted start w a k ws p c seat 4 Answer.NoRight refl)
        (λ l used there. read_reached start w a k ws p c seat there q known.1 l used (head_words c) (seat_head start w a k ws p c seat x 3 act) (seat_head start w a k ws p c seat x 5 act))

pub take_agrees : TakeAgrees
unfolding TakeAgrees
take_agrees = take_in

pub read_agrees : ReadAgrees
unfolding ReadAgrees
read_agrees = read_in
