-- An out on words that stand for a sound net is the out of the lean step. Assumes nothing.
use Prim.Native.Nat.{ℕ, ◌+◌, ◌<◌, ◌%◌}
use mathlib.Core.Path.{◌≡◌, refl, ap, ap₂, ◌∙◌}
use mathlib.Core.Bool.{true, false}
use mathlib.Core.List.{List, []}
use native.Mathlib.Omega.{arith}
use lib.Dec.{ltb}
use lib.ListN.{get_or, set}
use borrow.Author.Tests.{ltb-true, lt-leb}
use Rattle.net.specs.Choice.{choose}
use Rattle.net.specs.Records.{address_of, marked, moved_to}
use Rattle.net.proofs.Laws.{choose_false}
use Rattle.matching.specs.declared.template.Evaluated.{Evaluated}
use Rattle.matching.specs.Matching.{evaluated_of}
use Rattle.sound.specs.Soundness.{target_sound}
use Rattle.sound.proofs.CodeFacts.{Acts, OutTemplate}
use Rattle.plans.specs.declared.request.Request.{Request}
use Rattle.plans.specs.Answer.{number_of}
use Rattle.plans.specs.Request.{asked, granted}
use Rattle.plans.specs.Additions.{tuple_of}
use Rattle.step.specs.Pick.{unchanged, performed, with_host, added, out, carried_out}
use Rattle.lean_step.specs.LeanStep.{at_variable, lean_process_step}
use Rattle.lean_words.proofs.RowLaws.{grants_put}
use Rattle.lean_code.specs.Fields.{template_words, defined_words}
use Rattle.lean_code.specs.Heads.{aimed_words, action_words, head_words}
use Rattle.lean.specs.Types.{Place, Process, Target, Action, Instruction, Net, Answer, Picked}
use Rattle.lean.specs.Words.{Words, net_in, with_word}
use Rattle.lean.specs.Actions.{Put, put_with, put_of, out_put, out_to, out_at, out_of}
use Rattle.lean.specs.Rounds.{after_moved, out_words}
use Rattle.lean.specs.Standing.{Seated, Agrees}
use Rattle.lean.proofs.ActionTypes.{OutAgrees}
use Rattle.lean.proofs.Aims.{seat_few, seat_acts, seat_head, seat_asks, alike, aimed}
use Rattle.lean.proofs.Frame.{stored_at}
use Rattle.lean.proofs.Hosts.{with_host_words, host_sized, moved_words, host_moved, moved_ranged, same_moved}
use Rattle.lean.proofs.Seats.{nodes_are}
use Rattle.lean.proofs.StoreChanges.{put_anew, slot_ranged, put_ranged}
use Rattle.lean.proofs.Tuples.{out_tuple, tuple_is, tuple_ranged, tuple_from_law}

module _
    (start : Net) (w : Words) (a k : ℕ) (ws : List ℕ) (p : Process) (c : Instruction) (seat : Seated start w a k ws p c)
    (t : Target) (q : Place) (act : c.action ≡ Action.Out t q)
  where
    abbrev s : Net
    s = net_in start w

    abbrev e : Evaluated
    e = evaluated_of (address_of a) p c

    abbrev h : List ℕ
    h = head_words c

    abbrev x : Action
    x = Action.Out t q

    known : (target_sound w.count t ≡ true) × (q.0 < start.length) × OutTemplate w.count c
    unfolding Acts
    known = seat_acts start w a k ws p c seat x act

    head_is : (i : ℕ) → get_or h i 0 ≡ get_or (aimed_words 1 t q 0 c.count) i 0
    unfolding action_words
    head_is i = seat_head start w a k ws p c seat x i act

    -- ---- at an address
    module _ (l : ℕ) (used : l < w.count) (there : defined_words ws (template_words c) ≡ true) where
      low : l < 16
      low = omega (arith, seat_few start w a k ws p c seat)

      abbrev n : ℕ
      n = get_or w.stored l 0

      abbrev tuple : List ℕ
      tuple = out_tuple start w a k ws p c seat known.2.each there

      done :
          n < 16
          → Agrees start
          (after_moved w
          (out_put w.slots h a k (put_with true (set w.stored l (n + 1)) (set w.tuples l (set (get_or w.tuples l []) n tuple)))))
          (performed (added (with_host s (address_of a) k (moved_to p q)) (address_of l) (marked (address_of a) (tuple_of e))))
      unfolding after_moved out_put choose with_word performed number_of aimed_words
      done room =
          rw (head_is 3) (record {
            answer_is = refl;
            net_is =
                put_anew start (nodes_are start w seat.stands)
                (with_host_words start w a k ws p c seat (moved_words start w a k ws p c seat q.0))
                (host_sized start w a k ws p c seat _) l low tuple room
                ∙ ap₂ (λ (s' : Net). added s' (address_of l)) (host_moved start w a k ws p c seat q known.1)
                (tuple_is start w a k ws p c seat known.2.each there);
            ranged = record {
              slots_in = slot_ranged w.slots a k _ seat.stands.ranged.slots_in (moved_ranged start w a k ws p c seat q.0);
              tuples_ranged =
                  put_ranged w.tuples l n tuple low seat.stands.ranged.tuples_ranged
                  (tuple_ranged start w a k ws p c seat known.2.each there);
            };
          })

      full : Agrees start (after_moved w (out_put w.slots h a k (put_with false w.stored w.tuples))) (unchanged Answer.NoRoom s)
      unfolding out_put choose number_of
      full = same_moved start w a k ws p c seat 3 Answer.NoRoom refl

      reached :
          Agrees start (after_moved w (out_at l w.slots w.stored w.tuples h (template_words c) a k))
          (carried_out s (address_of a) k p e (Request.Out (address_of l) q))
      unfolding out_at out_to put_of carried_out out aimed_words
      reached =
          let near : l % 16 ≡ l = omega (arith, low) in
          rw (choose_false _ _ _ (lt-leb 16 l low), near, tuple_from_law start w a k ws p c seat known.2.each there h (head_is 5))
          (rw (stored_at start (nodes_are start w seat.stands) w l low)
          (alike (λ (u : Put) (r : Picked). Agrees start (after_moved w (out_put w.slots h a k u)) r) (ltb n 16) _ _ _ _
          (λ b. done (ltb-true n 16 b)) (λ _. full)))

    agrees : Agrees start (out_words w h (template_words c) a k) (lean_process_step s (address_of a) k p c)
    unfolding out_words out_of out_at choose granted aimed_words asked at_variable number_of
    agrees =
        aimed start w a k ws p c seat t (λ l. Request.Out l q) 2 (head_is 2) (head_is 1) known.0
        (seat_asks start w a k ws p c seat x act) (ap at_variable act) (λ fs l low. grants_put fs l low)
        (λ l r. Agrees start (after_moved w (out_at l w.slots w.stored w.tuples h (template_words c) a k)) r)
        (same_moved start w a k ws p c seat 6 Answer.NotSet refl) (same_moved start w a k ws p c seat 4 Answer.NoRight refl) reached

pub out_agrees : OutAgrees
unfolding OutAgrees
out_agrees = agrees
