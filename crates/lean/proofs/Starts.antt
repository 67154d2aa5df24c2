-- A process goes on and its copy starts in the lowest free slot of an address: on words, and in the net that they stand for. A stop, a fork
-- and an eval on words that stand for a sound net are those of the lean step. Assumes nothing.
use Prim.Native.Nat.{ℕ, ◌<◌, ◌≤◌, ◌%◌}
use mathlib.Core.Path.{◌≡◌, refl, sym, ap, ap₂, subst, ◌∙◌}
use mathlib.Core.Bool.{true, not}
use mathlib.Core.List.{List, []}
use native.Mathlib.Omega.{arith}
use native.Mathlib.Decide.{dec_le}
use lib.Dec.{ltb, leb}
use lib.ListN.{get_or, set, length-set}
use lib.Seq.{get_or-set_same, get_or-set_other}
use borrow.Author.Tests.{le-leb, lt-leb}
use Rattle.std.specs.Prelude.{Option, Some, None}
use Rattle.net.specs.Choice.{choose}
use Rattle.net.specs.Records.{address_of, place_of, node_at, moved_to, copied_to, sent_from, free_slot, free_process}
use Rattle.matching.specs.Matching.{evaluated_of}
use Rattle.sound.proofs.CodeFacts.{Acts}
use Rattle.plans.specs.Answer.{number_of}
use Rattle.plans.specs.Request.{asked}
use Rattle.step.specs.Pick.{performed, with_host, stopped, started_in, fork, carried_out}
use Rattle.lean_step.specs.LeanStep.{at_variable, lean_acting, lean_process_step}
use Rattle.lean_words.specs.Processes.{free_words, busy_in, process_in, free_slot_in}
use Rattle.lean_words.proofs.BackLaws.{free_back}
use Rattle.lean_code.specs.Heads.{alone_words, action_words, head_words}
use Rattle.lean_code.specs.Ranged.{RangedSlot}
use Rattle.lean_code.proofs.Firsts.{first_same, first_number}
use Rattle.lean_code.proofs.Rewritten.{busy_in_law, of_origin, place_anew, origin_anew}
use Rattle.lean.specs.Types.{Place, Process, Action, Instruction, Net, Answer}
use Rattle.lean.specs.Words.{Words, net_in, slot_at, with_slot, with_word}
use Rattle.lean.specs.Actions.{Acted, acted_with, stop_of, copy_of, start_in, start_at, start_of, fork_of}
use Rattle.lean.specs.Rounds.{after_acted, stop_words, fork_words}
use Rattle.lean.specs.Standing.{Seated, Agrees}
use Rattle.lean.proofs.ActionTypes.{StopAgrees, ForkAgrees}
use Rattle.lean.proofs.Aims.{seat_ranged, seat_origin, seat_acts, seat_head, seat_asks, alike}
use Rattle.lean.proofs.Frame.{slot_anew, process_at_law}
use Rattle.lean.proofs.Hosts.{with_host_words, moved_words, host_sized, host_anew, host_moved, moved_ranged, same_acted}
use Rattle.lean.proofs.NodeWords.{free_ranged}
use Rattle.lean.proofs.Seats.{nodes_are, code_below, free_in, seat_host, seat_busy}
use Rattle.lean.proofs.StoreChanges.{each_one, slot_ranged}

-- ---- the words of a slot say whether it is free
busy_word : (us : List ℕ) → not (process_in us).busy ≡ leb 512 (get_or us 8 0)
unfolding busy_in free_process
busy_word us = go (dec_le 512 (get_or us 8 0))
  where
    go : Dec (512 ≤ get_or us 8 0) → not (process_in us).busy ≡ leb 512 (get_or us 8 0)
    go (yes h) = rw (free_in us h) (sym (le-leb 512 (get_or us 8 0) h))
    go (no h) = let l : get_or us 8 0 < 512 = omega arith in rw (busy_in_law us l) (sym (lt-leb 512 (get_or us 8 0) l))

-- the slot that a number stands for
slot_named : ℕ → Option ℕ
slot_named j = choose (ltb j 4) (Some j) None

module _ (start : Net) (w : Words) (a k : ℕ) (ws : List ℕ) (p : Process) (c : Instruction) (seat : Seated start w a k ws p c) where
  abbrev s : Net
  s = net_in start w

  free_is : (l : ℕ) → l < 16 → free_slot (node_at s (address_of l)) ≡ slot_named (free_slot_in (get_or w.slots l []))
  unfolding free_slot free_slot_in slot_named
  free_is l h =
      first_number 4 _ Some None
      ∙ ap slot_named
      (first_same 4 _ _ (λ j. j) 4
      (λ j g.
      ap (λ (q : Process). not q.busy) (process_at_law start (nodes_are start w seat.stands) w l h j g)
      ∙ busy_word (get_or (get_or w.slots l []) j [])))

  -- ---- the copy
  pub copy_in : (r o : ℕ) → r < 512 → o < 256 → process_in (set (set ws 8 r) 9 o) ≡ sent_from (address_of o) p (place_of r)
  unfolding moved_to sent_from
  copy_in r o h l =
      let size = (seat_ranged start w a k ws p c seat).size in
      origin_anew (set ws 8 r) (length-set ws 8 r ∙ size) (rw (get_or-set_same ws 8 r 0 (omega arith)) h) o l
      ∙ ap (λ (q : Process). of_origin q (address_of o))
      (place_anew ws size seat.busy r h ∙ ap (λ (q : Process). moved_to q (place_of r)) seat.decoded)
      ∙ (λ d. record { busy = seat_busy start w a k ws p c seat d; at = place_of r; origin = address_of o; variables = p.variables })

  pub copy_ranged : (r o : ℕ) → o < 256 → RangedSlot (set (set ws 8 r) 9 o)
  copy_ranged r o l =
      let ranged = seat_ranged start w a k ws p c seat in
      record {
        size = length-set (set ws 8 r) 9 o ∙ length-set ws 8 r ∙ ranged.size;
        variables = λ v g.
            rw (get_or-set_other (set ws 8 r) 9 v o 0 (λ e. omega arith), get_or-set_other ws 8 v r 0 (λ e. omega arith)) (ranged.variables v g);
        origin = rw (get_or-set_same (set ws 8 r) 9 o 0 (omega (arith, length-set ws 8 r, ranged.size))) l;
      }

  -- ---- the start
  module _ (h : List ℕ) (l origin : ℕ) (copy : Process) (q : Place) (low : l < 16) (next : get_or h 3 0 ≡ q.0) (on : q.0 < start.length)
      (ranged : RangedSlot (copy_of ws h origin)) (decoded : process_in (copy_of ws h origin) ≡ copy) where
    copied : (j : ℕ)
        → Agrees start
        (after_acted w (acted_with 0 (start_in (with_word w.slots a k 8 (get_or h 3 0)) l j (copy_of (slot_at w.slots a k) h origin))))
        (started_in s (address_of a) k (address_of l) p copy q (Some j))
    unfolding after_acted started_in performed number_of start_in with_word
    copied j =
        let near : l % 16 ≡ l = omega arith in
        let moved = moved_words start w a k ws p c seat q.0 in
        let same : copy_of (slot_at w.slots a k) h origin ≡ copy_of ws h origin = ap (λ (us : List ℕ). copy_of us h origin) seat.words_are in
        rw (next, near)
        (record {
          answer_is = refl;
          net_is =
              slot_anew start (nodes_are start w seat.stands) (with_host_words start w a k ws p c seat moved)
              (host_sized start w a k ws p c seat moved) l low j _
              ∙ ap₂ (λ (t : Net) (z : Process). with_host t (address_of l) j z) (host_moved start w a k ws p c seat q on) (ap process_in same ∙ decoded);
          ranged = record {
            slots_in = record {
              each =
                  each_one RangedSlot 16 4 (with_slot w.slots a k moved)
                  (slot_ranged w.slots a k moved seat.stands.ranged.slots_in (moved_ranged start w a k ws p c seat q.0)).each l j _ low
                  (subst RangedSlot (sym same) ranged);
            };
            tuples_ranged = seat.stands.ranged.tuples_ranged;
          };
        })

    pub started :
        Agrees start (after_acted w (start_of w.slots h a k l origin))
        (started_in s (address_of a) k (address_of l) p copy q (free_slot (node_at s (address_of l))))
    unfolding start_of start_at slot_named started_in number_of
    started =
        let near : l % 16 ≡ l = omega arith in
        rw (near, free_is l low)
        (alike (λ (x : Acted) (u : Option ℕ). Agrees start (after_acted w x) (started_in s (address_of a) k (address_of l) p copy q u)) _ _ _ _ _
        (λ _. copied _) (λ _. same_acted start w a k ws p c seat 3 Answer.NoRoom refl))

-- ---- an action that has no target
module _ (start : Net) (w : Words) (a k : ℕ) (ws : List ℕ) (p : Process) (c : Instruction) (seat : Seated start w a k ws p c) where
  pub alone_step : (x : Action) → c.action ≡ x
      → lean_process_step (net_in start w) (address_of a) k p c
      ≡ lean_acting (net_in start w) (address_of a) k p (evaluated_of (address_of a) p c) x (asked (address_of a) p (evaluated_of (address_of a) p c) x)
  unfolding lean_process_step
  alone_step x e =
      ap₂ (lean_acting (net_in start w) (address_of a) k p (evaluated_of (address_of a) p c)) e (seat_asks start w a k ws p c seat x e)

-- ---- stop
pub stop_agrees : StopAgrees
unfolding StopAgrees stop_words stop_of after_acted lean_acting at_variable asked carried_out stopped number_of choose
stop_agrees start w a k ws p c seat act =
    rw (alone_step start w a k ws p c seat Action.Stop act)
    (record {
      answer_is = refl;
      net_is = host_anew start w a k ws p c seat free_words ∙ ap (with_host (net_in start w) (address_of a) k) free_back;
      ranged = record {
        slots_in = slot_ranged w.slots a k free_words seat.stands.ranged.slots_in free_ranged;
        tuples_ranged = seat.stands.ranged.tuples_ranged;
      };
    })

-- ---- fork
pub fork_agrees : ForkAgrees
unfolding ForkAgrees fork_words fork_of lean_acting at_variable asked carried_out fork choose copy_of Acts action_words alone_words copied_to sent_from
fork_agrees start w a k ws p c seat q r act =
    let known = seat_acts start w a k ws p c seat (Action.Fork q r) act in
    let ranged = seat_ranged start w a k ws p c seat in
    let second : get_or (head_words c) 4 0 ≡ r.0 = seat_head start w a k ws p c seat (Action.Fork q r) 4 act in
    let short = code_below start w seat.stands in
    rw (alone_step start w a k ws p c seat (Action.Fork q r) act, seat.words_are)
    (started start w a k ws p c seat (head_words c) a (get_or ws 9 0) (copied_to p r) q (seat_host start w a k ws p c seat)
    (seat_head start w a k ws p c seat (Action.Fork q r) 3 act) known.0
    (copy_ranged start w a k ws p c seat (get_or (head_words c) 4 0) (get_or ws 9 0) ranged.origin)
    (ap (λ (m : ℕ). process_in (set (set ws 8 m) 9 (get_or ws 9 0))) second
    ∙ copy_in start w a k ws p c seat r.0 (get_or ws 9 0) (omega (arith, known.1)) ranged.origin
    ∙ (λ d. record { busy = true; at = r; origin = address_of (sym (seat_origin start w a k ws p c seat) d); variables = p.variables })))
