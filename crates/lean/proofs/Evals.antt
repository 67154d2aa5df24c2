-- An eval on words that stand for a sound net is the eval of the lean step: the code that it sends is judged by what it needs and by the
-- flags of the target's row for the host. Assumes nothing.
use Prim.Native.Nat.{ℕ, ◌<◌, ◌≤◌, ◌%◌}
use mathlib.Core.Path.{◌≡◌, refl, sym, ap, ◌∙◌}
use mathlib.Core.Bool.{true}
use mathlib.Core.List.{List, []}
use native.Mathlib.Omega.{arith}
use lib.ListN.{get_or, set}
use borrow.Author.Tests.{lt-ltb, lt-leb, ltb-true}
use Rattle.net.specs.Choice.{choose, both, implies, all}
use Rattle.net.specs.Records.{address_of, place_of, node_at, row_for, sent_from, free_slot, instruction_at, with_action, zero_instruction}
use Rattle.net.proofs.Every.{filled_each}
use Rattle.net.proofs.Laws.{choose_true, choose_false}
use Rattle.net.proofs.NodeLaws.{row_in_law}
use Rattle.matching.specs.Matching.{evaluated_of}
use Rattle.keeping.specs.Keeping.{keeps_of}
use Rattle.sound.specs.Soundness.{target_sound}
use Rattle.sound.proofs.CodeFacts.{Acts, Bare}
use Rattle.plans.specs.declared.request.Request.{Request}
use Rattle.plans.specs.Answer.{number_of}
use Rattle.plans.specs.Request.{target_of, asked, spoken, request_of, granted}
use Rattle.step.specs.Pick.{started_in, eval, carried_out}
use Rattle.lean_step.specs.LeanStep.{at_variable, lean_process_step}
use Rattle.lean_words.specs.Processes.{process_in}
use Rattle.lean_words.specs.Rights.{admits_words}
use Rattle.lean_words.proofs.RowLaws.{grants_send}
use Rattle.lean_code.specs.Fields.{template_words}
use Rattle.lean_code.specs.Heads.{aimed_words, action_words, head_words}
use Rattle.lean_code.specs.Needs.{needs_of}
use Rattle.lean_code.proofs.Admission.{low_target, low_action, admission}
use Rattle.lean.specs.Types.{Locality, Place, Process, Target, Action, Instruction, Net, Answer, Picked}
use Rattle.lean.specs.Words.{Words, net_in}
use Rattle.lean.specs.Actions.{Acted, copy_of, start_of, eval_at, eval_of}
use Rattle.lean.specs.Rounds.{after_acted, eval_words}
use Rattle.lean.specs.Standing.{Stands, Seated, Agrees}
use Rattle.lean.proofs.ActionTypes.{EvalAgrees}
use Rattle.lean.proofs.Aims.{seat_few, seat_acts, seat_head, seat_asks, alike, aimed}
use Rattle.lean.proofs.Frame.{row_at_law}
use Rattle.lean.proofs.Hosts.{same_acted}
use Rattle.lean.proofs.Seats.{net_ok, nodes_are, code_below, seat_host}
use Rattle.lean.proofs.Starts.{copy_in, copy_ranged, started}

-- ---- the written targets of a sound net are addresses
target_low : (n : ℕ) (t : Target) → n ≤ 16 → target_sound n t ≡ true → low_target t ≡ true
unfolding low_target target_sound
target_low n (Target.Written l) few h = lt-ltb l.0 16 (omega (arith, ltb-true l.0 n h))
target_low n Target.Own few h = refl
target_low n (Target.Held v) few h = refl

action_low : (f n k : ℕ) (x : Action) (c : Instruction) → n ≤ 16 → Acts f n k x c → low_action x ≡ true
unfolding low_action Acts
action_low f n k Action.Stop c few h = refl
action_low f n k (Action.Out t q) c few (h, _, _) = target_low n t few h
action_low f n k (Action.In t q) c few (h, _, _) = target_low n t few h
action_low f n k (Action.Read t q) c few (h, _, _) = target_low n t few h
action_low f n k (Action.Eval t sent q) c few (h, _, _, _) = target_low n t few h
action_low f n k (Action.New v q) c few h = refl
action_low f n k (Action.Fork q r) c few h = refl
action_low f n k (Action.OutAll g q) c few h = refl

module _ (start : Net) (w : Words) (stands : Stands start w) where
  code_low : (q : ℕ) → q < 512 → low_action (instruction_at start.code (place_of q)).action ≡ true
  unfolding net_in instruction_at zero_instruction low_action
  code_low q h =
      let ok = net_ok start w stands in
      filled_each ok.code_ok (λ c d. action_low start.format w.count start.length c.action c ok.addresses_most d)
      (λ c e. ap (λ (d : Instruction). low_action d.action) e) q h

-- an instruction without a template has nothing undefined
bare_defined : (host : Locality) (p : Process) (c : Instruction) → Bare c → (evaluated_of host p c).defined ≡ true
unfolding evaluated_of with_action zero_instruction all implies both
bare_defined host p c e = rw (ap (λ (d : Instruction). d.count) e)

module _
    (start : Net) (w : Words) (a k : ℕ) (ws : List ℕ) (p : Process) (c : Instruction) (seat : Seated start w a k ws p c)
    (t : Target) (sent q : Place) (act : c.action ≡ Action.Eval t sent q)
  where
    abbrev s : Net
    s = net_in start w

    abbrev h : List ℕ
    h = head_words c

    known : (target_sound w.count t ≡ true) × (sent.0 < start.length) × (q.0 < start.length) × Bare c
    unfolding Acts
    known = seat_acts start w a k ws p c seat (Action.Eval t sent q) act

    -- what the eval comes to at the address, or with the answer, that a number stands for
    Comes : ℕ → Picked → Type 0
    Comes l r = Agrees start (after_acted w (eval_at l w.slots w.rows (needs_of start.code sent) h a k)) r

    -- ---- at an address
    module _ (l : ℕ) (used : l < w.count) where
      low : l < 16
      low = omega (arith, seat_few start w a k ws p c seat)

      -- sent code is judged by the target's row for the host
      judged :
          admits_words (needs_of start.code sent) (get_or (get_or w.rows l []) a []) l
          ≡ keeps_of s.code sent (address_of l) (row_for (node_at s (address_of l)) (sent_from (address_of a) p sent))
      unfolding net_in sent_from
      judged =
          let host = seat_host start w a k ws p c seat in
          admission (get_or (get_or w.rows l []) a []) start.code (code_low start w seat.stands) sent l low
          ∙ ap (keeps_of start.code sent (address_of l))
          (sym (row_at_law start (nodes_are start w seat.stands) w l low a host) ∙ row_in_law (node_at s (address_of l)) (sent_from (address_of a) p sent) host)

      admitted :
          Agrees start (after_acted w (start_of w.slots h a k l a))
          (started_in s (address_of a) k (address_of l) p (sent_from (address_of a) p sent) q (free_slot (node_at s (address_of l))))
      unfolding copy_of action_words aimed_words
      admitted =
          let host = seat_host start w a k ws p c seat in
          let place : get_or h 4 0 ≡ sent.0 = seat_head start w a k ws p c seat (Action.Eval t sent q) 4 act in
          started start w a k ws p c seat h l a (sent_from (address_of a) p sent) q low
          (seat_head start w a k ws p c seat (Action.Eval t sent q) 3 act) known.2
          (copy_ranged start w a k ws p c seat (get_or h 4 0) a (omega arith))
          (ap (λ (m : ℕ). process_in (set (set ws 8 m) 9 a)) place
          ∙ copy_in start w a k ws p c seat sent.0 a (omega (arith, known.1, code_below start w seat.stands)) (omega arith))

      reached : Comes l (carried_out s (address_of a) k p (evaluated_of (address_of a) p c) (Request.Eval (address_of l) sent q))
      unfolding Comes eval_at carried_out eval number_of
      reached =
          let host = seat_host start w a k ws p c seat in
          let near : l % 16 ≡ l = omega (arith, low) in
          let here : a % 16 ≡ a = omega arith in
          rw (choose_false _ _ _ (lt-leb 16 l low), near, here, judged)
          (alike (λ (x : Acted) (r : Picked). Agrees start (after_acted w x) r) _ _ _ _ _ (λ _. admitted)
          (λ _. same_acted start w a k ws p c seat 5 Answer.NotWithin refl))

    -- ---- by the target
    asks :
        request_of (address_of a) p c
        ≡ spoken (evaluated_of (address_of a) p c) (target_of (address_of a) p t) (λ l. Request.Eval l sent q)
    unfolding asked spoken
    asks =
        seat_asks start w a k ws p c seat (Action.Eval t sent q) act
        ∙ sym (choose_true _ _ _ (bare_defined (address_of a) p c known.3))

    pub eval_comes : Agrees start (eval_words w (needs_of start.code sent) h (template_words c) a k) (lean_process_step s (address_of a) k p c)
    unfolding eval_words eval_of Comes eval_at choose number_of action_words aimed_words at_variable granted
    eval_comes =
        aimed start w a k ws p c seat t (λ l. Request.Eval l sent q) 3
        (seat_head start w a k ws p c seat (Action.Eval t sent q) 2 act)
        (seat_head start w a k ws p c seat (Action.Eval t sent q) 1 act)
        known.0 asks (ap at_variable act) (λ fs l g. grants_send fs l g) Comes
        (same_acted start w a k ws p c seat 6 Answer.NotSet refl)
        (same_acted start w a k ws p c seat 4 Answer.NoRight refl)
        (λ l used _. reached l used)

pub eval_agrees : EvalAgrees
unfolding EvalAgrees
eval_agrees = eval_comes
