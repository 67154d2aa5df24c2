-- A pick on words that stand for a sound net is the lean step on that net, and so are the picks of a list; from what is shown of each
-- action (`ActionTypes.antt`). Assumes nothing.
use Prim.Native.Nat.{ℕ, ◌<◌, ◌≤◌, ◌/◌, ◌%◌}
use mathlib.Core.Path.{◌≡◌, refl, sym, ap, ap₂, subst, ◌∙◌}
use mathlib.Core.Bool.{Bool, true, false}
use mathlib.Core.List.{List, [], ◌∷◌}
use native.Mathlib.Omega.{arith}
use lib.Dec.{eqb, ltb, leb}
use lib.ListN.{get_or}
use native.Mathlib.Decide.{dec_le}
use borrow.Author.Tests.{lt-ltb, le-ltb, le-leb, lt-leb}
use Rattle.net.specs.Choice.{choose}
use Rattle.net.specs.Records.{address_of, place_of, node_at, process_at, instruction_at, free_process}
use Rattle.net.specs.Shape.{Shaped}
use Rattle.net.proofs.Laws.{choose_true, choose_false}
use Rattle.sound.specs.Soundness.{sound_of}
use Rattle.plans.specs.Answer.{number_of}
use Rattle.step.specs.Pick.{host_of, slot_of, spare_of, unchanged}
use Rattle.step.specs.Ran.{numbers, answered}
use Rattle.lean_step.specs.LeanStep.{lean_process_step, lean_slot_step, lean_step_of, lean_pick_of, lean_ran_from}
use Rattle.lean_step.proofs.LeanKept.{lean_sound_kept}
use Rattle.lean_words.specs.Processes.{process_in, busy_in}
use Rattle.lean_code.specs.Fields.{template_words}
use Rattle.lean_code.specs.Heads.{head_words, action_words, aimed_words, alone_words, set_flags}
use Rattle.lean_code.specs.Needs.{needs_of}
use Rattle.lean.specs.Types.{Place, Target, Action, Process, Instruction, Net, Answer, Picked}
use Rattle.lean.specs.Words.{Words, slot_at, net_in}
use Rattle.lean.specs.Rounds.{Tables, Stepped, act_by, act_with, act_of, step_at, step_words, answered_words, ran_words}
use Rattle.lean.specs.Standing.{Stands, Tabled, Seated, Agrees}
use Rattle.lean.proofs.Aims.{alike}
use Rattle.lean.proofs.ActionTypes.{StopAgrees, OutAgrees, TakeAgrees, ReadAgrees, EvalAgrees, CreateAgrees, ForkAgrees, OutAllAgrees}
use Rattle.lean.proofs.Frame.{process_at_law, slot_in}
use Rattle.lean_code.proofs.Rewritten.{busy_in_law}
use Rattle.lean.proofs.Seats.{nodes_are, host_below, free_in, seat_running, seat_place, seated}
use Rattle.lean.proofs.SizedKept.{sized_kept}

number_small : (x : Answer) → number_of x % 256 ≡ number_of x
unfolding number_of
number_small Answer.Performed = refl
number_small Answer.Ended = refl
number_small Answer.NoTuple = refl
number_small Answer.NoRoom = refl
number_small Answer.NoRight = refl
number_small Answer.NotWithin = refl
number_small Answer.NotSet = refl
number_small Answer.FreeSlot = refl
number_small Answer.NotInUse = refl
number_small Answer.Malformed = refl
number_small Answer.Unsound = refl

pick_steps : (s : Net) (b : ℕ) → sound_of s ≡ true → lean_pick_of s b ≡ lean_step_of s b
unfolding lean_pick_of
pick_steps s b sound = choose_true _ _ _ sound

pub record ActionLaws : Type 0 where
  pub stop : StopAgrees
  pub out : OutAgrees
  pub take : TakeAgrees
  pub read : ReadAgrees
  pub eval : EvalAgrees
  pub create : CreateAgrees
  pub fork : ForkAgrees
  pub out_all_law : OutAllAgrees

-- ---- two choices by tests that say the same
module _ {A B : Type 0} (R : A → B → Type 0) where
  turned : (n a : ℕ) (x y : A) (u v : B) → (n ≤ a → R x v) → (a < n → R y u) → R (choose (leb n a) x y) (choose (ltb a n) u v)
  turned n a x y u v f g = go (dec_le n a)
    where
      go : Dec (n ≤ a) → R (choose (leb n a) x y) (choose (ltb a n) u v)
      go (yes p) = rw (choose_true _ x y (le-leb n a p), choose_false _ u v (le-ltb a n p)) (f p)
      go (no p) = let l : a < n = omega arith in rw (choose_false _ x y (lt-leb n a l), choose_true _ u v (lt-ltb a n l)) (g l)

  by_place :
      (n : ℕ) (b : Bool) (x y : A) (u v : B) → (512 ≤ n → b ≡ false) → (n < 512 → b ≡ true) → (512 ≤ n → R x v) → (n < 512 → R y u)
      → R (choose (leb 512 n) x y) (choose b u v)
  by_place n b x y u v off on f g = go (dec_le 512 n)
    where
      go : Dec (512 ≤ n) → R (choose (leb 512 n) x y) (choose b u v)
      go (yes p) = rw (choose_true _ x y (le-leb 512 n p), choose_false _ u v (off p)) (f p)
      go (no p) = let l : n < 512 = omega arith in rw (choose_false _ x y (lt-leb 512 n l), choose_true _ u v (on l)) (g l)

module _ (laws : ActionLaws) (start : Net) where
  -- ---- the instruction's action, by its number
  module _ (w : Words) (a k : ℕ) (ws : List ℕ) (p : Process) (c : Instruction) (seat : Seated start w a k ws p c) (need : List Bool) where
    acted : (n : ℕ) → Stepped
    acted n = act_by n w (head_words c) (template_words c) (set_flags c) need start.format a k

    -- what is shown of the action with the number n holds of the one that is chosen
    as_numbered :
        (n : ℕ) → get_or (head_words c) 0 0 ≡ n → Agrees start (acted n) (lean_process_step (net_in start w) (address_of a) k p c)
        → Agrees start (acted (get_or (head_words c) 0 0)) (lean_process_step (net_in start w) (address_of a) k p c)
    as_numbered n e h =
        subst (λ (m : ℕ). Agrees start (acted m) (lean_process_step (net_in start w) (address_of a) k p c)) (sym e) h

    numbered : (x : Action) → c.action ≡ x → get_or (head_words c) 0 0 ≡ get_or (action_words c.count x) 0 0
    unfolding head_words
    numbered x e = ap (λ (y : Action). get_or (action_words c.count y) 0 0) e

    by_action :
        (x : Action) → c.action ≡ x
        → ((t : Target) (sent q : Place) → c.action ≡ Action.Eval t sent q → need ≡ needs_of start.code sent)
        → Agrees start (acted (get_or (head_words c) 0 0)) (lean_process_step (net_in start w) (address_of a) k p c)
    unfolding acted act_by choose action_words aimed_words alone_words StopAgrees OutAgrees TakeAgrees ReadAgrees EvalAgrees CreateAgrees ForkAgrees OutAllAgrees
    by_action Action.Stop e need-is = as_numbered 0 (numbered _ e) (laws.stop start w a k ws p c seat e)
    by_action (Action.Out t q) e need-is = as_numbered 1 (numbered _ e) (laws.out start w a k ws p c seat t q e)
    by_action (Action.In t q) e need-is = as_numbered 2 (numbered _ e) (laws.take start w a k ws p c seat t q e)
    by_action (Action.Read t q) e need-is = as_numbered 3 (numbered _ e) (laws.read start w a k ws p c seat t q e)
    by_action (Action.Eval t sent q) e need-is =
        as_numbered 4 (numbered _ e) (rw (need-is t sent q e) (laws.eval start w a k ws p c seat t sent q e))
    by_action (Action.New v q) e need-is = as_numbered 5 (numbered _ e) (laws.create start w a k ws p c seat v q e)
    by_action (Action.Fork q r) e need-is = as_numbered 6 (numbered _ e) (laws.fork start w a k ws p c seat q r e)
    by_action (Action.OutAll g q) e need-is = as_numbered 7 (numbered _ e) (laws.out_all_law start w a k ws p c seat g q e)

  module _ (tb : Tables) (tabled : Tabled start tb) where
    -- ---- the instruction at the process's place, from the tables
    act_agrees :
        (w : Words) (a k : ℕ) (ws : List ℕ) (p : Process) (c : Instruction) → Seated start w a k ws p c
        → Agrees start (act_of tb w a k (get_or ws 8 0)) (lean_process_step (net_in start w) (address_of a) k p c)
    unfolding act_of act_with acted
    act_agrees w a k ws p c seat =
        let q = get_or ws 8 0 in
        let place = seat_place start w a k ws p c seat in
        let below : q < start.length = subst (λ (i : ℕ). i < start.length) place (seat_running start w a k ws p c seat).place in
        let busy = seat.busy in
        let low : q % 512 ≡ q = omega arith in
        let here : instruction_at start.code (place_of q) ≡ c =
        ap (λ (i : ℕ). instruction_at start.code (place_of i)) (sym place) ∙ seat.instruction_is in
        let h : get_or tb.heads (q % 512) [] ≡ head_words c =
        ap (λ (i : ℕ). get_or tb.heads i []) low ∙ tabled.heads_are q below ∙ ap head_words here in
        let f : get_or tb.fields (q % 512) [] ≡ template_words c =
        ap (λ (i : ℕ). get_or tb.fields i []) low ∙ tabled.fields_are q below ∙ ap template_words here in
        let g : get_or tb.sets (q % 512) [] ≡ set_flags c =
        ap (λ (i : ℕ). get_or tb.sets i []) low ∙ tabled.sets_are q below ∙ ap set_flags here in
        rw (h, f, g, tabled.format_is)
        (by_action w a k ws p c seat (get_or tb.needs (q % 512) []) c.action refl
        (λ t sent next e.
        ap (λ (i : ℕ). get_or tb.needs i []) low
        ∙ tabled.needs_are q t sent next below (ap (λ (d : Instruction). d.action) here ∙ e)))

    -- ---- a pick
    same_agrees :
        (w : Words) → Stands start w → (n : ℕ) (x : Answer) → n ≡ number_of x
        → Agrees start (record { answer = n; words = w }) (unchanged x (net_in start w))
    unfolding unchanged
    same_agrees w stands n x e = record { answer_is = e; net_is = refl; ranged = stands.ranged }

    -- the process of a slot
    slot_agrees :
        (w : Words) → Stands start w → (a k : ℕ) → a < w.count → k < 4
        → Agrees start (step_at tb w a k (get_or (slot_at w.slots a k) 8 0)) (lean_slot_step (net_in start w) (address_of a) k)
    unfolding step_at lean_slot_step number_of free_process busy_in net_in
    slot_agrees w stands a k used slot =
        let ws = slot_at w.slots a k in
        let host = host_below start w stands a used in
        let here : process_at (node_at (net_in start w) (address_of a)) k ≡ process_in ws =
        process_at_law start (nodes_are start w stands) w a host k slot ∙ ap process_in (sym (slot_in w.slots a k host slot)) in
        rw here
        (by_place (Agrees start) (get_or ws 8 0) _ _ _ _ _
        (λ free. ap (λ (q : Process). q.busy) (free_in ws free))
        (λ busy. ap (λ (q : Process). q.busy) (busy_in_law ws busy))
        (λ _. same_agrees w stands 7 Answer.FreeSlot refl)
        (λ busy. act_agrees w a k ws _ _ (seated start tb w a k stands tabled used slot busy)))

    pub step_agrees : (w : Words) → Stands start w → (b : ℕ) → Agrees start (step_words tb w b) (lean_step_of (net_in start w) b)
    unfolding step_words lean_step_of host_of slot_of spare_of number_of net_in
    step_agrees w stands b =
        alike (Agrees start) (eqb (b % 4) 0) _ _ _ _
        (λ _. turned (Agrees start) w.count (b / 16) _ _ _ _
        (λ _. same_agrees w stands 8 Answer.NotInUse refl)
        (λ used. slot_agrees w stands (b / 16) (b / 4 % 4) used (omega arith)))
        (λ _. same_agrees w stands 9 Answer.Malformed refl)

    pub step_stands : (w : Words) → Stands start w → (b : ℕ) → Stands start (step_words tb w b).words
    step_stands w stands b =
        let agrees = step_agrees w stands b in
        let kept = lean_sound_kept (net_in start w) b stands.shaped stands.sound in
        record {
          shaped = subst Shaped (sym agrees.net_is) kept.1;
          sound = ap sound_of agrees.net_is ∙ kept.0;
          sized = sized_kept tb w b stands.sized;
          ranged = agrees.ranged;
        }

    -- ---- a list of picks
    pub ran_agrees :
        (w : Words) → Stands start w → (picks : List ℕ)
        → (net_in start (ran_words tb w picks).words ≡ (lean_ran_from (net_in start w) picks).net)
        × ((ran_words tb w picks).answers ≡ numbers (lean_ran_from (net_in start w) picks))
    unfolding ran_words lean_ran_from numbers answered_words answered
    ran_agrees w stands [] = (refl, refl)
    ran_agrees w stands (b ∷ bs) =
        let agrees = step_agrees w stands b in
        let picked : lean_pick_of (net_in start w) b ≡ lean_step_of (net_in start w) b = pick_steps (net_in start w) b stands.sound in
        let rest = ran_agrees (step_words tb w b).words (step_stands w stands b) bs in
        let from : net_in start (step_words tb w b).words ≡ (lean_pick_of (net_in start w) b).net =
        agrees.net_is ∙ ap (λ (r : Picked). r.net) (sym picked) in
        let first : (step_words tb w b).answer % 256 ≡ number_of (lean_pick_of (net_in start w) b).answer =
        ap (λ (n : ℕ). n % 256) agrees.answer_is
        ∙ number_small (lean_step_of (net_in start w) b).answer
        ∙ ap (λ (r : Picked). number_of r.answer) (sym picked) in (
          rest.0 ∙ ap (λ (s : Net). (lean_ran_from s bs).net) from,
          ap₂ (λ (x : ℕ) (xs : List ℕ). x ∷ xs) first (rest.1 ∙ ap (λ (s : Net). numbers (lean_ran_from s bs)) from),
        )
