-- The claim `LeanBlind` of `specs/LeanBlind.antt`: what is carried out is answered by counts, tuples and processes, and by the target's
-- row at an eval alone. Matching, opened here, looks at no rows. Assumes nothing.
use Prim.Native.Nat.{ℕ, ◌<◌}
use mathlib.Core.Path.{◌≡◌, refl, sym, ap, ap₂, subst, ◌∙◌}
use mathlib.Core.Bool.{Bool, true, false, not}
use mathlib.Core.List.{List}
use lib.Dec.{eqb, ltb}
use lib.ListN.{get_or}
use borrow.Author.Tests.{eqb-true, ltb-true}
use Rattle.std.specs.Prelude.{Option, Some, None}
use Rattle.net.specs.Choice.{choose, both, first_below}
use Rattle.net.specs.Records.{node_at, process_at, tuple_at, instruction_at, row_at, row_for, zero_row, sent_from, free_slot}
use Rattle.net.proofs.Laws.{choose_false}
use Rattle.net.proofs.Every.{chosen}
use Rattle.net.proofs.Past.{past_process, past_tuple}
use Rattle.matching.specs.Matching.{evaluated_of, fits_of, oldest_of, matched_of}
use Rattle.keeping.specs.Keeping.{keeps_of}
use Rattle.plans.specs.Request.{target_of, at, spoken, asked, request_of}
use Rattle.step.specs.Pick.{host_of, slot_of, spare_of, unchanged, performed, stopped, out, out_all, in_found, input, read_found, read}
use Rattle.step.specs.Pick.{started_in, eval, fork, create, carried_out}
use Rattle.step.proofs.EachMember.{room_same}
use Rattle.lean_step.specs.Types.{Locality, Place, Row, Process, Node, Target, Action, Instruction, Net, Evaluated}
use Rattle.lean_step.specs.Types.{Answer, Request, Picked}
use Rattle.lean_step.specs.LeanStep.{in_variable, at_variable, lean_acting, lean_process_step, lean_slot_step, lean_step_of}
use Rattle.lean_step.specs.LeanBlind.{NodeButRows, NetButRows, named, Meets, Aims, out_aims, in_aims, read_aims, eval_aims}
use Rattle.lean_step.specs.LeanBlind.{NoneHeld, LeanBlind}

-- ---- two answers
module _ (x y x' y' : Picked) where
  chosen_answer :
      (b : Bool) → (b ≡ true → x.answer ≡ x'.answer) → (b ≡ false → y.answer ≡ y'.answer)
      → (choose b x y).answer ≡ (choose b x' y').answer
  unfolding choose
  chosen_answer true f g = f refl
  chosen_answer false f g = g refl

  -- by tests that are the same
  tested_answer :
      (b c : Bool) → b ≡ c → (b ≡ true → x.answer ≡ x'.answer) → (b ≡ false → y.answer ≡ y'.answer)
      → (choose b x y).answer ≡ (choose c x' y').answer
  tested_answer b c e f g = chosen_answer b f g ∙ ap (λ (d : Bool). (choose d x' y').answer) e

refused_answer : (x : Answer) (s t : Net) → (unchanged x s).answer ≡ (unchanged x t).answer
unfolding unchanged
refused_answer x s t = refl

performed_answer : (s t : Net) → (performed s).answer ≡ (performed t).answer
unfolding performed
performed_answer s t = refl

-- ---- two nodes that differ in their rows alone
module _ (x y : Node) (h : NodeButRows x y) where
  found_same : (p : Process) (e : Evaluated) → (matched_of p x e).found ≡ (matched_of p y e).found
  unfolding matched_of oldest_of tuple_at
  found_same p e i =
      first_below 16 (λ j. both (ltb j (h.stored i)) (fits_of (get_or (h.tuples i) j past_tuple) e)) Some None

  slot_same : free_slot x ≡ free_slot y
  unfolding free_slot process_at
  slot_same i = first_below 4 (λ j. not (get_or (h.processes i) j past_process).busy) Some None

  process_same : (k : ℕ) → process_at x k ≡ process_at y k
  unfolding process_at
  process_same k i = get_or (h.processes i) k past_process

-- ---- what a request comes to, of the process p in slot k of address a
module _ (s t : Net) (alike : NetButRows s t) (a : Locality) (k : ℕ) (p : Process) where
  in_same : (l : Locality) (q : Place) (f : Option ℕ) (r r' : Process) → (in_found s a k l q f r).answer ≡ (in_found t a k l q f r').answer
  unfolding in_found
  in_same l q (Some i) r r' = performed_answer _ _
  in_same l q None r r' = refused_answer _ _ _

  in_answer :
      (l : Locality) (q : Place) (f g : Option ℕ) (r r' : Process) → f ≡ g → (in_found s a k l q f r).answer ≡ (in_found t a k l q g r').answer
  in_answer l q f g r r' e = in_same l q f r r' ∙ ap (λ (i : Option ℕ). (in_found t a k l q i r').answer) e

  read_same : (q : Place) (f : Option ℕ) (r r' : Process) → (read_found s a k q f r).answer ≡ (read_found t a k q f r').answer
  unfolding read_found
  read_same q (Some i) r r' = performed_answer _ _
  read_same q None r r' = refused_answer _ _ _

  read_answer :
      (q : Place) (f g : Option ℕ) (r r' : Process) → f ≡ g → (read_found s a k q f r).answer ≡ (read_found t a k q g r').answer
  read_answer q f g r r' e = read_same q f r r' ∙ ap (λ (i : Option ℕ). (read_found t a k q i r').answer) e

  started_answer :
      (l : Locality) (copy : Process) (q : Place) (j : Option ℕ) → (started_in s a k l p copy q j).answer ≡ (started_in t a k l p copy q j).answer
  unfolding started_in
  started_answer l copy q (Some j) = performed_answer _ _
  started_answer l copy q None = refused_answer _ _ _

  -- in the lowest free slot of each
  start_answer :
      (l : Locality) (copy : Process) (q : Place)
      → (started_in s a k l p copy q (free_slot (node_at s l))).answer ≡ (started_in t a k l p copy q (free_slot (node_at t l))).answer
  start_answer l copy q =
      started_answer l copy q (free_slot (node_at s l))
      ∙ ap (λ (j : Option ℕ). (started_in t a k l p copy q j).answer) (slot_same _ _ (alike.nodes l))

  -- at an eval the target's row for the host is the same
  AdmitsAlike : Request → Type 0
  AdmitsAlike Request.Lack = Unit {0}
  AdmitsAlike Request.Stop = Unit {0}
  AdmitsAlike (Request.Out l q) = Unit {0}
  AdmitsAlike (Request.In l q) = Unit {0}
  AdmitsAlike (Request.Read l q) = Unit {0}
  AdmitsAlike (Request.Eval l sent q) = row_at (node_at s l) a ≡ row_at (node_at t l) a
  AdmitsAlike (Request.New v q) = Unit {0}
  AdmitsAlike (Request.Fork q r) = Unit {0}
  AdmitsAlike (Request.OutAll g q) = Unit {0}

  sent_row : (l : Locality) (sent : Place) → row_at (node_at s l) a ≡ row_at (node_at t l) a
      → row_for (node_at s l) (sent_from a p sent) ≡ row_for (node_at t l) (sent_from a p sent)
  unfolding row_for sent_from
  sent_row l sent e = ap (λ (row : Row). choose (ltb a.0 16) row zero_row) e

  done_answer : (e : Evaluated) (r : Request) → AdmitsAlike r → (carried_out s a k p e r).answer ≡ (carried_out t a k p e r).answer
  unfolding carried_out AdmitsAlike stopped out input read eval create fork out_all
  done_answer e Request.Lack h = refused_answer _ _ _
  done_answer e Request.Stop h = refl
  done_answer e (Request.Out l q) h =
      tested_answer _ _ _ _ _ _ (ap (λ (n : ℕ). ltb n 16) (alike.nodes l).stored) (λ _. performed_answer _ _)
      (λ _. refused_answer _ _ _)
  done_answer e (Request.In l q) h =
      in_answer l q _ _ _ _ (found_same _ _ (alike.nodes l) p e)
  done_answer e (Request.Read l q) h =
      read_answer q _ _ _ _ (found_same _ _ (alike.nodes l) p e)
  done_answer e (Request.Eval l sent q) h =
      tested_answer _ _ _ _ _ _
      (ap₂ (λ (code : List Instruction) (row : Row). keeps_of code sent l row) alike.code (sent_row l sent h))
      (λ _. start_answer l _ q) (λ _. refused_answer _ _ _)
  done_answer e (Request.New v q) h =
      tested_answer _ _ _ _ _ _ (ap (λ (n : ℕ). ltb n 16) alike.addresses) (λ _. performed_answer _ _) (λ _. refused_answer _ _ _)
  done_answer e (Request.Fork q r) h = start_answer a _ q
  done_answer e (Request.OutAll g q) h =
      tested_answer _ _ _ _ _ _ (room_same g s t (λ l _. (alike.nodes l).stored)) (λ _. performed_answer _ _)
      (λ _. refused_answer _ _ _)

  -- what is asked
  at_admits :
      (f : Locality → Request) (aim : Option Locality) → ((l : Locality) → aim ≡ Some l → AdmitsAlike (f l)) → AdmitsAlike (at aim f)
  unfolding at AdmitsAlike
  at_admits f (Some l) h = h l refl
  at_admits f None h = tt

  told_admits : (e : Evaluated) (r : Request) → AdmitsAlike r → AdmitsAlike (choose e.defined r Request.Lack)
  unfolding AdmitsAlike
  told_admits e r h = chosen AdmitsAlike e.defined _ _ (λ _. h) (λ _. tt)

  asked_admits :
      (e : Evaluated) (x : Action)
      → ((target : Target) (sent q : Place) (l : Locality) → x ≡ Action.Eval target sent q → target_of a p target ≡ Some l
      → row_at (node_at s l) a ≡ row_at (node_at t l) a)
      → AdmitsAlike (asked a p e x)
  unfolding asked spoken AdmitsAlike
  asked_admits e Action.Stop h = tt
  asked_admits e (Action.Out u q) h = told_admits e _ (at_admits _ _ (λ l _. tt))
  asked_admits e (Action.In u q) h = told_admits e _ (at_admits _ _ (λ l _. tt))
  asked_admits e (Action.Read u q) h = told_admits e _ (at_admits _ _ (λ l _. tt))
  asked_admits e (Action.Eval u sent q) h = at_admits _ _ (λ l. h u sent q l refl)
  asked_admits e (Action.New v q) h = tt
  asked_admits e (Action.Fork q r) h = tt
  asked_admits e (Action.OutAll g q) h = told_admits e _ tt

-- ---- an action that has no target in a variable
action_free : (x : Action) → ((v : ℕ) → Aims (Target.Held v) x → ⊥) → at_variable x ≡ false
unfolding at_variable in_variable
action_free Action.Stop h = refl
action_free (Action.New v q) h = refl
action_free (Action.Fork q r) h = refl
action_free (Action.OutAll g q) h = refl
action_free (Action.Out (Target.Written l) q) h = refl
action_free (Action.Out Target.Own q) h = refl
action_free (Action.Out (Target.Held v) q) h = absurd (h v out_aims)
action_free (Action.In (Target.Written l) q) h = refl
action_free (Action.In Target.Own q) h = refl
action_free (Action.In (Target.Held v) q) h = absurd (h v in_aims)
action_free (Action.Read (Target.Written l) q) h = refl
action_free (Action.Read Target.Own q) h = refl
action_free (Action.Read (Target.Held v) q) h = absurd (h v read_aims)
action_free (Action.Eval (Target.Written l) sent q) h = refl
action_free (Action.Eval Target.Own sent q) h = refl
action_free (Action.Eval (Target.Held v) sent q) h = absurd (h v eval_aims)

-- ---- a pick
module _ (s t : Net) (b : ℕ) (alike : NetButRows s t) (none : NoneHeld s t b) where
  unfoldable a : Locality
  a = host_of b

  unfoldable k : ℕ
  k = slot_of b

  unfoldable c : Instruction
  c = instruction_at s.code (named s b).at

  -- the same process at the same instruction
  met_answer :
      Meets s b c.action → (lean_process_step s a k (named s b) c).answer ≡ (lean_process_step t a k (named s b) c).answer
  unfolding a c lean_process_step lean_acting request_of
  met_answer m =
      let free : at_variable c.action ≡ false = action_free c.action (λ v. none.unheld c.action v m) in
      let admits = asked_admits s t alike a k (named s b) (evaluated_of a (named s b) c) c.action
      (λ target sent q l e. none.admitting target sent q l (subst (Meets s b) e m)) in
      ap (λ (r : Picked). r.answer) (choose_false _ _ _ free)
      ∙ done_answer s t alike a k (named s b) _ _ admits
      ∙ sym (ap (λ (r : Picked). r.answer) (choose_false _ _ _ free))

  slot_answer :
      spare_of b ≡ 0 → (host_of b).0 < s.addresses → (lean_slot_step s (host_of b) (slot_of b)).answer ≡ (lean_slot_step t (host_of b) (slot_of b)).answer
  unfolding a k c lean_slot_step named
  slot_answer formed used =
      let same : named s b ≡ named t b = process_same _ _ (alike.nodes (host_of b)) (slot_of b) in
      tested_answer _ _ _ _ _ _ (ap (λ (r : Process). r.busy) same)
      (λ busy.
      met_answer (record { formed = formed; used = used; busy = busy; acts = refl })
      ∙ ap₂ (λ (code : List Instruction) (r : Process). (lean_process_step t a k r (instruction_at code r.at)).answer) alike.code same)
      (λ _. refused_answer _ _ _)

pub lean_blind : LeanBlind
unfolding LeanBlind lean_step_of
lean_blind s t b alike none =
    chosen_answer _ _ _ _ (eqb (spare_of b) 0)
    (λ formed. tested_answer _ _ _ _ _ _ (ap (λ (n : ℕ). ltb (host_of b).0 n) alike.addresses)
    (λ used. slot_answer s t b alike none (eqb-true _ _ formed) (ltb-true _ _ used)) (λ _. refused_answer _ _ _))
    (λ _. refused_answer _ _ _)
