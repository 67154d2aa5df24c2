-- The claim `SettledIsLean` of `specs/Settled.antt`: where a process keeps within its row, the right of an action whose target is in
-- no variable is held, so that the lean step is the step. Assumes nothing.
use Prim.Native.Nat.{ℕ}
use mathlib.Core.Path.{◌≡◌, refl, sym, ap, ◌∙◌}
use mathlib.Core.Bool.{Bool, true, false}
use lib.Dec.{eqb, ltb}
use Rattle.net.specs.Choice.{choose}
use Rattle.net.specs.Records.{node_at, process_at, instruction_at, row_for}
use Rattle.net.proofs.Laws.{choose_true}
use Rattle.net.proofs.Every.{chosen}
use Rattle.net.proofs.ReadingLaws.{never}
use Rattle.keeping.specs.Reaching.{itself}
use Rattle.keeping.specs.Keeping.{may_put_all, at_target, permits}
use Rattle.plans.specs.Request.{target_of, at, spoken, asked, request_of, granted}
use Rattle.step.specs.Pick.{host_of, slot_of, spare_of, unchanged, acting, process_step, slot_step, step_of, pick_of}
use Rattle.lean_step.specs.Types.{Locality, Row, Process, Target, Action, Net, Evaluated, Answer, Request, Picked}
use Rattle.lean_step.specs.LeanStep.{in_variable, at_variable, lean_acting, lean_process_step, lean_slot_step, lean_step_of, lean_pick_of}
use Rattle.lean_step.specs.Settled.{Settled, SettledStays, SettledIsLean}
use Rattle.lean_step.proofs.Within.{Within}
use Rattle.lean_step.proofs.Settled.{settled_within, settled_stays}

-- ---- the right of an action that is permitted, and whose target is in no variable
module _ (row : Row) (a : Locality) (p : Process) (e : Evaluated) where
  at_granted :
      (t : Target) (may : Locality → Bool) (f : Locality → Request) → ((l : Locality) → granted row (f l) ≡ may l)
      → in_variable t ≡ false → at_target t a may ≡ true → granted row (at (target_of a p t) f) ≡ true
  unfolding in_variable at_target target_of at
  at_granted (Target.Written l) may f g v h = g l ∙ h
  at_granted Target.Own may f g v h = g a ∙ h
  at_granted (Target.Held w) may f g v h = never (sym v)

  spoken_granted :
      (t : Target) (may : Locality → Bool) (f : Locality → Request) → ((l : Locality) → granted row (f l) ≡ may l)
      → in_variable t ≡ false → at_target t a may ≡ true → granted row (spoken e (target_of a p t) f) ≡ true
  unfolding spoken granted
  spoken_granted t may f g v h =
      chosen (λ r. granted row r ≡ true) e.defined _ _ (λ _. at_granted t may f g v h) (λ _. refl)

  -- the fact by which the lean step is the step
  right_settled : (x : Action) → at_variable x ≡ false → permits row a x ≡ true → granted row (asked a p e x) ≡ true
  unfolding at_variable permits asked granted may_put_all
  right_settled Action.Stop v h = refl
  right_settled (Action.Out t q) v h = spoken_granted t _ _ (λ l. refl) v h
  right_settled (Action.In t q) v h = spoken_granted t _ _ (λ l. refl) v h
  right_settled (Action.Read t q) v h = spoken_granted t _ _ (λ l. refl) v h
  right_settled (Action.Eval t sent q) v h = at_granted t _ _ (λ l. refl) v h
  right_settled (Action.New u q) v h = h
  right_settled (Action.Fork q r) v h = refl
  right_settled (Action.OutAll g q) v h = chosen (λ r. granted row r ≡ true) e.defined _ _ (λ _. h) (λ _. refl)

-- ---- the step
chosen_same : (b : Bool) (x y z : Picked) → (b ≡ true → x ≡ y) → choose b x z ≡ choose b y z
unfolding choose
chosen_same true x y z f = f refl
chosen_same false x y z f = refl

module _ (s : Net) (w : Within s) (a : Locality) (k : ℕ) where
  unfoldable p : Process
  p = process_at (node_at s a) k

  process_same : p.busy ≡ true → lean_process_step s a k p (instruction_at s.code p.at) ≡ process_step s a k p (instruction_at s.code p.at)
  unfolding p lean_process_step lean_acting process_step acting request_of
  process_same busy =
      let x : Action = (instruction_at s.code p.at).action in
      let permitted = ((w.at_each a).each k).permitted busy p.at itself in
      chosen (λ r. r ≡ process_step s a k p (instruction_at s.code p.at)) (at_variable x) _ _ (λ _. refl)
      (λ v. sym (choose_true _ _ _ (right_settled (row_for (node_at s a) p) a p _ x v permitted)))

  slot_same : lean_slot_step s a k ≡ slot_step s a k
  unfolding lean_slot_step slot_step p
  slot_same = chosen_same p.busy _ _ _ process_same

pub step_same : (s : Net) (b : ℕ) → Within s → lean_step_of s b ≡ step_of s b
unfolding lean_step_of step_of
step_same s b w =
    ap
    (λ (r : Picked). choose (eqb (spare_of b) 0)
    (choose (ltb (host_of b).0 s.addresses) r (unchanged Answer.NotInUse s))
    (unchanged Answer.Malformed s))
    (slot_same s w (host_of b) (slot_of b))

-- ---- the pick, of a settled net
module _ (s : Net) (b : ℕ) (z : Settled s) where
  -- it is sound, so that the test changes nothing
  pub lean_step : lean_pick_of s b ≡ lean_step_of s b
  unfolding lean_pick_of
  lean_step = choose_true _ _ _ z.sound

  pub settled_step : lean_step_of s b ≡ pick_of s b
  unfolding pick_of
  settled_step = step_same s b (settled_within s z) ∙ sym (choose_true _ _ _ z.sound)

  pub step_settled : Settled (lean_step_of s b).net
  unfolding SettledStays
  step_settled = rw settled_step (settled_stays s b z)

pub settled_is_lean : SettledIsLean
unfolding SettledIsLean
settled_is_lean s b z = lean_step s b z ∙ settled_step s b z
