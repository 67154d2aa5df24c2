-- Demand 1 of document 00, the parts of it that speak of picks: no action is carried out whose right the hosting node's
-- policy lacks, and no pick answered with a number above 1 changes the net. The right of an action is stated from
-- outside, action by action, and not by the test that the machine makes.
use Rattle.std.specs.Prelude.{ℕ, ◌<◌, ◌≡◌, true, Some}
use Rattle.net.specs.Records.{process_at, node_at, instruction_at, row_for}
use Rattle.net.specs.declared.locality.Group.{Group}
use Rattle.net.specs.Groups.{member}
use Rattle.keeping.specs.Keeping.{may_take, may_read, may_put, may_send, may_create}
use Rattle.plans.specs.Answer.{number_of}
use Rattle.plans.specs.Request.{target_of}
use Rattle.step.specs.Pick.{host_of, slot_of, pick_of}
use Rattle.rules.specs.Types.{Locality, Place, Row, Process, Target, Action, Net}

-- the row holds the right of an action of the process p hosted at a: at the address that its target points to o for an
-- out, i for an in, r or i for a read and e for an eval, o at each member of an out's set, and n for a new. A fork needs none, and a stop is no action.
pub data Held (row : Row) (a : Locality) (p : Process) : Action → Type 0 where
  out_held :
      {t : Target} {q : Place} {l : Locality}
      → target_of a p t ≡ Some l
      → may_put row l ≡ true
      → Held row a p (Action.Out t q)
  in_held :
      {t : Target} {q : Place} {l : Locality}
      → target_of a p t ≡ Some l
      → may_take row l ≡ true
      → Held row a p (Action.In t q)
  read_held :
      {t : Target} {q : Place} {l : Locality}
      → target_of a p t ≡ Some l
      → may_read row l ≡ true
      → Held row a p (Action.Read t q)
  eval_held :
      {t : Target} {sent q : Place} {l : Locality}
      → target_of a p t ≡ Some l
      → may_send row l ≡ true
      → Held row a p (Action.Eval t sent q)
  new_held : {v : ℕ} {q : Place} → may_create row ≡ true → Held row a p (Action.New v q)
  fork_held : {q r : Place} → Held row a p (Action.Fork q r)
  out_all_held :
      {g : Group} {q : Place}
      → ((l : Locality) → member g l ≡ true → may_put row l ≡ true)
      → Held row a p (Action.OutAll g q)

-- the process that a pick names, and the action at its place
unfoldable pub picked_process : Net → ℕ → Process
picked_process s b = process_at (node_at s (host_of b)) (slot_of b)

unfoldable pub picked_action : Net → ℕ → Action
picked_action s b = (instruction_at s.code (picked_process s b).at).action

-- demand 1, "No action is carried out whose right the hosting node's policy lacks": where the step is performed, the
-- hosting node's row for the origin of the process, as it stood before, held the right
unfoldable pub OnlyWithRight : Type 0
OnlyWithRight =
    (s : Net) (b : ℕ)
    → number_of (pick_of s b).answer ≡ 0
    → Held (row_for (node_at s (host_of b)) (picked_process s b)) (host_of b) (picked_process s b) (picked_action s b)

-- demand 1, "no pick answered with a number above 1 changes the net"
unfoldable pub RefusedChangesNothing : Type 0
RefusedChangesNothing = (s : Net) (b : ℕ) → 1 < number_of (pick_of s b).answer → (pick_of s b).net ≡ s
