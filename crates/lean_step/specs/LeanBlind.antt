-- What is claimed of the lean step by itself (document 02, slip 12).
use Rattle.std.specs.Prelude.{ℕ, ◌<◌, ◌≡◌, true, Some}
use Rattle.net.specs.Records.{process_at, node_at, row_at, instruction_at}
use Rattle.plans.specs.Request.{target_of}
use Rattle.step.specs.Pick.{host_of, slot_of, spare_of}
use Rattle.lean_step.specs.Types.{Locality, Place, Process, Node, Target, Action, Net}
use Rattle.lean_step.specs.LeanStep.{lean_step_of}

-- ---- "Prove too that where no target is in a variable, its step's answer is the same whatever rows the net holds, save the target's
-- at an eval"

-- two nodes, and two nets, that differ in rows alone
pub record NodeButRows (x y : Node) : Type 0 where
  pub processes : x.processes ≡ y.processes
  pub stored : x.stored ≡ y.stored
  pub tuples : x.tuples ≡ y.tuples

pub record NetButRows (s t : Net) : Type 0 where
  pub format : s.format ≡ t.format
  pub addresses : s.addresses ≡ t.addresses
  pub length : s.length ≡ t.length
  pub code : s.code ≡ t.code
  pub nodes : (a : Locality) → NodeButRows (node_at s a) (node_at t a)

-- the process that a pick names
unfoldable pub named : Net → ℕ → Process
named s b = process_at (node_at s (host_of b)) (slot_of b)

-- the pick meets an instruction with this action: 9, 8 and 7 are absent
pub record Meets (s : Net) (b : ℕ) (x : Action) : Type 0 where
  pub formed : spare_of b ≡ 0
  pub used : (host_of b).0 < s.addresses
  pub busy : (named s b).busy ≡ true
  pub acts : (instruction_at s.code (named s b).at).action ≡ x

-- the action has the target t
pub data Aims (t : Target) : Action → Type 0 where
  out_aims : {q : Place} → Aims t (Action.Out t q)
  in_aims : {q : Place} → Aims t (Action.In t q)
  read_aims : {q : Place} → Aims t (Action.Read t q)
  eval_aims : {sent q : Place} → Aims t (Action.Eval t sent q)

-- the pick meets no target in a variable, and where it meets an eval, the target's row by which the code that it sends is judged, the
-- one for the host, is the same in both nets
pub record NoneHeld (s t : Net) (b : ℕ) : Type 0 where
  pub unheld : (x : Action) (v : ℕ) → Meets s b x → Aims (Target.Held v) x → ⊥
  pub admitting :
      (target : Target) (sent q : Place) (l : Locality)
      → Meets s b (Action.Eval target sent q)
      → target_of (host_of b) (named s b) target ≡ Some l
      → row_at (node_at s l) (host_of b) ≡ row_at (node_at t l) (host_of b)

-- the claim: of any two such nets, sound or not, whatever their rows, and any pick, a byte or not
unfoldable pub LeanBlind : Type 0
LeanBlind =
    (s t : Net) (b : ℕ) → NetButRows s t → NoneHeld s t b → (lean_step_of s b).answer ≡ (lean_step_of t b).answer
