-- The lean step (document 02, slip 12): "Most targets are written in the code, their rights settled at admission. Add an engine that,
-- apart from admitting sent code, looks up rights only for targets held in a variable." It is the step of `Pick.antt` of `step`, whose
-- letters s, a, k and p it keeps, but for the one test of a right.
use Rattle.std.specs.Prelude.{ℕ, Bool, true, false, List, [], ◌∷◌, ◌++◌, eqb, ltb}
use Rattle.net.specs.Choice.{choose}
use Rattle.net.specs.Records.{process_at, node_at, instruction_at}
use Rattle.matching.specs.Matching.{evaluated_of}
use Rattle.sound.specs.Soundness.{sound_of}
use Rattle.plans.specs.Request.{request_of}
use Rattle.step.specs.Pick.{host_of, slot_of, spare_of, unchanged, carried_out, acting}
use Rattle.step.specs.Ran.{Ran, answered}
use Rattle.lean_step.specs.Types.{Locality, Process, Target, Action, Instruction, Net, Evaluated, Answer, Picked, Request}

-- ---- whether a target is in a variable
unfoldable pub in_variable : Target → Bool
in_variable (Target.Written l) = false
in_variable Target.Own = false
in_variable (Target.Held v) = true

-- whether an action has a target, and it is in a variable
unfoldable pub at_variable : Action → Bool
at_variable Action.Stop = false
at_variable (Action.Out t q) = in_variable t
at_variable (Action.In t q) = in_variable t
at_variable (Action.Read t q) = in_variable t
at_variable (Action.Eval t sent q) = in_variable t
at_variable (Action.New v q) = false
at_variable (Action.Fork q r) = false
at_variable (Action.OutAll g q) = false

-- ---- the step: the host's row is looked at for an action at a variable and for no other. An eval still judges the code that it
-- sends by the target's row (`eval` of `Pick.antt`)
unfoldable pub lean_acting : Net → Locality → ℕ → Process → Evaluated → Action → Request → Picked
lean_acting s a k p e x r = choose (at_variable x) (acting s a k p e r) (carried_out s a k p e r)

unfoldable pub lean_process_step : Net → Locality → ℕ → Process → Instruction → Picked
lean_process_step s a k p c = lean_acting s a k p (evaluated_of a p c) c.action (request_of a p c)

unfoldable pub lean_slot_step : Net → Locality → ℕ → Picked
lean_slot_step s a k =
    choose (process_at (node_at s a) k).busy
    (lean_process_step s a k (process_at (node_at s a) k) (instruction_at s.code (process_at (node_at s a) k).at))
    (unchanged Answer.FreeSlot s)

unfoldable pub lean_step_of : Net → ℕ → Picked
lean_step_of s b =
    choose (eqb (spare_of b) 0)
    (choose (ltb (host_of b).0 s.addresses) (lean_slot_step s (host_of b) (slot_of b)) (unchanged Answer.NotInUse s))
    (unchanged Answer.Malformed s)

-- a pick: 10 first
unfoldable pub lean_pick_of : Net → ℕ → Picked
lean_pick_of s b = choose (sound_of s) (lean_step_of s b) (unchanged Answer.Unsound s)

-- ---- a call: its picks one after another, each on the net that the last one left
unfoldable pub lean_ran_from : Net → List ℕ → Ran
lean_ran_from s [] = record { answers = []; net = s }
lean_ran_from s (b ∷ bs) = answered (lean_pick_of s b).answer (lean_ran_from (lean_pick_of s b).net bs)

-- several calls, each on the net that the last one left: all answers in order, and the last net
unfoldable pub followed : Ran → Ran → Ran
followed r q = record { answers = r.answers ++ q.answers; net = q.net }

unfoldable pub lean_calls_from : Net → List (List ℕ) → Ran
lean_calls_from s [] = record { answers = []; net = s }
lean_calls_from s (picks ∷ rest) = followed (lean_ran_from s picks) (lean_calls_from (lean_ran_from s picks).net rest)
