-- A lean step keeps every sound net sound, whatever its rows: what a request does to a sound net (`done_kept` of `step`) asks for no
-- right. Assumes nothing.
use Prim.Native.Nat.{ℕ, ◌<◌}
use mathlib.Core.Path.{◌≡◌}
use mathlib.Core.Bool.{true}
use Rattle.net.specs.Records.{process_at}
use Rattle.net.specs.Shape.{Shaped}
use Rattle.net.proofs.Every.{chosen, chosen_lt}
use Rattle.sound.specs.Soundness.{sound_of}
use Rattle.sound.proofs.NodeFacts.{Running}
use Rattle.sound.proofs.CodeFacts.{InstructionOk}
use Rattle.sound.proofs.NetFacts.{NetOk, sound_apart, net_sound, net_shaped}
use Rattle.sound.proofs.NetChanges.{node_at_law, instruction_at_law}
use Rattle.step.specs.Pick.{host_of, slot_of, acting}
use Rattle.step.proofs.SoundRequests.{request_ok}
use Rattle.step.proofs.SoundKept.{Kept, same_kept, done_kept, slot_below}
use Rattle.lean_step.specs.Types.{Locality, Process, Instruction, Net}
use Rattle.lean_step.specs.LeanStep.{lean_acting, lean_process_step, lean_slot_step, lean_step_of}

acting_kept :
    (s : Net) → NetOk s → (a : Locality) (k : ℕ) (p : Process) (c : Instruction) → a.0 < s.addresses
    → Running s.addresses s.length p → InstructionOk s.format s.addresses s.length c
    → Kept (lean_process_step s a k p c)
unfolding lean_process_step lean_acting acting
acting_kept s ok a k p c hosted running h =
    let kept = done_kept s ok a k hosted p running _ _ (request_ok s.format s.addresses s.length a p c hosted running h) in
    chosen Kept _ _ _ (λ _. chosen Kept _ _ _ (λ _. kept) (λ _. same_kept s _ ok)) (λ _. kept)

step_kept : (s : Net) (b : ℕ) → NetOk s → Kept (lean_step_of s b)
unfolding lean_step_of lean_slot_step process_at
step_kept s b ok =
    chosen Kept _ _ _
    (λ _. chosen_lt Kept (host_of b).0 s.addresses _ _
    (λ hosted. chosen Kept _ _ _
    (λ busy.
    let Node-Ok = node_at_law s ok (host_of b) hosted in
    let running = (Node-Ok.processes_ok.holds (slot_of b) (slot_below b)).running busy in
    acting_kept s ok (host_of b) (slot_of b) _ _ hosted running (instruction_at_law s ok _ running.place))
    (λ _. same_kept s _ ok)) (λ _. same_kept s _ ok)) (λ _. same_kept s _ ok)

pub lean_sound_kept :
    (s : Net) (b : ℕ) → Shaped s → sound_of s ≡ true
    → (sound_of (lean_step_of s b).net ≡ true) × Shaped (lean_step_of s b).net
lean_sound_kept s b shaped sound =
    let ok = (step_kept s b (sound_apart s shaped sound)).net_ok in
    (net_sound _ ok, net_shaped _ _ _ _ ok)
