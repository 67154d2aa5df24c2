-- What soundness says of words that stand for a net, and of the process that a pick meets. Assumes nothing.
use Prim.Native.Nat.{ℕ, ◌<◌, ◌≤◌, ◌%◌}
use mathlib.Core.Path.{◌≡◌, refl, sym, ap, subst, ◌∙◌}
use mathlib.Core.Bool.{true}
use mathlib.Core.List.{List}
use native.Mathlib.Omega.{arith}
use lib.ListN.{length, get_or}
use borrow.Author.Tests.{le-ltb}
use Rattle.net.specs.Records.{address_of, node_at, process_at, instruction_at, free_process}
use Rattle.net.proofs.Laws.{choose_false}
use Rattle.sound.proofs.NodeFacts.{Running, NodeOk}
use Rattle.sound.proofs.CodeFacts.{InstructionOk}
use Rattle.sound.proofs.NetFacts.{NetOk, sound_apart}
use Rattle.sound.proofs.NetChanges.{node_at_law, instruction_at_law}
use Rattle.lean_words.specs.Processes.{process_in, busy_in}
use Rattle.lean_code.specs.Ranged.{RangedTemplate}
use Rattle.lean_code.proofs.Rewritten.{busy_in_law}
use Rattle.lean.specs.Types.{Process, Instruction, Net}
use Rattle.lean.specs.Words.{Words, slot_at, net_in}
use Rattle.lean.specs.Rounds.{Tables}
use Rattle.lean.specs.Standing.{Stands, Tabled, Seated}
use Rattle.lean.proofs.Frame.{start_nodes, process_at_law, slot_in}

module _ (start : Net) (w : Words) (stands : Stands start w) where
  pub net_ok : NetOk (net_in start w)
  net_ok = sound_apart (net_in start w) stands.shaped stands.sound

  pub nodes_are : length start.nodes ≡ 16
  nodes_are = start_nodes start w stands.shaped

  pub host_below : (a : ℕ) → a < w.count → a < 16
  unfolding net_in
  host_below a h = omega (arith, net_ok.addresses_most)

  pub code_below : start.length ≤ 512
  unfolding net_in
  code_below = net_ok.length_most

-- ---- the words of a slot: free, or a process
pub free_in : (ws : List ℕ) → 512 ≤ get_or ws 8 0 → process_in ws ≡ free_process
unfolding process_in
free_in ws h = choose_false _ _ _ (le-ltb _ _ h)

-- ---- a seat
module _ (start : Net) (w : Words) (a k : ℕ) (ws : List ℕ) (p : Process) (c : Instruction) (seat : Seated start w a k ws p c) where
  pub seat_host : a < 16
  seat_host = host_below start w seat.stands a seat.used

  pub seat_busy : p.busy ≡ true
  unfolding busy_in
  seat_busy = ap (λ (q : Process). q.busy) (sym seat.decoded ∙ busy_in_law ws seat.busy)

  pub seat_node : NodeOk start.format w.count start.length (node_at (net_in start w) (address_of a))
  unfolding net_in
  seat_node = node_at_law (net_in start w) (net_ok start w seat.stands) (address_of a) seat.used

  pub seat_running : Running w.count start.length p
  unfolding process_at
  seat_running =
      subst (Running w.count start.length) seat.process_is
      ((seat_node.processes_ok.holds k seat.slot).running (ap (λ (q : Process). q.busy) seat.process_is ∙ seat_busy))

  -- its place
  pub seat_place : p.at.0 ≡ get_or ws 8 0
  unfolding busy_in
  seat_place =
      ap (λ (q : Process). q.at.0) (sym seat.decoded ∙ busy_in_law ws seat.busy)
      ∙ (let l = seat.busy in let e : get_or ws 8 0 % 512 ≡ get_or ws 8 0 = omega arith in e)

  pub seat_instruction : InstructionOk start.format w.count start.length c
  unfolding net_in
  seat_instruction =
      subst (InstructionOk start.format w.count start.length) seat.instruction_is
      (instruction_at_law (net_in start w) (net_ok start w seat.stands) p.at seat_running.place)

-- ---- the seat of a busy slot
pub seated :
    (start : Net) (tb : Tables) (w : Words) (a k : ℕ) → Stands start w → Tabled start tb → a < w.count → k < 4
    → get_or (slot_at w.slots a k) 8 0 < 512
    → Seated start w a k (slot_at w.slots a k) (process_in (slot_at w.slots a k))
    (instruction_at start.code (process_in (slot_at w.slots a k)).at)
unfolding net_in process_at busy_in
seated start tb w a k stands tabled used slot busy =
    let ws = slot_at w.slots a k in
    let size = nodes_are start w stands in
    let host = host_below start w stands a used in
    let here : process_at (node_at (net_in start w) (address_of a)) k ≡ process_in ws =
    process_at_law start size w a host k slot ∙ ap process_in (sym (slot_in w.slots a k host slot)) in
    let is_busy : (process_at (node_at (net_in start w) (address_of a)) k).busy ≡ true =
    ap (λ (q : Process). q.busy) (here ∙ busy_in_law ws busy) in
    let ok = node_at_law (net_in start w) (net_ok start w stands) (address_of a) used in
    let running = (ok.processes_ok.holds k slot).running is_busy in
    record {
      stands = stands;
      used = used;
      slot = slot;
      words_are = refl;
      busy = busy;
      process_is = here;
      decoded = refl;
      instruction_is = refl;
      readings_are =
          subst (λ (q : Process). RangedTemplate (instruction_at start.code q.at)) here
          (tabled.readings_are _ running.place);
    }
