-- The counts of a sound net are within its arrays (`specs/Counts.antt`). Assumes nothing.
use Rattle.std.proofs.Common.{length, take, get_or, sym, subst}
use Prim.Native.Nat.{ℕ, ◌<◌, ◌≤◌}
use mathlib.Core.Path.{◌≡◌}
use mathlib.Core.Bool.{true}
use native.Mathlib.Omega.{arith}
use Rattle.net.specs.Records.{zero_tuple, zero_instruction, tuple_at, node_at, instruction_at, address_of, place_of, with_action}
use Rattle.net.specs.Shape.{Shaped}
use Rattle.sound.specs.Soundness.{sound_of}
use Rattle.layout.specs.Types.{Tuple, Node, Instruction, Net}
use Rattle.layout.specs.Counts.{NodeCounts, Counts}
use Rattle.net.proofs.Every.{filled_each}
use Rattle.sound.proofs.NodeFacts.{of_zero, NodeOk}
use Rattle.sound.proofs.NodeChanges.{zero_node_law}
use Rattle.sound.proofs.CodeFacts.{InstructionOk, instruction_each}
use Rattle.sound.proofs.NetFacts.{sound_apart}
use Rattle.sound.proofs.NetChanges.{zero_instruction_law}
use Rattle.layout.proofs.PartLaws.{inside, taken}

few_none : zero_tuple.count ≤ 4
unfolding zero_tuple
few_none = omega arith

node_few : (f n k : ℕ) (x : Node) → NodeOk f n k x → NodeCounts x
unfolding tuple_at
node_few f n k x ok = record {
  stored_few = ok.room;
  fields_few =
      filled_each {Q = λ (t : Tuple). t.count ≤ 4} ok.tuples_ok (λ t g. g.most)
      (of_zero (λ (t : Tuple). t.count ≤ 4) few_none);
}

instruction_few : (f n k : ℕ) (c : Instruction) → InstructionOk f n k c → c.count ≤ 4
unfolding with_action zero_instruction
instruction_few f n k c =
    instruction_each f n k c (λ (b : Instruction). b.count ≤ 4) (λ ok. ok.most) (λ a. omega arith)

pub counts_of : (s : Net) → Shaped s → sound_of s ≡ true → Counts s
unfolding node_at instruction_at
counts_of s shape h =
    let f : ℕ = s.format in
    let n : ℕ = s.addresses in
    let k : ℕ = s.length in
    let ok = sound_apart s shape h in
    record {
      addresses_few = ok.addresses_most;
      length_few = ok.length_most;
      nodes_few = λ a.
          filled_each {Q = NodeCounts} ok.nodes_ok (node_few f n k)
          (of_zero NodeCounts (node_few f n k _ (zero_node_law f n k))) a.0;
      code_few = λ p.
          filled_each {Q = λ (c : Instruction). c.count ≤ 4} ok.code_ok (instruction_few f n k)
          (of_zero (λ (c : Instruction). c.count ≤ 4) (instruction_few f n k _ (zero_instruction_law f n k))) p.0;
    }

-- ---- the elements that the code writes: the first ones of an array
pub first_node :
    (s : Net) (i : ℕ) (e : Node) → Counts s → i < length (take s.addresses s.nodes)
    → NodeCounts (get_or (take s.addresses s.nodes) i e)
unfolding node_at
first_node s i e h l =
    let few : NodeCounts (node_at s (address_of i)) = h.nodes_few (address_of i) (omega (arith, h.addresses_few, inside s.nodes i s.addresses l)) in
    subst NodeCounts (sym (taken s.nodes i s.addresses l e _)) few

pub first_code :
    (s : Net) (i : ℕ) (e : Instruction) → Counts s → i < length (take s.length s.code)
    → (get_or (take s.length s.code) i e).count ≤ 4
unfolding instruction_at
first_code s i e h l =
    let few : (instruction_at s.code (place_of i)).count ≤ 4 = h.code_few (place_of i) (omega (arith, h.length_few, inside s.code i s.length l)) in
    subst (λ (c : Instruction). c.count ≤ 4) (sym (taken s.code i s.length l e _)) few

pub first_fields :
    (x : Node) (i : ℕ) (e : Tuple) → NodeCounts x → i < length (take x.stored x.tuples)
    → (get_or (take x.stored x.tuples) i e).count ≤ 4
unfolding tuple_at
first_fields x i e h l =
    let few : (tuple_at x i).count ≤ 4 = h.fields_few i (omega (arith, h.stored_few, inside x.tuples i x.stored l)) in
    subst (λ (t : Tuple). t.count ≤ 4) (sym (taken x.tuples i x.stored l e _)) few

-- ---- as the code uses them
pub few_node : (s : Net) (a n : ℕ) → Counts s → a < n → n ≤ 16 → NodeCounts (node_at s (address_of a))
few_node s a n h l g = h.nodes_few (address_of a) (omega arith)

pub few_code : (s : Net) (p n : ℕ) → Counts s → p < n → n ≤ 512 → (instruction_at s.code (place_of p)).count ≤ 4
few_code s p n h l g = h.code_few (place_of p) (omega arith)

pub few_fields : (x : Node) (i n : ℕ) → NodeCounts x → i < n → n ≤ 16 → (tuple_at x i).count ≤ 4
few_fields x i n h l g = h.fields_few i (omega arith)
