-- A sound net as facts about its counts and about each node and instruction: drawn from the test of soundness and the
-- lengths of the arrays (`sound_apart`), and giving both again (`net_sound`, `net_shaped`).
-- Assumes nothing.
use Prim.Native.Nat.{ℕ, ◌≤◌}
use mathlib.Core.Path.{◌≡◌, refl}
use mathlib.Core.Bool.{true}
use Rattle.net.specs.Choice.{both, in_range}
use Rattle.net.specs.Records.{zero_node, zero_instruction, node_at, instruction_at, address_of, place_of}
use Rattle.net.specs.Shape.{ShapedNode, ShapedInstruction, Shaped}
use Rattle.sound.specs.Types.{Net}
use Rattle.sound.specs.Soundness.{node_sound, is_zero_node, instruction_sound, is_zero_instruction}
use Rattle.sound.specs.Soundness.{nodes_sound, code_sound, sound_of}
use Rattle.net.proofs.Laws.{both_i, both_l, both_r, in_range_law, in_range_low, in_range_high}
use Rattle.net.proofs.Every.{Every, Filled, filled_each, filled_all, all_filled}
use Rattle.net.proofs.Past.{past_node, past_instruction}
use Rattle.sound.proofs.ZeroClaims.{zero_is_zero, node_passes, instruction_passes}
use Rattle.sound.proofs.NodeFacts.{of_zero, NodeOk, node_apart, node_sound_law, node_shaped}
use Rattle.sound.proofs.NodeChanges.{zero_node_shaped}
use Rattle.sound.proofs.CodeFacts.{InstructionOk, instruction_apart, instruction_sound_law, instruction_shaped}

-- of format f, with n addresses and k places of code
pub record NetWith (f n k : ℕ) (s : Net) : Type 0 where
  pub format_least : 1 ≤ f
  pub format_most : f ≤ 2
  pub addresses_least : 1 ≤ n
  pub addresses_most : n ≤ 16
  pub length_least : 1 ≤ k
  pub length_most : k ≤ 512
  pub nodes_ok : Every (Filled (NodeOk f n k) (λ x. x ≡ zero_node) n) past_node 16 s.nodes
  pub code_ok : Every (Filled (InstructionOk f n k) (λ c. c ≡ zero_instruction) k) past_instruction 512 s.code

abbrev pub NetOk : Net → Type 0
NetOk s = NetWith s.format s.addresses s.length s

pub sound_apart : (s : Net) → Shaped s → sound_of s ≡ true → NetOk s
unfolding sound_of nodes_sound code_sound node_at instruction_at
sound_apart s shape h =
    let n : ℕ = s.addresses in
    let k : ℕ = s.length in
    let f : ℕ = s.format in
    let rest = both_r (in_range 1 f 2) _ h in
    let counts = both_l (both (in_range 1 n 16) (in_range 1 k 512)) _ rest in
    let records = both_r (both (in_range 1 n 16) (in_range 1 k 512)) _ rest in
    record {
      format_least = in_range_low 1 f 2 (both_l _ _ h);
      format_most = in_range_high 1 f 2 (both_l _ _ h);
      addresses_least = in_range_low 1 n 16 (both_l _ _ counts);
      addresses_most = in_range_high 1 n 16 (both_l _ _ counts);
      length_least = in_range_low 1 k 512 (both_r (in_range 1 n 16) _ counts);
      length_most = in_range_high 1 k 512 (both_r (in_range 1 n 16) _ counts);
      nodes_ok =
          all_filled (node_sound f n k) is_zero_node shape.nodes_are (both_l _ _ records)
          (λ a l. node_apart f n k _ (shape.each_node (address_of a) l))
          (λ a l. (zero_is_zero.node _ (shape.each_node (address_of a) l)).0);
      code_ok =
          all_filled (instruction_sound f n k) is_zero_instruction shape.code_is (both_r (nodes_sound s) _ records)
          (λ p l. instruction_apart f n k _ (shape.each_instruction (place_of p) l))
          (λ p l. (zero_is_zero.instruction _ (shape.each_instruction (place_of p) l)).0);
    }

zero_instruction_shaped : ShapedInstruction zero_instruction
unfolding zero_instruction
zero_instruction_shaped = record { template_is = refl }

pub net_sound : (s : Net) → NetOk s → sound_of s ≡ true
unfolding sound_of nodes_sound code_sound node_at instruction_at
net_sound s ok =
    let n : ℕ = s.addresses in
    let k : ℕ = s.length in
    let f : ℕ = s.format in
    both_i _ _ (in_range_law 1 f 2 ok.format_least ok.format_most)
    (both_i _ _
    (both_i _ _ (in_range_law 1 n 16 ok.addresses_least ok.addresses_most)
    (in_range_law 1 k 512 ok.length_least ok.length_most))
    (both_i _ _
    (filled_all (node_sound f n k) is_zero_node ok.nodes_ok (node_sound_law f n k) (of_zero (λ x. is_zero_node x ≡ true) node_passes))
    (filled_all (instruction_sound f n k) is_zero_instruction ok.code_ok (instruction_sound_law f n k)
    (of_zero (λ c. is_zero_instruction c ≡ true) instruction_passes))))

pub net_shaped : (f n k : ℕ) (s : Net) → NetWith f n k s → Shaped s
unfolding node_at instruction_at
net_shaped f n k s ok = record {
  nodes_are = ok.nodes_ok.size_is;
  code_is = ok.code_ok.size_is;
  each_node = λ a. filled_each ok.nodes_ok (node_shaped f n k) (of_zero ShapedNode zero_node_shaped) a.0;
  each_instruction = λ p.
      filled_each ok.code_ok (instruction_shaped f n k) (of_zero ShapedInstruction zero_instruction_shaped) p.0;
}
