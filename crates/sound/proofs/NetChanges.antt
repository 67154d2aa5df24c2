-- What keeps a net sound (`NetFacts.antt`): a node or an instruction set anew, of a net that begins as the empty net.
-- Assumes nothing.
use Prim.Native.Nat.{ℕ, ◌<◌, ◌≤◌}
use mathlib.Core.Path.{refl}
use native.Mathlib.Omega.{arith}
use Rattle.net.specs.Records.{zero_node, zero_instruction, empty_net, node_at, instruction_at, with_action}
use Rattle.net.specs.Records.{with_node, with_instruction, with_counts, with_format}
use Rattle.net.specs.Shape.{Shaped}
use Rattle.net.specs.declared.locality.Locality.{Locality}
use Rattle.net.specs.declared.locality.Place.{Place}
use Rattle.sound.specs.Types.{Node, Instruction, Net}
use Rattle.net.proofs.Every.{every_replicate, filled_set}
use Rattle.net.proofs.Past.{past_node, past_instruction}
use Rattle.sound.proofs.NodeFacts.{NodeOk}
use Rattle.sound.proofs.NodeChanges.{zero_node_law}
use Rattle.sound.proofs.CodeFacts.{Acts, InstructionOk}
use Rattle.sound.proofs.NetFacts.{NetWith, net_shaped}

pub zero_instruction_law : (f n k : ℕ) → InstructionOk f n k zero_instruction
unfolding Acts zero_instruction with_action
zero_instruction_law f n k = refl

-- the records of the empty net, whatever the format and the counts that stand before them
pub empty_net_law :
    (g m j f n k : ℕ) → 1 ≤ f → f ≤ 2 → 1 ≤ n → n ≤ 16 → 1 ≤ k → k ≤ 512
    → NetWith f n k (with_counts (with_format empty_net g) m j)
unfolding with_counts with_format empty_net
empty_net_law g m j f n k f₁ f₂ n₁ n₂ k₁ k₂ = record {
  format_least = f₁;
  format_most = f₂;
  addresses_least = n₁;
  addresses_most = n₂;
  length_least = k₁;
  length_most = k₂;
  nodes_ok = every_replicate _ past_node 16 zero_node (λ a _. record { used = λ _. zero_node_law f n k; unused = λ _. refl });
  code_ok =
      every_replicate _ past_instruction 512 zero_instruction
      (λ p _. record { used = λ _. zero_instruction_law f n k; unused = λ _. refl });
}

pub empty_shaped : Shaped empty_net
unfolding with_counts with_format empty_net
empty_shaped =
    net_shaped 1 1 1 _
    (empty_net_law 0 0 0 1 1 1 (omega arith) (omega arith) (omega arith) (omega arith) (omega arith) (omega arith))

module _ {f n k : ℕ} (s : Net) (ok : NetWith f n k s) where
  pub node_at_law : (a : Locality) → a.0 < n → NodeOk f n k (node_at s a)
  unfolding node_at
  node_at_law a h = (ok.nodes_ok.holds a.0 (omega (arith, ok.addresses_most))).used h

  pub instruction_at_law : (p : Place) → p.0 < k → InstructionOk f n k (instruction_at s.code p)
  unfolding instruction_at
  instruction_at_law p h = (ok.code_ok.holds p.0 (omega (arith, ok.length_most))).used h

  pub with_node_law : (a : Locality) (x : Node) → a.0 < n → NodeOk f n k x → NetWith f n k (with_node s a x)
  unfolding with_node
  with_node_law a x h g = record {
    format_least = ok.format_least;
    format_most = ok.format_most;
    addresses_least = ok.addresses_least;
    addresses_most = ok.addresses_most;
    length_least = ok.length_least;
    length_most = ok.length_most;
    nodes_ok = filled_set a.0 x h g ok.nodes_ok;
    code_ok = ok.code_ok;
  }

  pub with_instruction_law :
      (p : Place) (c : Instruction) → p.0 < k → InstructionOk f n k c → NetWith f n k (with_instruction s p c)
  unfolding with_instruction
  with_instruction_law p c h g = record {
    format_least = ok.format_least;
    format_most = ok.format_most;
    addresses_least = ok.addresses_least;
    addresses_most = ok.addresses_most;
    length_least = ok.length_least;
    length_most = ok.length_most;
    nodes_ok = ok.nodes_ok;
    code_ok = filled_set p.0 c h g ok.code_ok;
  }
