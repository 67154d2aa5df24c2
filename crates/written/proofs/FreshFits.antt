-- The test of fit (`Fresh.antt` of `fresh`) taken apart: a record that passes it has the lengths of its type, its readings have
-- 32 bits and its sets 16; and a fresh net in its parts. Assumes nothing.
use Prim.Native.Nat.{ℕ, ◌<◌}
use mathlib.Core.Path.{◌≡◌}
use mathlib.Core.Bool.{true}
use lib.ListN.{length}
use lib.Dec.{eqb}
use borrow.Author.Tests.{eqb-true}
use Rattle.net.specs.Choice.{both, all}
use Rattle.net.specs.Records.{field_at, pattern_at, row_at, process_at, tuple_at, node_at, instruction_at, address_of, place_of}
use Rattle.net.specs.Shape.{ShapedTuple, ShapedRow, ShapedProcess, ShapedNode, ShapedInstruction, Shaped}
use Rattle.written.specs.Types.{Tuple, Row, Process, Node, Instruction, Net}
use Rattle.fresh.specs.Fresh.{item_fits, pattern_fits, tuple_fits, process_fits, row_fits, node_fits, action_fits, instruction_fits}
use Rattle.fresh.specs.Fresh.{net_fits, starts_at, fresh_of}
use Rattle.net.proofs.Laws.{both_l, both_r, all_e}
use Rattle.keeping.specs.Admission.{admits}
use Rattle.sound.specs.Soundness.{sound_of}

pub record TupleFit (t : Tuple) : Type 0 where
  pub shaped : ShapedTuple t
  pub each_item : (i : ℕ) → i < 4 → item_fits (field_at t i) ≡ true

pub tuple_fit : (t : Tuple) → tuple_fits t ≡ true → TupleFit t
unfolding tuple_fits
tuple_fit t h = record {
  shaped = record { fields_are = eqb-true _ _ (both_l _ _ h) };
  each_item = all_e 4 _ (both_r (eqb (length t.fields) 4) _ h);
}

process_fit : (p : Process) → process_fits p ≡ true → ShapedProcess p
unfolding process_fits
process_fit p h = record { variables_are = eqb-true _ _ h }

row_fit : (r : Row) → row_fits r ≡ true → ShapedRow r
unfolding row_fits
row_fit r h = record { rights_are = eqb-true _ _ h }

pub record NodeFit (x : Node) : Type 0 where
  pub shaped : ShapedNode x
  pub each_tuple : (i : ℕ) → i < 16 → tuple_fits (tuple_at x i) ≡ true

pub node_fit : (x : Node) → node_fits x ≡ true → NodeFit x
unfolding node_fits
node_fit x h =
    let r = both_l _ _ h in
    let g = both_r (both (eqb (length x.rows) 16) (all 16 (λ o. row_fits (row_at x (address_of o))))) _ h in
    let p = both_l _ _ g in
    let t = both_r (both (eqb (length x.processes) 4) (all 4 (λ i. process_fits (process_at x i)))) _ g in
    let each = all_e 16 _ (both_r (eqb (length x.tuples) 16) _ t) in
    record {
      shaped = record {
        rows_are = eqb-true _ _ (both_l _ _ r);
        processes_are = eqb-true _ _ (both_l _ _ p);
        tuples_are = eqb-true _ _ (both_l _ _ t);
        each_row = λ o l. row_fit _ (all_e 16 _ (both_r (eqb (length x.rows) 16) _ r) o.0 l);
        each_process = λ i l. process_fit _ (all_e 4 _ (both_r (eqb (length x.processes) 4) _ p) i l);
        each_tuple = λ i l. (tuple_fit _ (each i l)).shaped;
      };
      each_tuple = each;
    }

pub record InstructionFit (c : Instruction) : Type 0 where
  pub shaped : ShapedInstruction c
  pub action_fits_law : action_fits c.action ≡ true
  pub each_pattern : (i : ℕ) → i < 4 → pattern_fits (pattern_at c i) ≡ true

pub instruction_fit : (c : Instruction) → instruction_fits c ≡ true → InstructionFit c
unfolding instruction_fits
instruction_fit c h =
    let template = both_r (action_fits c.action) _ h in
    record {
      shaped = record { template_is = eqb-true _ _ (both_l _ _ template) };
      action_fits_law = both_l _ _ h;
      each_pattern = all_e 4 _ (both_r (eqb (length c.template) 4) _ template);
    }

pub record NetFit (s : Net) : Type 0 where
  pub shaped : Shaped s
  pub each_node : (a : ℕ) → a < 16 → node_fits (node_at s (address_of a)) ≡ true
  pub each_instruction : (p : ℕ) → p < 512 → instruction_fits (instruction_at s.code (place_of p)) ≡ true

pub net_fit : (s : Net) → net_fits s ≡ true → NetFit s
unfolding net_fits
net_fit s h =
    let nodes = both_l (both (eqb (length s.nodes) 16) (all 16 (λ a. node_fits (node_at s (address_of a))))) _ h in
    let code = both_r (both (eqb (length s.nodes) 16) (all 16 (λ a. node_fits (node_at s (address_of a))))) _ h in
    let each_node = all_e 16 _ (both_r (eqb (length s.nodes) 16) _ nodes) in
    let each_instruction = all_e 512 _ (both_r (eqb (length s.code) 512) _ code) in
    record {
      shaped = record {
        nodes_are = eqb-true _ _ (both_l _ _ nodes);
        code_is = eqb-true _ _ (both_l _ _ code);
        each_node = λ a l. (node_fit _ (each_node a.0 l)).shaped;
        each_instruction = λ p l. (instruction_fit _ (each_instruction p.0 l)).shaped;
      };
      each_node = each_node;
      each_instruction = each_instruction;
    }

-- ---- a fresh net
pub record FreshParts (s : Net) : Type 0 where
  pub fits : net_fits s ≡ true
  pub shaped : Shaped s
  pub sound : sound_of s ≡ true
  pub starts : all 16 (λ a. starts_at s (address_of a)) ≡ true
  pub admitted : admits s ≡ true

pub fresh_apart : (s : Net) → fresh_of s ≡ true → FreshParts s
unfolding fresh_of
fresh_apart s h =
    let fits = both_l _ _ h in
    let rest = both_r (net_fits s) _ h in
    let last = both_r (sound_of s) _ rest in
    record {
      fits = fits;
      shaped = (net_fit s fits).shaped;
      sound = both_l _ _ rest;
      starts = both_l _ _ last;
      admitted = both_r (all 16 (λ a. starts_at s (address_of a))) _ last;
    }
