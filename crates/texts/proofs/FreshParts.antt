-- The nodes and instructions of a net that a text gives: sound (`NodeFacts.antt` and `CodeFacts.antt` of `sound`), each variable
-- unset, each reading of 32 bits and each set of 16, each process with its own node as origin and each tuple with its own node's mark;
-- and what keeps them so. Assumes nothing.
use Prim.Native.Nat.{ℕ, ◌<◌, ◌≤◌}
use mathlib.Core.Path.{◌≡◌, refl}
use mathlib.Core.Bool.{true}
use mathlib.Core.List.{List}
use native.Mathlib.Omega.{arith}
use borrow.Author.Tests.{ltb-true, eq-eqb}
use Rattle.net.specs.Records.{free_process, starting_at, zero_tuple, zero_node, zero_instruction, address_of, row_at, process_at, tuple_at, node_at}
use Rattle.net.specs.Records.{empty_net, marked, with_rows, with_process, with_tuple, with_node, with_counts, with_format, with_action}
use Rattle.net.proofs.Laws.{both_i, implies_i, all_i}
use Rattle.net.proofs.Every.{chosen_lt, Every, Filled, every_replicate, every_set, filled_set}
use Rattle.net.proofs.Past.{past_row, past_process, past_tuple, past_node, past_instruction}
use Rattle.net.proofs.ReadingLaws.{never}
use Rattle.sound.specs.Soundness.{all_unset}
use Rattle.sound.proofs.NodeFacts.{RowsOk, NodeOk, node_shaped}
use Rattle.sound.proofs.NodeChanges.{runs, starting, zero_node_law, with_rows_law, with_process_law, with_tuple_law}
use Rattle.sound.proofs.CodeFacts.{InstructionOk}
use Rattle.sound.proofs.NetChanges.{zero_instruction_law}
use Rattle.fresh.specs.Fresh.{tuple_fits, row_fits, process_fits, node_fits, action_fits, instruction_fits}
use Rattle.fresh.specs.Fresh.{own_origin, own_origins, own_mark, own_marks}
use Rattle.fresh.proofs.FitLaws.{array_fits, action_fits_law, zero_instruction_fits}
use Rattle.fresh.proofs.StartLaws.{free_unset, starting_unset}
use Rattle.linking.specs.Compiled.{unruled}
use Rattle.texts.specs.Types.{Scope, Locality, Place, Row, Tuple, Node, Action, Instruction, Net}
use Rattle.texts.proofs.Fields.{TupleRead}
use Rattle.texts.proofs.Fits.{no_item, tuple_fits_law}

-- ---- instructions; x has the format and the number of addresses
abbrev pub InstructionFresh : Scope → ℕ → Instruction → Type 0
InstructionFresh x k c = InstructionOk x.format x.addresses k c × (instruction_fits c ≡ true)

pub bare_fits : (a : Action) → action_fits a ≡ true → instruction_fits (with_action zero_instruction a) ≡ true
bare_fits a e = action_fits_law zero_instruction a e zero_instruction_fits

-- ---- nodes
abbrev pub AllUnset : Node → Type 0
AllUnset y = Every (λ i p. all_unset p ≡ true) past_process 4 y.processes

abbrev pub TuplesFit : Node → Type 0
TuplesFit y = Every (λ i t. tuple_fits t ≡ true) past_tuple 16 y.tuples

pub record NodeFresh (x : Scope) (k : ℕ) (y : Node) : Type 0 where
  pub sound : NodeOk x.format x.addresses k y
  pub unset : AllUnset y
  pub fit : TuplesFit y

module _ (x : Scope) (k : ℕ) where
  pub zero_fresh : NodeFresh x k zero_node
  unfolding zero_node
  zero_fresh = record {
    sound = zero_node_law x.format x.addresses k;
    unset = every_replicate _ past_process 4 free_process (λ i h. free_unset);
    fit = every_replicate _ past_tuple 16 zero_tuple (λ i h. tuple_fits_law zero_tuple no_item);
  }

  module _ (y : Node) (ok : NodeFresh x k y) where
    pub fresh_rows : (rs : List Row) → RowsOk x.format x.addresses rs → NodeFresh x k (with_rows y rs)
    unfolding with_rows
    fresh_rows rs h = record {
      sound = with_rows_law x.format x.addresses k y ok.sound rs h;
      unset = ok.unset;
      fit = ok.fit;
    }

    pub fresh_process : (a : Locality) (i : ℕ) (p : Place) → a.0 < x.addresses → p.0 < k → NodeFresh x k (with_process y i (starting_at a p))
    unfolding with_process
    fresh_process a i p l h = record {
      sound = with_process_law x.format x.addresses k y ok.sound i _ (runs x.addresses k _ (starting x.addresses k a p l h));
      unset = every_set i _ ok.unset (λ j q d e. e) (starting_unset a p);
      fit = ok.fit;
    }

    pub fresh_tuple : (a : Locality) (t : Tuple) → a.0 < x.addresses → TupleRead x.addresses t → NodeFresh x k (with_tuple y (marked a t))
    unfolding with_tuple
    fresh_tuple a t l h = record {
      sound = with_tuple_law x.format x.addresses k y ok.sound (marked a t) (h.sound a l);
      unset = chosen_lt AllUnset y.stored 16 _ _ (λ _. ok.unset) (λ _. ok.unset);
      fit =
          chosen_lt TuplesFit y.stored 16 _ _ (λ _. every_set y.stored (marked a t) ok.fit (λ j u d e. e) (h.fits a))
          (λ _. ok.fit);
    }

    pub node_fits_law : node_fits y ≡ true
    unfolding node_fits row_at process_at tuple_at row_fits process_fits
    node_fits_law =
        let shape = node_shaped x.format x.addresses k y ok.sound in
        let rows : Every (λ o r. row_fits r ≡ true) past_row 16 y.rows =
        record { size_is = shape.rows_are; holds = λ o h. eq-eqb _ _ (shape.each_row (address_of o) h).rights_are } in
        let processes : Every (λ i p. process_fits p ≡ true) past_process 4 y.processes =
        record { size_is = shape.processes_are; holds = λ i h. eq-eqb _ _ (shape.each_process i h).variables_are } in
        both_i _ _ (array_fits row_fits rows)
        (both_i _ _ (array_fits process_fits processes) (array_fits tuple_fits ok.fit))

-- ---- each process of the node at address m has m as its origin, and each tuple m's mark
pub record Owned (m : ℕ) (x : Node) : Type 0 where
  pub origins : Every (λ i p. p.busy ≡ true → p.origin.0 ≡ m) past_process 4 x.processes
  pub marks : Every (λ i t. i < x.stored → t.mark.0 ≡ m) past_tuple 16 x.tuples

zero_owned : (m : ℕ) → Owned m zero_node
unfolding zero_node free_process
zero_owned m = record {
  origins = every_replicate _ past_process 4 free_process (λ i h e. never e);
  marks = every_replicate _ past_tuple 16 zero_tuple (λ i h l. absurd (omega arith));
}

module _ (a : Locality) (x : Node) (ok : Owned a.0 x) where
  pub owned_rows : (rs : List Row) → Owned a.0 (with_rows x rs)
  unfolding with_rows
  owned_rows rs = record { origins = ok.origins; marks = ok.marks }

  pub owned_process : (i : ℕ) (p : Place) → Owned a.0 (with_process x i (starting_at a p))
  unfolding with_process starting_at
  owned_process i p = record { origins = every_set i _ ok.origins (λ j q d e. e) (λ _. refl); marks = ok.marks }

  pub owned_tuple : (t : Tuple) → Owned a.0 (with_tuple x (marked a t))
  unfolding with_tuple marked
  owned_tuple t =
      chosen_lt (Owned a.0) x.stored 16 _ _
      (λ _. record {
        origins = ok.origins;
        marks = every_set x.stored (marked a t) ok.marks (λ j u d e l. e (omega arith)) (λ _. refl);
      })
      (λ _. ok)

  pub own_origins_law : own_origins a x ≡ true
  unfolding own_origins own_origin process_at
  own_origins_law = all_i 4 _ (λ i h. implies_i _ _ (λ e. eq-eqb _ _ (ok.origins.holds i h e)))

  pub own_marks_law : own_marks a x ≡ true
  unfolding own_marks own_mark tuple_at
  own_marks_law = all_i 16 _ (λ i h. implies_i _ _ (λ e. eq-eqb _ _ (ok.marks.holds i h (ltb-true _ _ e))))

-- ---- a net of that format, with so many addresses and k instructions
abbrev pub CodeFresh : Scope → ℕ → List Instruction → Type 0
CodeFresh x k code = Every (Filled (InstructionFresh x k) (λ c. c ≡ zero_instruction) k) past_instruction 512 code

pub record NetFresh (x : Scope) (k : ℕ) (s : Net) : Type 0 where
  pub format_is : s.format ≡ x.format
  pub addresses_are : s.addresses ≡ x.addresses
  pub length_is : s.length ≡ k
  pub nodes : Every (Filled (NodeFresh x k) (λ y. y ≡ zero_node) x.addresses) past_node 16 s.nodes
  pub owned : Every Owned past_node 16 s.nodes
  pub code : CodeFresh x k s.code

pub empty_fresh : (x : Scope) (k : ℕ) → NetFresh x k (unruled x.format x.addresses k)
unfolding unruled with_counts with_format empty_net
empty_fresh x k = record {
  format_is = refl;
  addresses_are = refl;
  length_is = refl;
  nodes = every_replicate _ past_node 16 zero_node (λ a _. record { used = λ _. zero_fresh x k; unused = λ _. refl });
  owned = every_replicate _ past_node 16 zero_node (λ a _. zero_owned a);
  code =
      every_replicate _ past_instruction 512 zero_instruction
      (λ p _. record { used = λ _. (zero_instruction_law x.format x.addresses k, zero_instruction_fits); unused = λ _. refl });
}

module _ {x : Scope} {k : ℕ} (few : x.addresses ≤ 16) (s : Net) (ok : NetFresh x k s) (a : Locality) (h : a.0 < x.addresses) where
  pub fresh_at : NodeFresh x k (node_at s a)
  unfolding node_at
  fresh_at = (ok.nodes.holds a.0 (omega arith)).used h

  pub owned_at : Owned a.0 (node_at s a)
  unfolding node_at
  owned_at = ok.owned.holds a.0 (omega arith)

  pub fresh_with : (y : Node) → NodeFresh x k y → Owned a.0 y → NetFresh x k (with_node s a y)
  unfolding with_node
  fresh_with y g o = record {
    format_is = ok.format_is;
    addresses_are = ok.addresses_are;
    length_is = ok.length_is;
    nodes = filled_set a.0 y h g ok.nodes;
    owned = every_set a.0 y ok.owned (λ j z d e. e) o;
    code = ok.code;
  }
