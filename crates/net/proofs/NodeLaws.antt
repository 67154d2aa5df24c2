-- Laws of the methods of rows and nodes (`specs/Records.antt`). Assumes nothing.
use Prim.Native.Nat.{ℕ, ◌+◌, ◌-◌, ◌<◌, ◌≤◌}
use mathlib.Core.Path.{◌≡◌, refl, sym, ap, ◌∙◌}
use mathlib.Core.Bool.{Bool, true, false}
use native.Mathlib.Omega.{arith}
use lib.Dec.{ltb}
use lib.ListN.{length, set}
use lib.Seq.{set_out}
use borrow.Author.Tests.{lt-ltb, le-ltb, ltb-true}
use Rattle.std.specs.Prelude.{Option, Some, None}
use Rattle.std.specs.Prelude.{Some, None, unwrap_or}
use Rattle.net.specs.Choice.{choose, fold}
use Rattle.net.specs.Records.{Locality, Value, Tuple, Rights, Row, Process, Node, row_at, row_for, tuple_at, zero_row, zero_tuple, with_rights}
use Rattle.net.specs.Records.{with_variable, with_row, with_rows, with_process}
use Rattle.net.specs.Records.{after_taking, without_tuple, put_in, with_tuple}
use Rattle.net.proofs.Laws.{choose_true, choose_false}
use Rattle.net.proofs.FoldLaws.{fold_none, fold_more, fold_end}

-- a store past the last place changes nothing
pub rights_out : (r : Row) (l : Locality) (x : Rights) → length r.rights ≡ 16 → 16 ≤ l.0 → r ≡ with_rights r l x
unfolding with_rights
rights_out r l x e h = rw (set_out r.rights l.0 x (omega arith))

pub row_out : (x : Node) (o : Locality) (r : Row) → length x.rows ≡ 16 → 16 ≤ o.0 → x ≡ with_row x o r
unfolding with_row with_rows
row_out x o r e h = rw (set_out x.rows o.0 r (omega arith))

pub variable_out : (p : Process) (v : ℕ) (x : Value) → length p.variables ≡ 8 → 8 ≤ v → p ≡ with_variable p v x
unfolding with_variable
variable_out p v x e h = rw (set_out p.variables v _ (omega arith))

pub process_out : (x : Node) (k : ℕ) (p : Process) → length x.processes ≡ 4 → 4 ≤ k → x ≡ with_process x k p
unfolding with_process
process_out x k p e h = rw (set_out x.processes k p (omega arith))

-- ---- the row that a process is judged by
module _ (x : Node) (p : Process) where
  pub row_in_law : p.origin.0 < 16 → row_at x p.origin ≡ row_for x p
  unfolding row_for
  row_in_law h = sym (choose_true _ _ _ (lt-ltb _ 16 h))

  pub row_beyond : (r : Row) → r ≡ zero_row → 16 ≤ p.origin.0 → r ≡ row_for x p
  unfolding row_for
  row_beyond r e h = e ∙ sym (choose_false _ _ _ (le-ltb _ 16 h))

-- the node while its tuples move up: j of them stand in their new places
pub record Taking (x : Node) (i : ℕ) (node : Node) (j : ℕ) : Type 0 where
  pub low : j ≤ 16
  pub rows : node.rows ≡ x.rows
  pub processes : node.processes ≡ x.processes
  pub stored : node.stored ≡ x.stored - 1
  pub tuples : node.tuples ≡ fold j (λ k ts. set ts k (after_taking x i k)) x.tuples

module _ (x : Node) (i : ℕ) where
  pub taking_none : (n : ℕ) → n ≡ x.stored - 1 → Taking x i (record { rows = x.rows; processes = x.processes; stored = n; tuples = x.tuples }) 0
  taking_none n e = record { low = omega arith; rows = refl; processes = refl; stored = e; tuples = fold_none _ x.tuples x.tuples refl }

  -- what moves up is the tuple at the next place
  pub taking_next : (j above : ℕ) (t : Tuple) → (j < 15 → above ≡ j + 1)
      → t ≡ choose (ltb j i) (tuple_at x j) (choose (ltb j 15) (tuple_at x above) zero_tuple) → t ≡ after_taking x i j
  unfolding after_taking
  taking_next j above t h e = e ∙ ap (choose (ltb j i) (tuple_at x j)) (go (ltb j 15) refl)
    where
      go : (b : Bool) → ltb j 15 ≡ b
          → choose (ltb j 15) (tuple_at x above) zero_tuple ≡ choose (ltb j 15) (tuple_at x (j + 1)) zero_tuple
      go true q = ap (λ (k : ℕ). choose (ltb j 15) (tuple_at x k) zero_tuple) (h (ltb-true j 15 q))
      go false q = choose_false _ _ _ q ∙ sym (choose_false _ _ _ q)

  pub taking_more : (node : Node) (j : ℕ) (t : Tuple) → Taking x i node j → j < 16 → t ≡ after_taking x i j
      → Taking x i (record { rows = node.rows; processes = node.processes; stored = node.stored; tuples = set node.tuples j t }) (j + 1)
  taking_more node j t h l e = record {
    low = omega arith;
    rows = h.rows;
    processes = h.processes;
    stored = h.stored;
    tuples = fold_more _ x.tuples j node.tuples _ h.tuples (ap (set node.tuples j) e);
  }

  pub taking_all : (node : Node) (j : ℕ) → Taking x i node j → 16 ≤ j → node ≡ without_tuple x i
  unfolding without_tuple
  taking_all node j h l = λ d. record {
    rows = h.rows d;
    processes = h.processes d;
    stored = h.stored d;
    tuples = fold_end _ x.tuples j 16 node.tuples h.tuples h.low l d;
  }

-- a node with a tuple put, or as it was
pub put_or : (x : Node) (t : Tuple) → unwrap_or (put_in x t) x ≡ with_tuple x t
unfolding put_in with_tuple choose
put_or x t = go (ltb x.stored 16) _
  where
    go : (b : Bool) (y : Node) → unwrap_or (choose b (Some (choose b y x)) None) x ≡ choose b y x
    go true y = refl
    go false y = refl
