-- The tuples of a node (`Image.antt` of `image`, `specs/ImageOf.antt`, 4): what is read is what is written.
-- Assumes nothing.
use Prim.Native.Nat.{ℕ, suc, ◌+◌, ◌<◌, ◌≤◌}
use mathlib.Core.Path.{◌≡◌, refl, sym, ap, subst, ◌∙◌}
use mathlib.Core.List.{List, ◌++◌}
use native.Mathlib.Omega.{arith}
use lib.ListN.{get_or, set, replicate, length-replicate, get_or-replicate}
use lib.Seq.{set-get_or, set-set}
use borrow.Author.Tests.{lt-ltb}
use Rattle.written.specs.Types.{Locality, Tuple, Row, Process, Node}
use Rattle.net.specs.Records.{zero_tuple, tuple_at}
use Rattle.net.specs.Records.{with_tuple, marked, address_of}
use Rattle.image.specs.Image.{row, processes, stored, tuples}
use Rattle.written.specs.ImageOf.{bits_of}
use Rattle.text.specs.Joined.{joined}
use Rattle.written.specs.ImageOf.{tuple_bits, tuples_bits}
use Rattle.net.proofs.Laws.{choose_true}
use Rattle.net.proofs.Every.{Every, Filled}
use Rattle.net.proofs.Past.{past_tuple}
use Rattle.written.proofs.ReadsWrites.{Reads, reads_then, reads_field}
use Rattle.written.proofs.ReadsCells.{Arrayed, Through, Filling, reads_turn, reads_cells}
use Rattle.written.proofs.ReadsCells.{rewritten_filled, filled_rewritten}
use Rattle.written.proofs.WrittenTuples.{TupleOk, reads_tuple, marked_bits, marked_ok, marked_again}
use Rattle.written.proofs.WrittenProcesses.{bare_node, node_is}

-- the store of the node at address a
pub record TuplesOk (a : Locality) (n : ℕ) (x : Node) : Type 0 where
  pub few : x.stored ≤ 16
  pub tuples_ok : Every (Filled (TupleOk a n) (λ t. zero_tuple ≡ t) x.stored) past_tuple 16 x.tuples

put_tuple : (x : Node) (t : Tuple) → x.stored < 16
    → with_tuple x t
    ≡ record { rows = x.rows; processes = x.processes; stored = x.stored + 1; tuples = set x.tuples x.stored t }
unfolding with_tuple
put_tuple x t h = choose_true _ _ _ (lt-ltb x.stored 16 h)

-- a node with i tuples, the last one put anew
cut_tuple : ℕ → Node → Tuple → Node
cut_tuple i x t = record { rows = x.rows; processes = x.processes; stored = i; tuples = set x.tuples i t }

record Storing (rs : List Row) (ps : List Process) (i : ℕ) (x : Node) : Type 0 where
  rows_are : rs ≡ x.rows
  processes_are : ps ≡ x.processes
  stored_is : i ≡ x.stored

abbrev stores_in : Locality → ℕ → List Row → List Process → Arrayed Node Tuple
stores_in a n rs ps = record {
  cells = λ x. x.tuples;
  put = λ i x t. with_tuple x t;
  cut = cut_tuple;
  past = past_tuple;
  Good = λ i. TupleOk a n;
  undo = λ t. zero_tuple;
  Frame = Storing rs ps;
  Extra = λ i x t. Unit {0};
  size = 16;
}

tuples_put : (x : Node) (i : ℕ) (t : Tuple) → i < 16 → i ≡ x.stored → (with_tuple x t).tuples ≡ set x.tuples i t
tuples_put x i t l e =
    ap (λ (y : Node). y.tuples) (put_tuple x t (omega arith)) ∙ ap (λ (k : ℕ). set x.tuples k t) (sym e)

tuples_cut : (x : Node) (i : ℕ) (t : Tuple) → i < 16 → suc i ≡ x.stored
    → with_tuple (cut_tuple i x t) (get_or x.tuples i past_tuple) ≡ x
unfolding cut_tuple
tuples_cut x i t l e =
    let c : i + 1 ≡ x.stored = omega arith in
    let y : List Tuple = x.tuples in
    put_tuple (cut_tuple i x t) (get_or y i past_tuple) l
    ∙ ap (λ (k : ℕ).
    record { rows = x.rows; processes = x.processes; stored = k; tuples = set (set y i t) i (get_or y i past_tuple) }) c
    ∙ ap (λ z. record { rows = x.rows; processes = x.processes; stored = x.stored; tuples = z })
    (set-set y i t (get_or y i past_tuple) ∙ set-get_or y i past_tuple)

-- a node without tuples becomes one with tuples
pub record Stocked (a : Locality) (n : ℕ) (rs : List Row) (ps : List Process) (x : Node) : Type 0 where
  pub store : TuplesOk a n x
  pub same_rows : rs ≡ x.rows
  pub same_processes : ps ≡ x.processes

module _ (a : Locality) (n : ℕ) (rs : List Row) (ps : List Process) (h : n ≤ 16) where
  filling_tuples : (c : ℕ) → c ≤ 16 → Filling (stores_in a n rs ps) (bare_node rs ps) (stored a n) c tuple_bits
  unfolding stored bare_node cut_tuple
  filling_tuples c l = record {
    room = l;
    size_is = length-replicate 16 zero_tuple;
    begins = record { rows_are = refl; processes_are = refl; stored_is = refl };
    starts = λ x e d. node_is x rs ps 0 (replicate 16 zero_tuple) e.rows_are e.processes_are e.stored_is d;
    turn = λ i m x e b s.
        reads_turn (stores_in a n rs ps) (bare_node rs ps) i x tuple_bits (marked a) (omega arith)
        (λ t. tuples_put x i t (omega arith) e.stored_is) (reads_tuple n h)
        (λ t g. (marked_ok a t _ n g, sym (get_or-replicate 16 i zero_tuple past_tuple (omega arith)), tt))
        (λ t g. marked_bits a t)
        (λ t g _ _. (marked (address_of 0) t, marked_ok (address_of 0) t a n g, marked_again a t (address_of 0) g.mark_is));
    put_cells = λ i m x t e. tuples_put x i t (omega arith) e.stored_is;
    put_frame = λ i m x t e s _.
        let d = e.stored_is in
        subst (Storing rs ps (suc i)) (sym (put_tuple x t (omega arith)))
        (record { rows_are = e.rows_are; processes_are = e.processes_are; stored_is = omega arith });
    cut_cells = λ i m x t. refl;
    cut_frame = λ i m x t e. record { rows_are = e.rows_are; processes_are = e.processes_are; stored_is = refl };
    cut_extra = λ i m x t e. tt;
    put_cut = λ i m x t e. tuples_cut x i t (omega arith) e.stored_is;
  }

  through_tuples : (c : ℕ) (x : Node) → c < 17 → Through (stores_in a n rs ps) (bare_node rs ps) c x → Stocked a n rs ps x
  unfolding bare_node
  through_tuples c x l g =
      let e = g.frame.stored_is in
      record {
        store = record { few = omega arith; tuples_ok = rewritten_filled (sym e) g.cells_ok };
        same_rows = g.frame.rows_are;
        same_processes = g.frame.processes_are;
      }

  tuples_through : (x : Node) → Stocked a n rs ps x → Through (stores_in a n rs ps) (bare_node rs ps) x.stored x
  unfolding bare_node
  tuples_through x g = record {
    frame = record { rows_are = g.same_rows; processes_are = g.same_processes; stored_is = refl };
    cells_ok = filled_rewritten refl g.store.tuples_ok;
  }

  pub reads_tuples : Reads (tuples a n (bare_node rs ps)) tuples_bits (Stocked a n rs ps)
  unfolding tuples tuples_bits tuple_at
  reads_tuples =
      reads_then (reads_field 5 0 17 22 (omega arith))
      (λ c l. reads_cells (stores_in a n rs ps) (bare_node rs ps) (stored a n) c tuple_bits
      (filling_tuples c (omega (arith, l.below))))
      (record {
        keeps = λ c x l g. through_tuples c x l.below g;
        writes = λ c x l g.
            ap (λ (m : ℕ). bits_of 5 m ++ joined m (λ i. tuple_bits (get_or x.tuples i past_tuple)))
            (sym g.frame.stored_is);
        parts = λ x g.
            (x.stored, record { above = omega arith; below = omega (arith, g.store.few) }, tuples_through x g);
      })
