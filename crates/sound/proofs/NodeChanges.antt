-- What keeps a node sound (`NodeFacts.antt`): rows, a process or a tuple set anew, of a node that begins as the zero node;
-- and a tuple made field by field.
-- Assumes nothing.
use Prim.Native.Nat.{ℕ, suc, ◌<◌, ◌≤◌}
use mathlib.Core.Path.{◌≡◌, refl, sym, ◌∙◌}
use mathlib.Core.Bool.{true, false}
use mathlib.Core.List.{List}
use native.Mathlib.Omega.{arith}
use lib.Dec.{eqb}
use lib.ListN.{set, get_or-replicate}
use lib.Seq.{get_or-set_other}
use Rattle.net.specs.Records.{starting_at, zero_field, zero_tuple, unset_variable, free_process, no_rights, zero_row, zero_node}
use Rattle.net.specs.Records.{marked, with_field, alike, with_rows, with_process, with_tuple}
use Rattle.net.specs.Shape.{ShapedNode}
use Rattle.sound.specs.Types.{Field, Tuple, Row, Process, Node}
use Rattle.net.specs.declared.locality.Locality.{Locality}
use Rattle.net.specs.declared.locality.Place.{Place}
use Rattle.sound.specs.Soundness.{item_sound, value_sound}
use Rattle.net.proofs.Every.{chosen_lt, every_replicate, every_set, filled_add}
use Rattle.net.proofs.Past.{past_field, past_variable, past_rights, past_row, past_process, past_tuple}
use Rattle.net.proofs.ReadingLaws.{never}
use Rattle.sound.proofs.NodeFacts.{FieldsOk, TupleOk, RowOk, RowsOk, Running, ProcessOk, NodeOk, node_shaped}

-- ---- a tuple of which i fields are set
pub record Filling (n i : ℕ) (t : Tuple) : Type 0 where
  pub count_is : t.count ≡ i
  pub fields_ok : FieldsOk n t

module _ (n : ℕ) where
  pub no_field : Filling n 0 zero_tuple
  unfolding zero_tuple
  no_field = record {
    count_is = refl;
    fields_ok =
        every_replicate _ past_field 4 zero_field (λ j h. record { used = λ l. absurd (omega arith); unused = λ _. refl });
  }

  pub next_field :
      (i : ℕ) (t : Tuple) (f : Field) → i < 4 → Filling n i t → item_sound n f.item ≡ true
      → Filling n (suc i) (with_field t f)
  unfolding with_field
  next_field i t f h ok s =
      chosen_lt (Filling n (suc i)) t.count 4 _ _
      (λ l. record { count_is = omega (arith, ok.count_is); fields_ok = filled_add f s ok.fields_ok })
      (λ l. absurd (omega (arith, ok.count_is)))

  pub all_fields : (i : ℕ) (t : Tuple) (a : Locality) → 1 ≤ i → i ≤ 4 → a.0 < n → Filling n i t → TupleOk n (marked a t)
  unfolding marked
  all_fields i t a h g l ok = record {
    mark_ok = l;
    least = omega (arith, ok.count_is);
    most = omega (arith, ok.count_is);
    fields_ok = ok.fields_ok;
  }

-- ---- rows
pub zero_row_law : (n : ℕ) → RowOk n zero_row
unfolding zero_row
zero_row_law n = every_replicate _ past_rights 16 no_rights (λ j h. record { used = λ _. tt; unused = λ _. refl })

-- ---- the rows of a node
module _ (f n : ℕ) where
  -- one row for every origin
  pub alike_rows : (r : Row) → RowOk n r → (eqb f 1 ≡ false → r ≡ zero_row) → RowsOk f n (alike r)
  unfolding alike
  alike_rows r ok none = record {
    each_ok = every_replicate _ past_row 16 r (λ o h. ok);
    as_first = λ e o h. get_or-replicate 16 o r past_row h ∙ sym (get_or-replicate 16 0 r past_row (omega arith));
    barred = λ e o g h. get_or-replicate 16 o r past_row h ∙ none e;
  }

  pub zero_rows : RowsOk f n (alike zero_row)
  zero_rows = alike_rows zero_row (zero_row_law n) (λ e. refl)

  -- format 2: another row for an origin in use
  pub other_row : (rows : List Row) (o : ℕ) (r : Row) → eqb f 1 ≡ false → o < n → RowOk n r → RowsOk f n rows → RowsOk f n (set rows o r)
  other_row rows o r e l h ok = record {
    each_ok = every_set o r ok.each_ok (λ j q d g. g) h;
    as_first = λ g. never (sym e ∙ g);
    barred = λ g j u b. get_or-set_other rows o j r past_row (λ q. absurd (omega (arith, q))) ∙ ok.barred g j u b;
  }

module _ (n k : ℕ) where
  -- ---- processes
  pub runs : (p : Process) → Running n k p → ProcessOk n k p
  runs p r = record { running = λ _. r; free = λ e. never (sym e ∙ r.is_busy) }

  pub free_slot_law : ProcessOk n k free_process
  unfolding free_process
  free_slot_law = record { running = λ e. never e; free = λ _. refl }

  pub starting : (a : Locality) (p : Place) → a.0 < n → p.0 < k → Running n k (starting_at a p)
  unfolding starting_at unset_variable value_sound
  starting a p g h = record {
    is_busy = refl;
    place = h;
    origin_ok = g;
    values = every_replicate _ past_variable 8 unset_variable (λ v l. refl);
  }

module _ (f n k : ℕ) where
  -- ---- nodes
  pub zero_node_law : NodeOk f n k zero_node
  unfolding zero_node
  zero_node_law = record {
    rows_ok = zero_rows f n;
    processes_ok = every_replicate _ past_process 4 free_process (λ j h. free_slot_law n k);
    room = omega arith;
    tuples_ok =
        every_replicate _ past_tuple 16 zero_tuple (λ j h. record { used = λ l. absurd (omega arith); unused = λ _. refl });
  }

  module _ (x : Node) (ok : NodeOk f n k x) where
    pub with_rows_law : (rows : List Row) → RowsOk f n rows → NodeOk f n k (with_rows x rows)
    unfolding with_rows
    with_rows_law rows h =
        record { rows_ok = h; processes_ok = ok.processes_ok; room = ok.room; tuples_ok = ok.tuples_ok }

    pub with_process_law : (i : ℕ) (p : Process) → ProcessOk n k p → NodeOk f n k (with_process x i p)
    unfolding with_process
    with_process_law i p h = record {
      rows_ok = ok.rows_ok;
      processes_ok = every_set i p ok.processes_ok (λ j q d e. e) h;
      room = ok.room;
      tuples_ok = ok.tuples_ok;
    }

    pub with_tuple_law : (t : Tuple) → TupleOk n t → NodeOk f n k (with_tuple x t)
    unfolding with_tuple
    with_tuple_law t h =
        chosen_lt (NodeOk f n k) x.stored 16 _ _
        (λ l. record {
          rows_ok = ok.rows_ok;
          processes_ok = ok.processes_ok;
          room = omega arith;
          tuples_ok = filled_add t h ok.tuples_ok;
        })
        (λ l. ok)

pub zero_node_shaped : ShapedNode zero_node
zero_node_shaped = node_shaped 1 1 1 zero_node (zero_node_law 1 1 1)
