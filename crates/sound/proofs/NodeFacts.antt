-- A sound node as facts about each right, process, tuple and field: drawn from the test of soundness and the lengths of
-- the arrays (`node_apart`), and giving both again (`node_sound_law`, `node_shaped`). What stands past a count or in a free
-- slot is the zero record of its kind (`ZeroClaims.antt`).
-- Assumes nothing.
use Prim.Native.Nat.{ℕ, ◌<◌, ◌≤◌}
use mathlib.Core.Path.{◌≡◌, refl, sym, subst, ◌∙◌}
use mathlib.Core.Bool.{Bool, true, false}
use mathlib.Core.List.{List}
use native.Mathlib.Omega.{arith}
use lib.Dec.{eqb, leb, ltb}
use lib.ListN.{get_or}
use lib.Seq.{ext_get_or}
use borrow.Author.Tests.{ltb-true, leb-true, lt-ltb, le-leb, not-true}
use Rattle.net.specs.Choice.{choose, both, in_range, all}
use Rattle.net.specs.Records.{field_at, variable_at, rights_at, row_at, process_at, tuple_at, address_of}
use Rattle.net.specs.Records.{zero_field, zero_tuple, zero_row, free_process, no_rights}
use Rattle.net.specs.Shape.{ShapedTuple, ShapedRow, ShapedProcess, ShapedNode}
use Rattle.sound.specs.Types.{Tuple, Rights, Row, Process, Node}
use Rattle.sound.specs.Soundness.{item_sound, is_zero_item, fields_sound, tuple_sound, is_zero_tuple, tuples_sound, row_sound}
use Rattle.sound.specs.Soundness.{is_zero_row, same_bool, same_rights, same_row, rows_alike, unused_barred, rows_sound, value_sound, is_free}
use Rattle.sound.specs.Soundness.{process_sound, node_sound}
use Rattle.net.proofs.Laws.{both_i, both_l, both_r, implies_i, implies_e, choose_e, choose_else, all_i, all_e}
use Rattle.net.proofs.Laws.{in_range_law, in_range_low, in_range_high}
use Rattle.net.proofs.Every.{chosen, Every, Filled, filled_each, filled_all, all_filled}
use Rattle.net.proofs.Past.{past_field, past_variable, past_rights, past_row, past_process, past_tuple}
use Rattle.sound.proofs.ZeroClaims.{zero_is_zero, tuple_passes, row_passes, process_passes}

-- what the zero record has
pub of_zero : {A : Type 0} (Q : A → Type 0) {z : A} → Q z → (x : A) → x ≡ z → Q x
of_zero Q q x e = subst Q (sym e) q

-- ---- tuples
abbrev pub FieldsOk : ℕ → Tuple → Type 0
FieldsOk n t = Every (Filled (λ f. item_sound n f.item ≡ true) (λ f. f ≡ zero_field) t.count) past_field 4 t.fields

pub record TupleOk (n : ℕ) (t : Tuple) : Type 0 where
  pub mark_ok : t.mark.0 < n
  pub least : 1 ≤ t.count
  pub most : t.count ≤ 4
  pub fields_ok : FieldsOk n t

pub tuple_apart : (n : ℕ) (t : Tuple) → ShapedTuple t → tuple_sound n t ≡ true → TupleOk n t
unfolding tuple_sound fields_sound field_at
tuple_apart n t shape h = let g = both_r (ltb t.mark.0 n) _ h in record {
  mark_ok = ltb-true _ _ (both_l _ _ h);
  least = in_range_low 1 t.count 4 (both_l _ _ g);
  most = in_range_high 1 t.count 4 (both_l _ _ g);
  fields_ok =
      all_filled (λ f. item_sound n f.item) (λ f. is_zero_item f.item) shape.fields_are
      (both_r (in_range 1 t.count 4) _ g) (λ j l e. e) (λ j l. (zero_is_zero.field _).0);
}

pub tuple_sound_law : (n : ℕ) (t : Tuple) → TupleOk n t → tuple_sound n t ≡ true
unfolding tuple_sound fields_sound field_at
tuple_sound_law n t ok =
    both_i _ _ (lt-ltb _ _ ok.mark_ok)
    (both_i _ _ (in_range_law 1 t.count 4 ok.least ok.most)
    (filled_all (λ f. item_sound n f.item) (λ f. is_zero_item f.item) ok.fields_ok (λ f e. e)
    (λ f. (zero_is_zero.field f).1)))

pub tuple_shaped : (n : ℕ) (t : Tuple) → TupleOk n t → ShapedTuple t
tuple_shaped n t ok = record { fields_are = ok.fields_ok.size_is }

zero_tuple_shaped : ShapedTuple zero_tuple
unfolding zero_tuple
zero_tuple_shaped = record { fields_are = refl }

-- ---- rows: no right over an address that is not in use
abbrev pub RowOk : ℕ → Row → Type 0
RowOk n r = Every (Filled (λ x. Unit {0}) (λ x. x ≡ no_rights) n) past_rights 16 r.rights

row_apart : (n : ℕ) (r : Row) → ShapedRow r → row_sound n r ≡ true → RowOk n r
unfolding row_sound rights_at
row_apart n r shape h = record {
  size_is = shape.rights_are;
  holds = λ l g. record {
    used = λ _. tt;
    unused = λ u. (zero_is_zero.rights _).0 (implies_e (leb n l) _ (all_e 16 _ h l g) (le-leb n l u));
  };
}

row_sound_law : (n : ℕ) (r : Row) → RowOk n r → row_sound n r ≡ true
unfolding row_sound rights_at
row_sound_law n r ok =
    all_i 16 _ (λ l h. implies_i (leb n l) _ (λ e. (zero_is_zero.rights _).1 ((ok.holds l h).unused (leb-true n l e))))

-- rows that pass the test of equality are equal
same_bool_law : (a b : Bool) → same_bool a b ≡ true → a ≡ b
unfolding same_bool choose
same_bool_law true b h = sym h
same_bool_law false b h = sym (not-true b h)

bool_same : (a : Bool) → same_bool a a ≡ true
unfolding same_bool choose
bool_same true = refl
bool_same false = refl

same_rights_law : (r q : Rights) → same_rights r q ≡ true → r ≡ q
unfolding same_rights
same_rights_law r q h =
    let f = both_l (both (same_bool r.take q.take) (same_bool r.read q.read)) _ h in
    let g = both_r (both (same_bool r.take q.take) (same_bool r.read q.read)) _ h in
    λ d. record {
      take = same_bool_law _ _ (both_l _ _ f) d;
      read = same_bool_law _ _ (both_r (same_bool r.take q.take) _ f) d;
      put = same_bool_law _ _ (both_l _ _ g) d;
      send = same_bool_law _ _ (both_r (same_bool r.put q.put) _ g) d;
    }

rights_same : (r : Rights) → same_rights r r ≡ true
unfolding same_rights
rights_same r =
    both_i _ _ (both_i _ _ (bool_same r.take) (bool_same r.read))
    (both_i _ _ (bool_same r.put) (bool_same r.send))

same_row_law : (r q : Row) → ShapedRow r → ShapedRow q → same_row r q ≡ true → r ≡ q
unfolding same_row rights_at
same_row_law r q shape shape' h = λ d. record {
  create = same_bool_law _ _ (both_l _ _ h) d;
  rights = ext_get_or _ r.rights q.rights (shape.rights_are ∙ sym shape'.rights_are)
      (λ l g. same_rights_law _ _ (all_e 16 _ (both_r (same_bool r.create q.create) _ h) l (omega (arith, shape.rights_are)))) d;
}

row_same : (r q : Row) → r ≡ q → same_row r q ≡ true
unfolding same_row
row_same r q e =
    subst (λ x. same_row r x ≡ true) e
    (both_i _ _ (bool_same r.create) (all_i 16 _ (λ l h. rights_same (rights_at r (address_of l)))))

-- ---- the rows of a node: each by itself; in format 1 all as the first, in format 2 empty for an origin that is not in use
pub record RowsOk (f n : ℕ) (rows : List Row) : Type 0 where
  pub each_ok : Every (λ o. RowOk n) past_row 16 rows
  pub as_first : eqb f 1 ≡ true → (o : ℕ) → o < 16 → get_or rows o past_row ≡ get_or rows 0 past_row
  pub barred : eqb f 1 ≡ false → (o : ℕ) → n ≤ o → o < 16 → get_or rows o past_row ≡ zero_row

module _ (f n : ℕ) (x : Node) where
  rows_apart : ShapedNode x → rows_sound f n x ≡ true → RowsOk f n x.rows
  unfolding rows_sound rows_alike unused_barred row_at
  rows_apart shape h =
      let each = both_l (all 16 (λ o. row_sound n (row_at x (address_of o)))) _ h in
      let beside = both_r (all 16 (λ o. row_sound n (row_at x (address_of o)))) _ h in
      record {
        each_ok = record {
          size_is = shape.rows_are;
          holds = λ o l. row_apart n _ (shape.each_row (address_of o) l) (all_e 16 _ each o l);
        };
        as_first = λ e o l.
            same_row_law _ _ (shape.each_row (address_of o) l) (shape.each_row (address_of 0) (omega arith))
            (all_e 16 _ (choose_e (eqb f 1) _ _ beside e) o l);
        barred = λ e o g l.
            (zero_is_zero.row _ (shape.each_row (address_of o) l)).0
            (implies_e (leb n o) _ (all_e 16 _ (choose_else (eqb f 1) _ _ beside e) o l) (le-leb n o g));
      }

  rows_sound_law : RowsOk f n x.rows → rows_sound f n x ≡ true
  unfolding rows_sound rows_alike unused_barred row_at
  rows_sound_law ok =
      both_i _ _ (all_i 16 _ (λ o l. row_sound_law n _ (ok.each_ok.holds o l)))
      (chosen (λ b. b ≡ true) (eqb f 1) _ _
      (λ e. all_i 16 _ (λ o l. row_same _ _ (ok.as_first e o l)))
      (λ e. all_i 16 _
      (λ o l. implies_i (leb n o) _
      (λ u. of_zero (λ r. is_zero_row r ≡ true) row_passes _ (ok.barred e o (leb-true n o u) l)))))

-- ---- processes
pub record Running (n k : ℕ) (p : Process) : Type 0 where
  pub is_busy : p.busy ≡ true
  pub place : p.at.0 < k
  pub origin_ok : p.origin.0 < n
  pub values : Every (λ v x. value_sound n x.value ≡ true) past_variable 8 p.variables

-- it runs, or its slot is free
pub record ProcessOk (n k : ℕ) (p : Process) : Type 0 where
  pub running : p.busy ≡ true → Running n k p
  pub free : p.busy ≡ false → p ≡ free_process

free_shaped : ShapedProcess free_process
unfolding free_process
free_shaped = record { variables_are = refl }

module _ (n k : ℕ) where
  process_apart : (p : Process) → ShapedProcess p → process_sound n k p ≡ true → ProcessOk n k p
  unfolding process_sound variable_at
  process_apart p shape h = record {
    running = λ e. let g = choose_e p.busy _ _ h e in let f = both_r (ltb p.at.0 k) _ g in record {
      is_busy = e;
      place = ltb-true _ _ (both_l _ _ g);
      origin_ok = ltb-true _ _ (both_l _ _ f);
      values = record { size_is = shape.variables_are; holds = all_e 8 _ (both_r (ltb p.origin.0 n) _ f) };
    };
    free = λ e. (zero_is_zero.process p shape).0 (choose_else p.busy _ _ h e);
  }

  process_sound_law : (p : Process) → ProcessOk n k p → process_sound n k p ≡ true
  unfolding process_sound variable_at
  process_sound_law p ok =
      chosen (λ b. b ≡ true) p.busy _ _
      (λ e. both_i _ _ (lt-ltb _ _ (ok.running e).place)
      (both_i _ _ (lt-ltb _ _ (ok.running e).origin_ok) (all_i 8 _ (ok.running e).values.holds)))
      (λ e. of_zero (λ q. is_free q ≡ true) process_passes p (ok.free e))

  process_shaped : (p : Process) → ProcessOk n k p → ShapedProcess p
  process_shaped p ok = go p.busy refl
    where
      go : (b : Bool) → p.busy ≡ b → ShapedProcess p
      go true e = record { variables_are = (ok.running e).values.size_is }
      go false e = of_zero ShapedProcess free_shaped p (ok.free e)

-- ---- nodes
pub record NodeOk (f n k : ℕ) (x : Node) : Type 0 where
  pub rows_ok : RowsOk f n x.rows
  pub processes_ok : Every (λ i. ProcessOk n k) past_process 4 x.processes
  pub room : x.stored ≤ 16
  pub tuples_ok : Every (Filled (TupleOk n) (λ t. t ≡ zero_tuple) x.stored) past_tuple 16 x.tuples

module _ (f n k : ℕ) (x : Node) where
  pub node_apart : ShapedNode x → node_sound f n k x ≡ true → NodeOk f n k x
  unfolding node_sound process_at tuples_sound tuple_at
  node_apart shape h =
      let g = both_r (rows_sound f n x) _ h in
      let stores = both_r (all 4 (λ i. process_sound n k (process_at x i))) _ g in
      record {
        rows_ok = rows_apart f n x shape (both_l _ _ h);
        processes_ok = record {
          size_is = shape.processes_are;
          holds = λ i l. process_apart n k _ (shape.each_process i l) (all_e 4 _ (both_l _ _ g) i l);
        };
        room = leb-true _ _ (both_l _ _ stores);
        tuples_ok =
            all_filled (tuple_sound n) is_zero_tuple shape.tuples_are (both_r (leb x.stored 16) _ stores)
            (λ j l. tuple_apart n _ (shape.each_tuple j l)) (λ j l. (zero_is_zero.tuple _ (shape.each_tuple j l)).0);
      }

  pub node_sound_law : NodeOk f n k x → node_sound f n k x ≡ true
  unfolding node_sound process_at tuples_sound tuple_at
  node_sound_law ok =
      both_i _ _ (rows_sound_law f n x ok.rows_ok)
      (both_i _ _ (all_i 4 _ (λ i h. process_sound_law n k _ (ok.processes_ok.holds i h)))
      (both_i _ _ (le-leb x.stored 16 ok.room)
      (filled_all (tuple_sound n) is_zero_tuple ok.tuples_ok (tuple_sound_law n)
      (of_zero (λ t. is_zero_tuple t ≡ true) tuple_passes))))

  pub node_shaped : NodeOk f n k x → ShapedNode x
  unfolding row_at process_at tuple_at
  node_shaped ok = record {
    rows_are = ok.rows_ok.each_ok.size_is;
    processes_are = ok.processes_ok.size_is;
    tuples_are = ok.tuples_ok.size_is;
    each_row = λ o h. record { rights_are = (ok.rows_ok.each_ok.holds o.0 h).size_is };
    each_process = λ i h. process_shaped n k _ (ok.processes_ok.holds i h);
    each_tuple = filled_each ok.tuples_ok (tuple_shaped n) (of_zero ShapedTuple zero_tuple_shaped);
  }
