-- What the changes that a step makes (`specs/Pick.antt`, and `Records.antt` of the crate `net`) keep: of a process that
-- runs, of a node and of a net, in the facts of `NodeFacts.antt` and `NetFacts.antt` of `sound`.
-- Assumes nothing.
use Prim.Native.Nat.{ℕ, ◌+◌, ◌-◌, ◌<◌, ◌≤◌}
use mathlib.Core.Path.{◌≡◌, refl, sym, subst, ◌∙◌}
use mathlib.Core.Bool.{true}
use mathlib.Core.List.{List}
use native.Mathlib.Omega.{arith}
use lib.Dec.{eqb}
use lib.ListN.{length, set}
use borrow.Author.Tests.{lt-ltb}
use Rattle.net.specs.Choice.{fold}
use Rattle.net.specs.Records.{row_at, row_for, tuple_at, node_at, address_of, zero_tuple, zero_node, all_rights, alike}
use Rattle.net.specs.Records.{with_variable, with_rights, with_rows, with_process, with_node, with_counts}
use Rattle.net.specs.Records.{moved_to, copied_to, sent_from, after_taking, without_tuple}
use Rattle.net.specs.Groups.{member}
use Rattle.sound.specs.Soundness.{value_sound}
use Rattle.net.proofs.Every.{chosen, chosen_lt, Every, every_set, every_weaken, Filled, filled_set, filled_add, filled_map}
use Rattle.net.proofs.Past.{past_tuple}
use Rattle.net.proofs.FoldLaws.{fold_keeps}
use Rattle.net.proofs.ReadingLaws.{never}
use Rattle.sound.proofs.NodeFacts.{TupleOk, RowOk, RowsOk, Running, ProcessOk, NodeOk}
use Rattle.sound.proofs.NodeChanges.{runs, zero_row_law, alike_rows, other_row, zero_node_law, with_rows_law, with_process_law, with_tuple_law}
use Rattle.sound.proofs.MoreAddresses.{running_more, rows_more, node_more, instruction_more}
use Rattle.sound.proofs.NetFacts.{NetOk}
use Rattle.sound.proofs.NetChanges.{node_at_law, with_node_law}
use Rattle.step.specs.Types.{Locality, Group, Value, Tuple, Row, Process, Node, Place, Net}
use Rattle.step.specs.Pick.{with_host, added, added_all, taken, opened, unused, created_at, created}
use Rattle.plans.specs.Additions.{gaining, own_row, opened_rows, creator_rows}

-- an array set anew at each place
pub set_each :
    {A : Type 0} (d : A) (size : ℕ) (f : ℕ → A) (xs : List A) → length xs ≡ size
    → Every (λ j x. x ≡ f j) d size (fold size (λ j ys. set ys j (f j)) xs)
set_each d size f xs l =
    let e = fold_keeps (λ i. Every (λ j x. j < i → x ≡ f j) d size) (λ j ys. set ys j (f j)) xs size
    (record { size_is = l; holds = λ j h g. absurd (omega arith) })
    (λ i ys h q. every_set i (f i) q (λ j x n g m. g (omega arith)) (λ m. refl)) in
    record { size_is = e.size_is; holds = λ j h. e.holds j h h }

-- ---- a process that runs
module _ (n k : ℕ) (p : Process) (r : Running n k p) where
  pub moved : (q : Place) → q.0 < k → Running n k (moved_to p q)
  unfolding moved_to
  moved q h = record { is_busy = r.is_busy; place = h; origin_ok = r.origin_ok; values = r.values }

  pub copied : (q : Place) → q.0 < k → Running n k (copied_to p q)
  unfolding copied_to
  copied q h = record { is_busy = refl; place = h; origin_ok = r.origin_ok; values = r.values }

  pub sent_from_law : (a : Locality) (q : Place) → a.0 < n → q.0 < k → Running n k (sent_from a p q)
  unfolding sent_from
  sent_from_law a q g h = record { is_busy = refl; place = h; origin_ok = g; values = r.values }

  with_variable_law : (v : ℕ) (x : Value) → value_sound n x ≡ true → Running n k (with_variable p v x)
  unfolding with_variable
  with_variable_law v x h = record {
    is_busy = r.is_busy;
    place = r.place;
    origin_ok = r.origin_ok;
    values = every_set v _ r.values (λ j y d e. e) h;
  }

-- ---- a node from which a tuple is taken
module _ (f n k : ℕ) (x : Node) (ok : NodeOk f n k x) (i : ℕ) (h : i < x.stored) where
  after_taking_law : (j : ℕ) → Filled (TupleOk n) (λ t. t ≡ zero_tuple) (x.stored - 1) j (after_taking x i j)
  unfolding after_taking tuple_at
  after_taking_law j =
      let room : x.stored ≤ 16 = ok.room in
      chosen_lt (Filled (TupleOk n) (λ t. t ≡ zero_tuple) (x.stored - 1) j) j i _ _
      (λ l. record {
        used = λ u. (ok.tuples_ok.holds j (omega arith)).used (omega arith);
        unused = λ u. absurd (omega arith);
      })
      (λ l. chosen_lt (Filled (TupleOk n) (λ t. t ≡ zero_tuple) (x.stored - 1) j) j 15 _ _
      (λ m. record {
        used = λ u. (ok.tuples_ok.holds (j + 1) (omega arith)).used (omega arith);
        unused = λ u. (ok.tuples_ok.holds (j + 1) (omega arith)).unused (omega arith);
      })
      (λ m. record { used = λ u. absurd (omega arith); unused = λ u. refl }))

  without_tuple_law : NodeOk f n k (without_tuple x i)
  unfolding without_tuple
  without_tuple_law = record {
    rows_ok = ok.rows_ok;
    processes_ok = ok.processes_ok;
    room = omega (arith, ok.room);
    tuples_ok = every_weaken (set_each past_tuple 16 (after_taking x i) x.tuples ok.tuples_ok.size_is)
        (λ j t e. rw e (after_taking_law j));
  }

-- ---- a net
module _ (s : Net) (ok : NetOk s) where
  pub with_host_law :
      (a : Locality) (i : ℕ) (p : Process) → a.0 < s.addresses → ProcessOk s.addresses s.length p
      → NetOk (with_host s a i p)
  unfolding with_host with_node
  with_host_law a i p h g = with_node_law s ok a _ h (with_process_law _ _ _ _ (node_at_law s ok a h) i p g)

  pub added_kept : (l : Locality) (t : Tuple) → l.0 < s.addresses → TupleOk s.addresses t → NetOk (added s l t)
  unfolding added with_node
  added_kept l t h g = with_node_law s ok l _ h (with_tuple_law _ _ _ _ (node_at_law s ok l h) t g)

  pub taken_kept : (l : Locality) (i : ℕ) → l.0 < s.addresses → i < (node_at s l).stored → NetOk (taken s l i)
  unfolding taken with_node
  taken_kept l i h g = with_node_law s ok l _ h (without_tuple_law _ _ _ _ (node_at_law s ok l h) i g)

-- a tuple added at each member of a set of addresses in use
module _
    (s : Net) (ok : NetOk s) (g : Group) (t : Tuple) (used : (l : Locality) → member g l ≡ true → l.0 < s.addresses)
    (tuple_ok : TupleOk s.addresses t)
  where
    record SameCount (s' : Net) : Type 0 where
      count_is : s.addresses ≡ s'.addresses
      net_ok : NetOk s'

    added_more : (s' : Net) (l : Locality) → SameCount s' → member g l ≡ true → SameCount (added s' l t)
    unfolding added with_node
    added_more s' l h m = record {
      count_is = h.count_is;
      net_ok =
          added_kept s' h.net_ok l t (omega (arith, used l m, h.count_is))
          (subst (λ (n : ℕ). TupleOk n t) h.count_is tuple_ok);
    }

    pub added_all_kept : NetOk (added_all s g t)
    unfolding added_all
    added_all_kept =
        (fold_keeps (λ _. SameCount) _ s 16 (record { count_is = refl; net_ok = ok })
        (λ i s' _ h. chosen SameCount (member g (address_of i)) _ _ (added_more s' (address_of i) h) (λ _. h))).net_ok

-- ---- one address more: the rows of the creator, and of the new node
gaining_ok : (n : ℕ) (r : Row) → RowOk n r → RowOk (n + 1) (gaining r (address_of n))
unfolding gaining with_rights
gaining_ok n r e = filled_add all_rights tt e

module _ (f n : ℕ) (x : Node) (ok : RowsOk f n x.rows) (p : Process) where
  row_for_ok : RowOk n (row_for x p)
  unfolding row_for row_at
  row_for_ok = chosen_lt (RowOk n) p.origin.0 16 _ _ (ok.each_ok.holds _) (λ h. zero_row_law n)

  own_row_ok : (a : Locality) → RowOk n (own_row x a)
  unfolding own_row row_at
  own_row_ok a = chosen_lt (RowOk n) a.0 16 _ _ (ok.each_ok.holds _) (λ h. zero_row_law n)

  more_rows : RowsOk f (n + 1) x.rows
  more_rows = rows_more n (n + 1) (omega arith) f x.rows ok

  -- format 1
  gained_ok : eqb f 1 ≡ true → RowsOk f (n + 1) (alike (gaining (row_for x p) (address_of n)))
  gained_ok e = alike_rows f (n + 1) _ (gaining_ok n _ row_for_ok) (λ g. never (sym g ∙ e))

  creator_rows_ok : p.origin.0 < n → RowsOk f (n + 1) (creator_rows f x p (address_of n))
  unfolding creator_rows
  creator_rows_ok h =
      chosen (RowsOk f (n + 1)) (eqb f 1) _ _ gained_ok
      (λ e. other_row f (n + 1) _ p.origin.0 _ e (omega arith) (gaining_ok n _ row_for_ok) more_rows)

  opened_rows_ok : (a : Locality) → a.0 < n → RowsOk f (n + 1) (opened_rows f x a p (address_of n))
  unfolding opened_rows
  opened_rows_ok a h =
      chosen (RowsOk f (n + 1)) (eqb f 1) _ _ gained_ok
      (λ e. let own = gaining_ok n _ (own_row_ok a) in
      other_row f (n + 1) _ n _ e (omega arith) own (other_row f (n + 1) _ a.0 _ e (omega arith) own more_rows))

module _
    (s : Net) (ok : NetOk s) (a : Locality) (i : ℕ) (p : Process) (v : ℕ) (q : Place) (hosted : a.0 < s.addresses)
    (room : s.addresses < 16) (running : Running s.addresses s.length p) (next : q.0 < s.length)
  where
    more : s.addresses ≤ s.addresses + 1
    more = omega arith

    creator :
        NodeOk s.format (s.addresses + 1) s.length
        (with_rows
        (with_process (node_at s a) i (moved_to (with_variable p v (Value.Address (unused s))) q))
        (creator_rows s.format (node_at s a) p (unused s)))
    unfolding value_sound unused
    creator =
        let f : ℕ = s.format in
        let n : ℕ = s.addresses in
        let k : ℕ = s.length in
        let here = node_at_law s ok a hosted in
        let p-more = running_more n (n + 1) more k p running in
        with_rows_law f (n + 1) k _
        (with_process_law f (n + 1) k _ (node_more n (n + 1) more f k _ here) i _
        (runs (n + 1) k _
        (moved (n + 1) k _ (with_variable_law (n + 1) k p p-more v _ (lt-ltb n (n + 1) (omega arith))) q next)))
        _ (creator_rows_ok f n _ here.rows_ok p running.origin_ok)

    pub created_kept : NetOk (created s a i p v q)
    unfolding created created_at unused opened with_node with_counts
    created_kept =
        let f : ℕ = s.format in
        let n : ℕ = s.addresses in
        let k : ℕ = s.length in
        record {
          format_least = ok.format_least;
          format_most = ok.format_most;
          addresses_least = omega arith;
          addresses_most = omega arith;
          length_least = ok.length_least;
          length_most = ok.length_most;
          nodes_ok =
              filled_add _
              (with_rows_law f (n + 1) k zero_node (zero_node_law f (n + 1) k) _
              (opened_rows_ok f n _ (node_at_law s ok a hosted).rows_ok p a hosted))
              (filled_set a.0 _ hosted creator
              (filled_map (node_more n (n + 1) more f k) (λ x e. e) ok.nodes_ok));
          code_ok = filled_map (instruction_more n (n + 1) more f k) (λ c e. e) ok.code_ok;
        }
