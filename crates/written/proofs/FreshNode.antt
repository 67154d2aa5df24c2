-- A sound node (`NodeFacts.antt` of `sound`) that passes the tests of `specs/Fresh.antt` is one that an image can write
-- (`WrittenStages.antt`).
-- Assumes nothing.
use Prim.Native.Nat.{ℕ, zero, suc, ◌+◌, ◌<◌, ◌≤◌}
use mathlib.Core.Path.{◌≡◌, sym, ap}
use mathlib.Core.Bool.{true, false, not}
use native.Mathlib.Omega.{arith}
use lib.Dec.{ltb, eqb}
use borrow.Author.Tests.{lt-ltb, le-ltb, eqb-true, not-true}
use Rattle.net.specs.Choice.{choose, fold}
use Rattle.net.specs.Records.{starting_at, field_at, process_at, tuple_at, address_of}
use Rattle.net.specs.Shape.{ShapedProcess}
use Rattle.written.specs.Types.{Locality, Tuple, Process, Node}
use Rattle.sound.specs.Soundness.{all_unset}
use Rattle.net.specs.Records.{process_count}
use Rattle.fresh.specs.Fresh.{tuple_fits, node_fits, slot_starts, node_starts, own_origin, own_origins, own_mark, own_marks}
use Rattle.net.proofs.Laws.{both_l, both_r, implies_e, choose_e, choose_else, all_e}
use Rattle.net.proofs.Every.{chosen, filled_at}
use Rattle.sound.proofs.ZeroClaims.{all_unset_law}
use Rattle.sound.proofs.NodeFacts as sound
use Rattle.written.proofs.WrittenTuples.{TupleOk}
use Rattle.written.proofs.WrittenPasses.{Slots}
use Rattle.written.proofs.WrittenProcesses.{Starts}
use Rattle.written.proofs.WrittenStages.{WithTuples}
use Rattle.written.proofs.FreshFits.{tuple_fit, node_fit}

-- ---- tuples
tuple_ok : (a : Locality) (n : ℕ) (t : Tuple) → tuple_fits t ≡ true → eqb t.mark.0 a.0 ≡ true → sound.TupleOk n t
    → TupleOk a n t
unfolding field_at
tuple_ok a n t f m ok = record {
  mark_is = ap (λ (l : ℕ). address_of l) (sym (eqb-true _ _ m));
  least = ok.least;
  most = ok.most;
  fields_ok = filled_at ok.fields_ok (λ j l e. record { sound = e; fits = (tuple_fit t f).each_item j l }) (λ x. sym);
}

-- ---- processes
count_small : (x : Node) (i : ℕ) → fold i (λ j count. choose (process_at x j).busy (count + 1) count) 0 ≤ i
unfolding fold
count_small x zero = omega arith
count_small x (suc i) =
    let h = count_small x i in
    chosen (λ (m : ℕ). m ≤ suc i) (process_at x i).busy _ _ (λ _. omega arith) (λ _. omega arith)

starts : (a : Locality) (n k : ℕ) (p : Process) → ShapedProcess p → sound.Running n k p → all_unset p ≡ true
    → eqb p.origin.0 a.0 ≡ true → Starts a k p
unfolding starting_at
starts a n k p shape r u o = record {
  first = p.at;
  within = r.place;
  is = λ d. record {
    busy = sym r.is_busy d;
    at = p.at;
    origin = record { 0 = sym (eqb-true p.origin.0 a.0 o) d };
    variables = sym (all_unset_law p shape u) d;
  };
}

module _ (f n k : ℕ) (x : Node) (fits : node_fits x ≡ true) (ok : sound.NodeOk f n k x) (s : node_starts x ≡ true) where
  slot : (i : ℕ) → i < 4 → slot_starts x i ≡ true
  unfolding node_starts
  slot i l = all_e 4 _ s i l

  busy_slot : (i : ℕ) → i < 4 → i < process_count x → (process_at x i).busy ≡ true
  unfolding slot_starts
  busy_slot i l u = choose_e (ltb i (process_count x)) _ _ (both_l _ _ (slot i l)) (lt-ltb i (process_count x) u)

  idle_slot : (i : ℕ) → i < 4 → process_count x ≤ i → (process_at x i).busy ≡ false
  unfolding slot_starts
  idle_slot i l u =
      not-true (process_at x i).busy
      (choose_else (ltb i (process_count x)) _ _ (both_l _ _ (slot i l)) (le-ltb i (process_count x) u))

  unset_slot : (i : ℕ) → i < 4 → all_unset (process_at x i) ≡ true
  unfolding slot_starts
  unset_slot i l =
      both_r (choose (ltb i (process_count x)) (process_at x i).busy (not (process_at x i).busy)) _ (slot i l)

  slots_ok : (a : Locality) → own_origins a x ≡ true → Slots a k x
  unfolding process_count process_at own_origins own_origin
  slots_ok a own = record {
    count = process_count x;
    slots = record {
      few = count_small x 4;
      slots_ok = record {
        size_is = ok.processes_ok.size_is;
        holds = λ i l. record {
          used = λ u.
              starts a n k _ ((node_fit x fits).shaped.each_process i l)
              ((ok.processes_ok.holds i l).running (busy_slot i l u)) (unset_slot i l)
              (implies_e (process_at x i).busy _ (all_e 4 _ own i l) (busy_slot i l u));
          unused = λ u. sym ((ok.processes_ok.holds i l).free (idle_slot i l u));
        };
      };
    };
  }

  pub node_ok : (a : ℕ) → own_origins (address_of a) x ≡ true → own_marks (address_of a) x ≡ true → WithTuples a f n k x
  unfolding own_marks own_mark tuple_at
  node_ok a sent own = record {
    rows_ok = ok.rows_ok;
    slots_ok = slots_ok (address_of a) sent;
    store_ok = record {
      few = ok.room;
      tuples_ok = record {
        size_is = ok.tuples_ok.size_is;
        holds = λ j l. record {
          used = λ u.
              tuple_ok (address_of a) n _ ((node_fit x fits).each_tuple j l)
              (implies_e (ltb j x.stored) _ (all_e 16 _ own j l) (lt-ltb j x.stored u))
              ((ok.tuples_ok.holds j l).used u);
          unused = λ u. sym ((ok.tuples_ok.holds j l).unused u);
        };
      };
    };
  }
