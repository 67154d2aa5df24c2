-- The processes of a node (`Image.antt` of `image`, `specs/ImageOf.antt`, 3): what is read is what is written.
-- Assumes nothing.
use Prim.Native.Nat.{ℕ, ◌<◌, ◌≤◌}
use mathlib.Core.Path.{◌≡◌, refl, sym, ap, ◌∙◌}
use mathlib.Core.List.{List, ◌++◌}
use native.Mathlib.Omega.{arith}
use lib.ListN.{get_or, set, replicate, length-replicate, get_or-replicate}
use lib.Seq.{set-get_or, set-set}
use Rattle.written.specs.Types.{Locality, Place, Tuple, Row, Process, Node}
use Rattle.net.specs.Records.{starting_at, free_process, zero_tuple, process_at, process_count}
use Rattle.net.specs.Records.{with_process}
use Rattle.image.specs.Image.{row, process, processes, stored, tuples}
use Rattle.written.specs.ImageOf.{bits_of, place_bits, processes_bits}
use Rattle.text.specs.Joined.{joined}
use Rattle.net.proofs.Every.{Every, Filled, filled_map}
use Rattle.net.proofs.SlotLaws.{FirstBusy, slots_counted}
use Rattle.net.proofs.Past.{past_process}
use Rattle.written.proofs.ReadsWrites.{Reads, reads_then, reads_field}
use Rattle.written.proofs.ReadsCells.{Arrayed, Through, Filling, reads_turn, reads_cells}
use Rattle.written.proofs.ReadsCells.{rewritten_filled, filled_rewritten}
use Rattle.written.proofs.WrittenFields.{reads_place}

-- a process of the node at address a, whose origin is that node
pub record Starts (a : Locality) (k : ℕ) (p : Process) : Type 0 where
  pub first : Place
  pub within : first.0 < k
  pub is : starting_at a first ≡ p

-- c processes fill slots 0 upward
pub record ProcessesOk (a : Locality) (k c : ℕ) (x : Node) : Type 0 where
  pub few : c ≤ 4
  pub slots_ok : Every (Filled (Starts a k) (λ p. free_process ≡ p) c) past_process 4 x.processes

-- a node is what its parts are
pub node_is : (x : Node) (rs : List Row) (ps : List Process) (m : ℕ) (ts : List Tuple) → rs ≡ x.rows → ps ≡ x.processes
    → m ≡ x.stored → ts ≡ x.tuples → record { rows = rs; processes = ps; stored = m; tuples = ts } ≡ x
node_is x rs ps m ts a b c d = λ i. record { rows = a i; processes = b i; stored = c i; tuples = d i }

-- a node with its rows and its processes, and no tuple
unfoldable pub bare_node : List Row → List Process → Node
bare_node rs ps = record { rows = rs; processes = ps; stored = 0; tuples = replicate 16 zero_tuple }

abbrev processes_in : Locality → ℕ → List Row → Arrayed Node Process
processes_in a k rs = record {
  cells = λ x. x.processes;
  put = λ i x p. with_process x i p;
  cut = λ i x p. with_process x i p;
  past = past_process;
  Good = λ i. Starts a k;
  undo = λ p. free_process;
  Frame = λ i x. bare_node rs x.processes ≡ x;
  Extra = λ i x p. Unit {0};
  size = 4;
}

-- a node whose processes are replaced
replaced : (rs : List Row) (x : Node) (i : ℕ) (p : Process) → bare_node rs x.processes ≡ x
    → bare_node rs (set x.processes i p) ≡ with_process x i p
unfolding with_process bare_node
replaced rs x i p e = ap (λ (y : Node). with_process y i p) e

-- the processes of a node that has none
abbrev pub free : List Process
free = replicate 4 free_process

start : List Row → Node
start rs = bare_node rs free

module _ (a : Locality) (k : ℕ) (rs : List Row) (h : k ≤ 512) where
  filling_processes : (c : ℕ) → c ≤ 4 → Filling (processes_in a k rs) (start rs) (process a k) c (λ p. place_bits p.at)
  unfolding process start with_process bare_node starting_at
  filling_processes c l = record {
    room = l;
    size_is = length-replicate 4 free_process;
    begins = refl;
    starts = λ x e d. ap (bare_node rs) d ∙ e;
    turn = λ i m x e b s.
        reads_turn (processes_in a k rs) (start rs) i x (λ p. place_bits p.at) (starting_at a) (omega arith) (λ p. refl)
        (reads_place k h)
        (λ p g. (
          record { first = p; within = g; is = refl },
          sym (get_or-replicate 4 i free_process past_process (omega arith)),
          tt,
        ))
        (λ p g. refl) (λ p g _ _. (g.first, g.within, g.is));
    put_cells = λ i m x p e. refl;
    put_frame = λ i m x p e s _. replaced rs x i p e;
    cut_cells = λ i m x p. refl;
    cut_frame = λ i m x p e. replaced rs x i p e;
    cut_extra = λ i m x p e. tt;
    put_cut = λ i m x p e.
        ap (λ y. record { rows = x.rows; processes = y; stored = x.stored; tuples = x.tuples })
        (set-set x.processes i p (get_or x.processes i past_process) ∙ set-get_or x.processes i past_process);
  }

-- the first slots are the busy ones
module _ (a : Locality) (k c : ℕ) (x : Node) (ok : ProcessesOk a k c x) where
  pub first_busy : FirstBusy c x
  unfolding starting_at free_process
  first_busy =
      filled_map (λ p s. ap (λ (q : Process). q.busy) (sym s.is)) (λ p e. ap (λ (q : Process). q.busy) (sym e))
      ok.slots_ok

  pub count_is : process_count x ≡ c
  count_is = slots_counted x c first_busy ok.few

-- a node whose rows alone were read becomes one with processes
pub record Peopled (a : Locality) (k : ℕ) (rs : List Row) (x : Node) : Type 0 where
  pub count : ℕ
  pub slots : ProcessesOk a k count x
  pub bare : bare_node rs x.processes ≡ x

module _ (a : Locality) (k : ℕ) (rs : List Row) (h : k ≤ 512) where
  through_processes : (c : ℕ) (x : Node) → c < 5 → Through (processes_in a k rs) (start rs) c x → ProcessesOk a k c x
  unfolding start bare_node
  through_processes c x l g = record { few = omega arith; slots_ok = rewritten_filled refl g.cells_ok }

  processes_through : (x : Node) (g : Peopled a k rs x) → Through (processes_in a k rs) (start rs) g.count x
  unfolding start bare_node
  processes_through x g = record { frame = g.bare; cells_ok = filled_rewritten refl g.slots.slots_ok }

  pub reads_processes : Reads (processes a k (bare_node rs free)) processes_bits (Peopled a k rs)
  unfolding processes processes_bits process_at start
  reads_processes =
      reads_then (reads_field 3 0 5 22 (omega arith))
      (λ c l. reads_cells (processes_in a k rs) (start rs) (process a k) c (λ p. place_bits p.at)
      (filling_processes a k rs h c (omega (arith, l.below))))
      (record {
        keeps = λ c x l g. record { count = c; slots = through_processes c x l.below g; bare = g.frame };
        writes = λ c x l g.
            ap (λ (m : ℕ). bits_of 3 m ++ joined m (λ i. place_bits (get_or x.processes i past_process).at))
            (count_is a k c x (through_processes c x l.below g));
        parts = λ x g.
            (g.count, record { above = omega arith; below = omega (arith, g.slots.few) }, processes_through x g);
      })
