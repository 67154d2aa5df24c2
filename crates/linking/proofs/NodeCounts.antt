-- The nodes of a net have what its lines have at their addresses (`specs/NodeCounts.antt`), line after line. Assumes nothing.
use Prim.Native.Nat.{ℕ, suc, ◌+◌, ◌<◌, ◌≤◌}
use mathlib.Core.Path.{◌≡◌, refl, sym, ap, subst, subst₂, ◌∙◌}
use mathlib.Core.Logic.{◌≢◌}
use mathlib.Core.Bool.{false}
use mathlib.Core.List.{List, [], ◌∷◌, ◌++◌}
use native.Mathlib.Omega.{arith}
use lib.ListN.{length, set}
use lib.Dec.{eqb}
use borrow.Author.Tests.{lt-ltb, le-ltb, eq-eqb, ne_eqb}
use Rattle.net.specs.Choice.{choose}
use Rattle.net.specs.Records.{starting_at, free_process, zero_node, empty_net, process_at, node_at, address_of, process_count}
use Rattle.net.specs.Records.{marked, with_node, with_rows, with_process, with_tuple, with_counts, with_format}
use Rattle.net.proofs.Laws.{choose_true, choose_false}
use Rattle.net.proofs.Every.{Every, chosen_lt, every_replicate, every_set, filled_add}
use Rattle.net.proofs.Past.{past_process, past_node}
use Rattle.net.proofs.SlotLaws.{FirstBusy, slot_busy, slots_counted}
use Rattle.terms.specs.Terms.{Process}
use Rattle.terms.specs.Numbering.{Start}
use Rattle.linking.specs.Types.{Locality, Place, Tuple, Row, Node, Net}
use Rattle.linking.specs.Source.{Line, definition, process, tuple, Policy}
use Rattle.linking.specs.NodeCounts.{Holds, Counts, HasRoom}
use Rattle.linking.specs.Counts.{processes_in, tuples_in, counted}
use Rattle.linking.specs.Compiled.{total, addresses_of, rows_of, format_of, ruled, placed, peopled, unruled, governed}
use Rattle.linking.proofs.Peopled.{peopled_more}
use Rattle.linking.proofs.Governed.{length_rows}

-- ---- a node

-- whose first c slots are the busy ones
holds_first : (c m : ℕ) (x : Node) → FirstBusy c x → c ≤ 4 → x.stored ≡ m → m ≤ 16 → Holds c m x
holds_first c m x busy few e room = record {
  size_is = busy.size_is;
  processes = slots_counted x c busy few;
  slots = slot_busy x c busy;
  stored = e;
  few_processes = few;
  few_tuples = room;
}

holds_as : {c d m k : ℕ} {x : Node} → c ≡ d → m ≡ k → Holds c m x → Holds d k x
holds_as {x} e f ok = subst₂ (λ (i j : ℕ). Holds i j x) e f ok

module _ (c m : ℕ) (x : Node) (ok : Holds c m x) where
  first_busy : FirstBusy c x
  unfolding process_at
  first_busy = record {
    size_is = ok.size_is;
    holds = λ j h. record { used = λ l. ok.slots j h ∙ lt-ltb j c l; unused = λ l. ok.slots j h ∙ le-ltb j c l };
  }

  holds_process : (a : Locality) (q : Place) → c < 4 → Holds (c + 1) m (with_process x (process_count x) (starting_at a q))
  unfolding with_process starting_at
  holds_process a q h =
      subst (λ (i : ℕ). Holds (c + 1) m (with_process x i (starting_at a q))) (sym ok.processes)
      (holds_first (c + 1) m _ (filled_add _ refl first_busy) (omega arith) ok.stored ok.few_tuples)

  holds_tuple : (t : Tuple) → m < 16 → Holds c (m + 1) (with_tuple x t)
  unfolding with_tuple process_count process_at
  holds_tuple t h =
      chosen_lt (Holds c (m + 1)) x.stored 16 _ _
      (λ _. record {
        size_is = ok.size_is;
        processes = ok.processes;
        slots = ok.slots;
        stored = omega (arith, ok.stored);
        few_processes = ok.few_processes;
        few_tuples = omega arith;
      })
      (λ l. absurd (omega (arith, ok.stored)))

-- ---- one line more
counted_more : (f : Line → ℕ) (ls : List Line) (l : Line) → counted f (ls ++ (l ∷ [])) ≡ counted f ls + f l
unfolding counted
counted_more f [] l = omega arith
counted_more f (x ∷ ls) l = ap (λ (c : ℕ). f x + c) (counted_more f ls l) ∙ omega arith

abbrev one_at : Locality → Locality → ℕ
one_at a b = choose (eqb a.0 b.0) 1 0

one_there : (a : Locality) → one_at a a ≡ 1
one_there a = choose_true _ _ _ (eq-eqb a.0 a.0 refl)

none_elsewhere : (a b : Locality) → a.0 ≢ b.0 → one_at a b ≡ 0
none_elsewhere a b d = choose_false _ _ _ (ne_eqb a.0 b.0 d)

-- each node has what the lines have at its address
abbrev Nodes : List Line → Net → Type 0
Nodes ls s = Every (λ i. Holds (counted (processes_in (address_of i)) ls) (counted (tuples_in (address_of i)) ls)) past_node 16 s.nodes

nodes_count : (ls : List Line) (s : Net) → Nodes ls s → Counts ls s
unfolding node_at
nodes_count ls s each = record { nodes_are = each.size_is; at = λ a h. each.holds a.0 h }

module _ (ls : List Line) (s : Net) (ok : Counts ls s) where
  nodes : Nodes ls s
  unfolding node_at
  nodes = record { size_is = ok.nodes_are; holds = λ i u. ok.at (address_of i) u }

  -- a line that has something at address b alone, whose node is set anew
  module _ (l : Line) (b : Locality) where
    -- what the node of an address has after it
    abbrev Next : ℕ → Node → Type 0
    Next i =
        Holds (counted (processes_in (address_of i)) ls + processes_in (address_of i) l)
        (counted (tuples_in (address_of i)) ls + tuples_in (address_of i) l)

    node_set :
        (x : Node) → ((a : Locality) → a.0 ≢ b.0 → processes_in a l ≡ 0) → ((a : Locality) → a.0 ≢ b.0 → tuples_in a l ≡ 0)
        → Next b.0 x → Counts (ls ++ (l ∷ [])) (with_node s b x)
    unfolding with_node node_at
    node_set x f g h =
        let after : Every Next past_node 16 (set s.nodes b.0 x) =
        every_set b.0 x nodes
        (λ i y d e. holds_as (omega (arith, f (address_of i) d)) (omega (arith, g (address_of i) d)) e) h in
        record {
          nodes_are = after.size_is;
          at = λ a u.
              holds_as (sym (counted_more (processes_in a) ls l)) (sym (counted_more (tuples_in a) ls l)) (after.holds a.0 u);
        }

  pub counts_definition : (k : ℕ) (p : Process) → Counts (ls ++ (definition k p ∷ [])) s
  unfolding processes_in tuples_in
  counts_definition k p = record {
    nodes_are = ok.nodes_are;
    at = λ a u.
        holds_as (omega (arith, counted_more (processes_in a) ls (definition k p))) (omega (arith, counted_more (tuples_in a) ls (definition k p)))
        (ok.at a u);
  }

  module _ (place : Start → Place) (n : ℕ) (b : Locality) (h : b.0 < 16) where
    pub counts_process :
        (p : Process) → counted (processes_in b) ls < 4 → Counts (ls ++ (process b p ∷ [])) (placed place n (process b p) s)
    unfolding placed processes_in tuples_in
    counts_process p r =
        node_set (process b p) b _ (λ a d. none_elsewhere a b d) (λ a d. refl)
        (holds_as (omega (arith, one_there b)) (omega arith) (holds_process _ _ _ (ok.at b h) _ _ r))

    pub counts_tuple :
        (t : Tuple) → counted (tuples_in b) ls < 16 → Counts (ls ++ (tuple b t ∷ [])) (placed place n (tuple b t) s)
    unfolding placed processes_in tuples_in
    counts_tuple t r =
        node_set (tuple b t) b _ (λ a d. refl) (λ a d. none_elsewhere a b d)
        (holds_as (omega arith) (omega (arith, one_there b)) (holds_tuple _ _ _ (ok.at b h) (marked b t) r))

pub counts_more :
    (ls : List Line) (s : Net) → Counts ls s → (place : Start → Place) (n : ℕ) (l : Line) → HasRoom ls l
    → Counts (ls ++ (l ∷ [])) (placed place n l s)
unfolding HasRoom placed
counts_more ls s ok place n (definition k p) h = counts_definition ls s ok k p
counts_more ls s ok place n (process a p) h = counts_process ls s ok place n a h.0 p h.1
counts_more ls s ok place n (tuple a t) h = counts_tuple ls s ok place n a h.0 t h.1

-- ---- all lines, each of which finds room after those before it
pub data AllRoom : List Line → Type 0 where
  no_lines : AllRoom []
  more_lines : (ls : List Line) (l : Line) → AllRoom ls → HasRoom ls l → AllRoom (ls ++ (l ∷ []))

pub counts_all :
    (s : Net) → Counts [] s → (place : Start → Place) (ls : List Line) → AllRoom ls → Counts ls (peopled place 0 ls s)
unfolding peopled
counts_all s none place [] no_lines = none
counts_all s none place _ (more_lines ls l ok h) =
    rw (peopled_more place 0 ls l s) (counts_more ls _ (counts_all s none place ls ok) place (0 + total ls) l h)

-- ---- a net that has rows alone
holds_zero : Holds 0 0 zero_node
unfolding zero_node free_process
holds_zero =
    holds_first 0 0 zero_node
    (every_replicate _ past_process 4 free_process (λ j h. record { used = λ l. absurd (omega arith); unused = λ _. refl }))
    (omega arith) refl (omega arith)

holds_rows : (c m : ℕ) (x : Node) → Holds c m x → (rs : List Row) → Holds c m (with_rows x rs)
unfolding with_rows process_at process_count
holds_rows c m x ok rs = record {
  size_is = ok.size_is;
  processes = ok.processes;
  slots = ok.slots;
  stored = ok.stored;
  few_processes = ok.few_processes;
  few_tuples = ok.few_tuples;
}

pub counts_ruled : (ls : List Line) (i : ℕ) (rss : List (List Row)) (s : Net) → i + length rss ≤ 16 → Counts ls s → Counts ls (ruled i rss s)
unfolding ruled with_node
counts_ruled ls i [] s h ok = ok
counts_ruled ls i (rs ∷ rss) s h ok =
    let here = ok.at (address_of i) (omega arith) in
    counts_ruled ls (suc i) rss _ (omega arith)
    (nodes_count _ _ (every_set i _ (nodes ls s ok) (λ j y d e. e) (holds_rows _ _ _ here _)))

module _ (x : Policy) (k : ℕ) (few : addresses_of x ≤ 16) where
  pub counts_governed : Counts [] (governed x k)
  unfolding governed unruled with_counts with_format empty_net counted
  counts_governed =
      counts_ruled [] 0 (rows_of x) (unruled (format_of x) (addresses_of x) k) (omega (arith, length_rows x))
      (nodes_count _ _ (every_replicate _ past_node 16 zero_node (λ i _. holds_zero)))

  pub none_busy : (a : Locality) (j : ℕ) → a.0 < 16 → j < 4 → (process_at (node_at (governed x k) a) j).busy ≡ false
  unfolding counted
  none_busy a j h l = (counts_governed.at a h).slots j l ∙ le-ltb j 0 (omega arith)

  pub start_counts : (s : Net) → s ≡ governed x k → Counts [] s
  start_counts s e = subst (Counts []) (sym e) counts_governed
