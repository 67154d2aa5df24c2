-- A sound net of format 1: the rows of a node are all as its first, and every origin is that of a row, so that the row by which a
-- process is judged is the first, whatever its origin. Assumes nothing.
use Prim.Native.Nat.{ℕ, ◌<◌, ◌≤◌}
use mathlib.Core.Path.{◌≡◌, refl, sym, ap, subst, ◌∙◌}
use mathlib.Core.Bool.{Bool, true, false}
use native.Mathlib.Omega.{arith}
use native.Mathlib.Decide.{dec_le}
use lib.ListN.{get_or-eq_default}
use borrow.Author.Tests.{eq-eqb}
use Rattle.net.specs.Records.{free_process, alike, zero_node, node_at, row_at, process_at, row_for, sent_from, address_of}
use Rattle.net.proofs.Laws.{choose_true}
use Rattle.net.proofs.Every.{filled_each}
use Rattle.net.proofs.NodeLaws.{row_in_law}
use Rattle.net.proofs.Past.{past_process, past_node}
use Rattle.sound.proofs.NodeFacts.{of_zero, ProcessOk, NodeOk}
use Rattle.sound.proofs.NodeChanges.{zero_node_law}
use Rattle.sound.proofs.NetFacts.{NetOk}
use Rattle.plans.specs.Additions.{gaining, opened_rows, creator_rows}
use Rattle.step.specs.Types.{Place, Row}
use Rattle.origins.specs.Types.{Locality, Process, Node, Net}
use Rattle.origins.proofs.Forgetting.{forget_process}

-- a node's row for origin 0
unfoldable pub first_row : Node → Row
first_row x = row_at x (address_of 0)

pub record OneRowNode (x : Node) : Type 0 where
  pub as_first : (o : Locality) → o.0 < 16 → row_at x o ≡ first_row x
  pub low : (k : ℕ) → (process_at x k).origin.0 < 16

pub record OneRow (s : Net) : Type 0 where
  pub format_is : s.format ≡ 1
  pub few : s.addresses ≤ 16
  pub nodes : (a : Locality) → OneRowNode (node_at s a)

-- ---- what it is for: the row of each process
pub row_only :
    (s : Net) (a : Locality) (p : Process) → OneRow s → p.origin.0 < 16 → row_for (node_at s a) p ≡ first_row (node_at s a)
row_only s a p one low = sym (row_in_law (node_at s a) p low) ∙ (one.nodes a).as_first p.origin low

-- of code that a sends
pub row_sent :
    (s : Net) (a l : Locality) (p : Process) (q : Place) → OneRow s → a.0 < 16
    → row_for (node_at s l) (sent_from a p q) ≡ first_row (node_at s l)
unfolding sent_from
row_sent s a l p q one low = row_only s l (sent_from a p q) one low

-- and of a process whose origin is forgotten
pub row_forgotten : (x : Node) (p : Process) → row_for x (forget_process p) ≡ first_row x
unfolding row_for forget_process first_row
row_forgotten x p = choose_true _ _ _ refl

-- ---- the rows that a new writes
module _ (f : ℕ) (x : Node) (p : Process) (l : Locality) (e : f ≡ 1) where
  pub creator_alike : creator_rows f x p l ≡ alike (gaining (row_for x p) l)
  unfolding creator_rows
  creator_alike = choose_true _ _ _ (eq-eqb f 1 e)

  pub opened_alike : (a : Locality) → opened_rows f x a p l ≡ alike (gaining (row_for x p) l)
  unfolding opened_rows
  opened_alike a = choose_true _ _ _ (eq-eqb f 1 e)

-- ---- a sound net is one
origin_low : (n k : ℕ) (p : Process) → n ≤ 16 → ProcessOk n k p → p.origin.0 < 16
unfolding free_process
origin_low n k p most ok = go p.busy refl
  where
    go : (b : Bool) → p.busy ≡ b → p.origin.0 < 16
    go true e = omega (arith, (ok.running e).origin_ok)
    go false e = omega (arith, ap (λ (q : Process). q.origin.0) (ok.free e))

used_node : (f n k : ℕ) (x : Node) → f ≡ 1 → n ≤ 16 → NodeOk f n k x → OneRowNode x
unfolding first_row row_at process_at
used_node f n k x e most ok = record {
  as_first = λ o h. ok.rows_ok.as_first (eq-eqb f 1 e) o.0 h;
  low = λ i. go i (dec_le 4 i);
}
  where
    go : (i : ℕ) → Dec (4 ≤ i) → (process_at x i).origin.0 < 16
    go i (yes past) =
        let size = ok.processes_ok.size_is in
        let e : process_at x i ≡ past_process = get_or-eq_default x.processes past_process (omega (arith, size)) in
        omega (arith, ap (λ (q : Process). q.origin.0) e)
    go i (no within) = origin_low n k _ most (ok.processes_ok.holds i (omega arith))

past_node_law : OneRowNode past_node
unfolding first_row row_at process_at
past_node_law = record { as_first = λ o h. refl; low = λ k. omega arith }

pub one_row : (s : Net) → NetOk s → s.format ≡ 1 → OneRow s
unfolding node_at
one_row s ok e = record { format_is = e; few = ok.addresses_most; nodes = λ a. go a (dec_le 16 a.0) }
  where
    go : (a : Locality) → Dec (16 ≤ a.0) → OneRowNode (node_at s a)
    go a (yes past) =
        subst OneRowNode (sym (get_or-eq_default s.nodes past_node (omega (arith, ok.nodes_ok.size_is)))) past_node_law
    go a (no within) =
        filled_each ok.nodes_ok (λ x n. used_node s.format s.addresses s.length x e ok.addresses_most n)
        (of_zero OneRowNode (used_node 1 1 1 zero_node refl (omega arith) (zero_node_law 1 1 1))) a.0 (omega arith)
