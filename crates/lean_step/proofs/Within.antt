-- Each process of a net keeps within its node's row for its origin: what the changes that a step makes leave of that (`Within`), and
-- that it is the computed test of a sound net (`admits` of `keeping`). Assumes nothing.
use Prim.Native.Nat.{ℕ, zero, suc, ◌<◌}
use mathlib.Core.Path.{◌≡◌, refl, sym, ap, ap₂, subst, ◌∙◌}
use mathlib.Core.Bool.{true, false}
use mathlib.Core.List.{List}
use native.Mathlib.Omega.{arith}
use native.Mathlib.Decide.{dec_lt}
use lib.Dec.{ltb}
use lib.ListN.{get_or, get_or-eq_default}
use Rattle.net.specs.Choice.{choose}
use Rattle.net.specs.Records.{node_at, process_at, instruction_at, row_at, row_for, zero_row, free_process, zero_node, with_node, with_rows}
use Rattle.net.specs.Records.{with_process, with_tuple, without_tuple, with_counts}
use Rattle.net.proofs.Every.{chosen}
use Rattle.net.proofs.Past.{past_row, past_process, past_node}
use Rattle.net.proofs.ReadingLaws.{never}
use Rattle.keeping.specs.Reaching.{Follows, Reaches, itself, onward}
use Rattle.keeping.specs.Keeping.{permits}
use Rattle.keeping.specs.Admission.{admits}
use Rattle.keeping.specs.AdmissionClaims.{AdmitsIsWithin}
use Rattle.keeping.proofs.AdmissionClaims.{admits_is_within}
use Rattle.sound.proofs.NetFacts.{NetOk}
use Rattle.sound.proofs.NetChanges.{node_at_law}
use Rattle.step.specs.Pick.{with_host, added, added_all, taken, opened}
use Rattle.step.proofs.EachMember.{all_kept}
use Rattle.step.proofs.Stores.{rows_same}
use Rattle.lean_step.specs.Types.{Locality, Place, Group, Tuple, Row, Process, Node, Instruction, Net}
use Rattle.lean_step.proofs.Covering.{at_set, Covers, permits_more, row_covers}

-- ---- what is kept

-- by the process p of the node x at address a
pub record Keeps (code : List Instruction) (a : Locality) (x : Node) (p : Process) : Type 0 where
  pub permitted :
      p.busy ≡ true → (q : Place) → Reaches code p.at q → permits (row_for x p) a (instruction_at code q).action ≡ true

pub record NodeWithin (code : List Instruction) (a : Locality) (x : Node) : Type 0 where
  pub each : (i : ℕ) → Keeps code a x (process_at x i)

pub record Within (s : Net) : Type 0 where
  pub at_each : (a : Locality) → NodeWithin s.code a (node_at s a)

-- ---- a process

-- the row by which it is judged
row_same : (x y : Node) (p r : Process) → x.rows ≡ y.rows → p.origin ≡ r.origin → row_for x p ≡ row_for y r
unfolding row_for row_at
row_same x y p r e o =
    ap₂ (λ (rows : List Row) (l : Locality). choose (ltb l.0 16) (get_or rows l.0 past_row) zero_row) e o

module _ (code : List Instruction) (a : Locality) where
  pub free_keeps : (x : Node) (p : Process) → p.busy ≡ false → Keeps code a x p
  free_keeps x p e = record { permitted = λ b q m. never (sym e ∙ b) }

  -- at a node with the same rows
  pub keeps_at : (x y : Node) (p : Process) → x.rows ≡ y.rows → Keeps code a x p → Keeps code a y p
  keeps_at x y p e h = record {
    permitted = λ b q m.
        ap (λ (row : Row). permits row a (instruction_at code q).action) (sym (row_same x y p p e refl)) ∙ h.permitted b q m;
  }

  through : {p q r : Place} → Reaches code p q → Reaches code q r → Reaches code p r
  through h itself = h
  through h (onward g f) = onward (through h g) f

  -- a process of the same origin that stands where p goes on
  pub keeps_on :
      (x : Node) (p r : Process) → (r.busy ≡ true → p.busy ≡ true) → r.origin ≡ p.origin
      → Follows r.at (instruction_at code p.at).action → Keeps code a x p → Keeps code a x r
  keeps_on x p r busy origin follows h = record {
    permitted = λ b q m.
        ap (λ (row : Row). permits row a (instruction_at code q).action) (row_same x x r p refl origin)
        ∙ h.permitted (busy b) q (through (onward itself follows) m);
  }

-- ---- a node
module _ (code : List Instruction) (a : Locality) (x : Node) (w : NodeWithin code a x) where
  pub process_within : (k : ℕ) (p : Process) → Keeps code a x p → NodeWithin code a (with_process x k p)
  unfolding with_process process_at
  process_within k p h =
      let y : Node = with_process x k p in
      record {
        each = λ i. at_set (Keeps code a y) x.processes k i p past_process (λ e. keeps_at code a x y p refl h)
            (keeps_at code a x y _ refl (w.each i));
      }

  tuple_within : (t : Tuple) → NodeWithin code a (with_tuple x t)
  unfolding with_tuple process_at
  tuple_within t =
      chosen (NodeWithin code a) (ltb x.stored 16) _ _ (λ _. record { each = λ i. keeps_at code a x _ _ refl (w.each i) }) (λ _. w)

  taking_within : (j : ℕ) → NodeWithin code a (without_tuple x j)
  unfolding without_tuple process_at
  taking_within j = record { each = λ i. keeps_at code a x _ _ refl (w.each i) }

  pub rows_within :
      (rows : List Row) → ((o : ℕ) → o < 16 → Covers (get_or x.rows o past_row) (get_or rows o past_row))
      → NodeWithin code a (with_rows x rows)
  unfolding with_rows process_at
  rows_within rows f = record {
    each = λ i. record {
      permitted = λ b q m. permits_more _ _ a (row_covers x rows (process_at x i) f) _ ((w.each i).permitted b q m);
    };
  }

-- the node of a new address has no process
zero_free : (i : ℕ) → (process_at zero_node i).busy ≡ false
unfolding process_at zero_node free_process
zero_free zero = refl
zero_free (suc zero) = refl
zero_free (suc (suc zero)) = refl
zero_free (suc (suc (suc zero))) = refl
zero_free (suc (suc (suc (suc i)))) = refl

pub new_within : (code : List Instruction) (a : Locality) (rows : List Row) → NodeWithin code a (with_rows zero_node rows)
unfolding process_at with_rows
new_within code a rows = record { each = λ i. free_keeps code a _ _ (zero_free i) }

-- ---- a net
pub node_within : (s : Net) → Within s → (a : Locality) (y : Node) → NodeWithin s.code a y → Within (with_node s a y)
unfolding with_node node_at
node_within s w a y h = record {
  at_each = λ l.
      at_set (NodeWithin s.code l) s.nodes a.0 l.0 y past_node
      (λ e. let same : a ≡ l = λ i. record { 0 = sym e i } in subst (λ (m : Locality). NodeWithin s.code m y) same h)
      (w.at_each l);
}

pub opened_within : (s : Net) → Within s → Within (opened s)
unfolding opened with_counts node_at
opened_within s w = record { at_each = w.at_each }

pub host_within :
    (s : Net) → Within s → (a : Locality) (k : ℕ) (p : Process) → Keeps s.code a (node_at s a) p → Within (with_host s a k p)
unfolding with_host
host_within s w a k p h = node_within s w a _ (process_within s.code a (node_at s a) (w.at_each a) k p h)

-- a process at the host, and another elsewhere
pub hosts_within :
    (s : Net) → Within s → (a : Locality) (k : ℕ) (p : Process) → Keeps s.code a (node_at s a) p
    → (l : Locality) (j : ℕ) (r : Process) → Keeps s.code l (node_at s l) r → Within (with_host (with_host s a k p) l j r)
unfolding with_host with_node
hosts_within s w a k p h l j r g =
    host_within (with_host s a k p) (host_within s w a k p h) l j r (keeps_at s.code l _ _ r (sym (rows_same s a l k p)) g)

pub added_within : (s : Net) → Within s → (l : Locality) (t : Tuple) → Within (added s l t)
unfolding added
added_within s w l t = node_within s w l _ (tuple_within s.code l (node_at s l) (w.at_each l) t)

pub added_all_within : (s : Net) → Within s → (g : Group) (t : Tuple) → Within (added_all s g t)
added_all_within s w g t = all_kept g t Within s w (λ s' l _ h. added_within s' h l t)

pub taken_within : (s : Net) → Within s → (l : Locality) (i : ℕ) → Within (taken s l i)
unfolding taken
taken_within s w l i = node_within s w l _ (taking_within s.code l (node_at s l) (w.at_each l) i)

-- ---- the computed test, of a sound net

-- a busy process stands in a slot of an address in use
module _ (s : Net) (ok : NetOk s) (a : Locality) (i : ℕ) (busy : (process_at (node_at s a) i).busy ≡ true) where
  not_free : {C : Type 0} (x : Node) → node_at s a ≡ x → (process_at x i).busy ≡ false → C
  not_free x e f = never (sym f ∙ sym (ap (λ (y : Node). (process_at y i).busy) e) ∙ busy)

  used : a.0 < s.addresses
  unfolding node_at process_at
  used = go (dec_lt a.0 s.addresses) (dec_lt a.0 16)
    where
      go : Dec (a.0 < s.addresses) → Dec (a.0 < 16) → a.0 < s.addresses
      go (yes h) d = h
      go (no n) (yes m) = not_free zero_node ((ok.nodes_ok.holds a.0 m).unused (omega arith)) (zero_free i)
      go (no n) (no m) =
          not_free past_node (get_or-eq_default s.nodes past_node (omega (arith, ok.nodes_ok.size_is))) refl

  slot_low : i < 4
  unfolding process_at
  slot_low =
      elim (dec_lt i 4) [
        | yes h ↦ h
        | no n ↦ never
            (sym (ap (λ (p : Process). p.busy)
            (get_or-eq_default (node_at s a).processes past_process (omega (arith, (node_at_law s ok a used).processes_ok.size_is))))
            ∙ busy)
      ]

pub admitted_within : (s : Net) → NetOk s → admits s ≡ true → Within s
unfolding AdmitsIsWithin
admitted_within s ok h =
    let starts = (admits_is_within s ok.addresses_most (omega (arith, ok.code_ok.size_is))).0 h in
    record {
      at_each = λ a. record {
        each = λ i. record {
          permitted = λ b q m. starts.permitted a i q (used s ok a i b) (slot_low s ok a i b) b m;
        };
      };
    }

pub within_admitted : (s : Net) → NetOk s → Within s → admits s ≡ true
unfolding AdmitsIsWithin
within_admitted s ok w =
    (admits_is_within s ok.addresses_most (omega (arith, ok.code_ok.size_is))).1
    (record { permitted = λ a i q u l b m. ((w.at_each a).each i).permitted b q m })
