-- A net between the passes of an image (`WrittenPasses.antt`): what stands at each address by then, and which parts of
-- it later passes leave alone. Assumes nothing.
use Prim.Native.Nat.{ℕ, ◌+◌, ◌<◌, ◌≤◌}
use mathlib.Core.Path.{◌≡◌, refl, sym, ap, subst, ◌∙◌}
use mathlib.Core.List.{List, [], ◌++◌}
use native.Mathlib.Omega.{arith}
use lib.ListN.{length, get_or, replicate}
use Rattle.written.specs.Types.{Locality, Node, Net}
use Rattle.net.specs.Records.{zero_tuple, zero_node, empty_net, node_at, row_at, process_at, address_of, process_count}
use Rattle.written.specs.ImageOf.{bits_of, node_rows_bits, processes_bits, tuples_bits}
use Rattle.text.specs.Joined.{joined}
use Rattle.written.specs.ImageOf.{header_bits, rows_bits, all_processes_bits, all_tuples_bits}
use Rattle.net.proofs.Every.{Every, Filled}
use Rattle.written.proofs.ReadsWrites.{Ranged, joined_same}
use Rattle.written.proofs.ReadsCells.{Through}
use Rattle.written.proofs.WrittenPasses.{net_is, pass_over, vacated, Slots}
use Rattle.written.proofs.WrittenPasses.{emptied, RowsPass, ProcessesPass, TuplesPass, CodePass}
use Rattle.net.proofs.Past.{past_node}
use Rattle.sound.proofs.NodeFacts.{RowsOk}
use Rattle.written.proofs.WrittenProcesses.{bare_node, free, node_is}
use Rattle.written.proofs.WrittenRows.{Ruled}
use Rattle.written.proofs.WrittenStore.{TuplesOk}

-- ---- what stands at each address: L with the address, the format, the address count and the code length, and zero records
-- past the count
abbrev pub AtEach : (ℕ → Node → Type 0) → ℕ → List Node → Type 0
AtEach U n = Every (λ a. Filled (U a) (λ x. zero_node ≡ x) n a) past_node 16

pub record Staged (L : ℕ → ℕ → ℕ → ℕ → Node → Type 0) (s : Net) : Type 0 where
  pub format_ok : Ranged 1 3 s.format
  pub addresses_ok : Ranged 1 17 s.addresses
  pub length_ok : Ranged 1 513 s.length
  pub nodes_ok : AtEach (λ a. L a s.format s.addresses s.length) s.addresses s.nodes
  pub code_is : empty_net.code ≡ s.code

-- after each pass
abbrev pub Blank : ℕ → ℕ → ℕ → ℕ → Node → Type 0
Blank a f n k x = zero_node ≡ x

abbrev pub WithRows : ℕ → ℕ → ℕ → ℕ → Node → Type 0
WithRows a f n k = Ruled f n

pub record WithProcesses (a f n k : ℕ) (x : Node) : Type 0 where
  pub rows_ok : RowsOk f n x.rows
  pub slots_ok : Slots (address_of a) k x
  pub bare : x ≡ emptied x

pub record WithTuples (a f n k : ℕ) (x : Node) : Type 0 where
  pub rows_ok : RowsOk f n x.rows
  pub slots_ok : Slots (address_of a) k x
  pub store_ok : TuplesOk (address_of a) n x

-- a pass takes one stage to the next
module _ {L M : ℕ → ℕ → ℕ → ℕ → Node → Type 0} {Good : ℕ → Node → Type 0} {undo : Node → Node} (s₀ s : Net) where
  pub staged_pass :
      Staged L s₀ → Through (pass_over s₀ Good undo) s₀ s₀.addresses s
      → ((a : ℕ) (x y : Node) → L a s₀.format s₀.addresses s₀.length y → Good a x → undo x ≡ y
      → M a s₀.format s₀.addresses s₀.length x)
      → Staged M s
  staged_pass g t next =
      subst (Staged M)
      (net_is s _ _ _ _ _ t.frame.format_is t.frame.addresses_are t.frame.length_is refl t.frame.code_is)
      (record {
        format_ok = g.format_ok;
        addresses_ok = g.addresses_ok;
        length_ok = g.length_ok;
        nodes_ok = record {
          size_is = t.cells_ok.size_is;
          holds = λ a h. record {
            used = λ l.
                next a _ _ ((g.nodes_ok.holds a h).used l) ((t.cells_ok.holds a h).good l) ((t.cells_ok.holds a h).undone l);
            unused = λ l. (g.nodes_ok.holds a h).unused l ∙ (t.cells_ok.holds a h).kept l;
          };
        };
        code_is = g.code_is;
      })

pub ruled : (s₀ s : Net) → Staged Blank s₀ → RowsPass s₀ s → Staged WithRows s
unfolding RowsPass
ruled s₀ s g t = staged_pass s₀ s g t (λ a x y b ok u. ok)

pub peopled : (s₀ s : Net) → Staged WithRows s₀ → ProcessesPass s₀ s → Staged WithProcesses s
unfolding ProcessesPass bare_node
peopled s₀ s g t =
    staged_pass s₀ s g t
    (λ a x y b ok u.
    let e : vacated x ≡ bare_node y.rows free = u ∙ sym b.bare in
    record {
      rows_ok = subst (RowsOk s₀.format s₀.addresses) (ap (λ (z : Node). z.rows) (sym u)) b.rows_ok;
      slots_ok = ok;
      bare =
          sym (node_is x x.rows x.processes 0 (replicate 16 zero_tuple) refl refl
          (ap (λ (z : Node). z.stored) (sym e)) (ap (λ (z : Node). z.tuples) (sym e)));
    })

-- slots are a matter of the processes alone
slots_as : (a : Locality) (k : ℕ) (x y : Node) → x.processes ≡ y.processes → Slots a k x → Slots a k y
slots_as a k x y e g = record {
  count = g.count;
  slots = record { few = g.slots.few; slots_ok = subst (Every _ _ 4) e g.slots.slots_ok };
}

pub stocked : (s₀ s : Net) → Staged WithProcesses s₀ → TuplesPass s₀ s → Staged WithTuples s
unfolding TuplesPass bare_node
stocked s₀ s g t =
    staged_pass s₀ s g t
    (λ a x y b ok u. record {
      rows_ok = subst (RowsOk s₀.format s₀.addresses) (ap (λ (z : Node). z.rows) (sym u)) b.rows_ok;
      slots_ok = slots_as (address_of a) s₀.length y x (ap (λ (z : Node). z.processes) (sym u)) b.slots_ok;
      store_ok = ok;
    })

-- ---- parts of the nodes that stay
pub record Keeps {X : Type 0} (part : Node → X) (s b : Net) : Type 0 where
  pub format_is : s.format ≡ b.format
  pub addresses_are : s.addresses ≡ b.addresses
  pub length_is : s.length ≡ b.length
  pub parts_are : (a : Locality) → a.0 < s.addresses → part (node_at b a) ≡ part (node_at s a)

module _ {X : Type 0} (part : Node → X) where
  pub keeps_on : (s t b : Net) → Keeps part s t → Keeps part t b → Keeps part s b
  keeps_on s t b f g = record {
    format_is = f.format_is ∙ g.format_is;
    addresses_are = f.addresses_are ∙ g.addresses_are;
    length_is = f.length_is ∙ g.length_is;
    parts_are = λ a h. g.parts_are a (omega (arith, f.addresses_are)) ∙ f.parts_are a h;
  }

  pub pass_keeps : {Good : ℕ → Node → Type 0} {undo : Node → Node} (s₀ s : Net) → s₀.addresses ≤ 16
      → Through (pass_over s₀ Good undo) s₀ s₀.addresses s → ((x : Node) → part (undo x) ≡ part x) → Keeps part s₀ s
  unfolding node_at
  pass_keeps s₀ s l t e = record {
    format_is = t.frame.format_is;
    addresses_are = t.frame.addresses_are;
    length_is = t.frame.length_is;
    parts_are = λ a h. sym (e _) ∙ ap part ((t.cells_ok.holds a.0 (omega arith)).undone h);
  }

  pub code_keeps : (s₀ s : Net) → CodePass s₀ s → Keeps part s₀ s
  unfolding node_at CodePass
  code_keeps s₀ s t = record {
    format_is = t.frame.format_is;
    addresses_are = t.frame.addresses_are;
    length_is = t.frame.length_is;
    parts_are = λ a h. ap (λ xs. part (get_or xs a.0 past_node)) (sym t.frame.nodes_are);
  }

-- what is written of a part that stays
pub header_same : {X : Type 0} {part : Node → X} (s b : Net) → Keeps part s b → header_bits b ≡ header_bits s
unfolding header_bits
header_same s b g =
    ap (λ (f : ℕ). bits_of 4 f ++ (bits_of 5 b.addresses ++ bits_of 10 b.length)) (sym g.format_is)
    ∙ ap (λ (n : ℕ). bits_of 4 s.format ++ (bits_of 5 n ++ bits_of 10 b.length)) (sym g.addresses_are)
    ∙ ap (λ (k : ℕ). bits_of 4 s.format ++ (bits_of 5 s.addresses ++ bits_of 10 k)) (sym g.length_is)

pub rows_same : (s b : Net) → Keeps (λ x. x.rows) s b → rows_bits b ≡ rows_bits s
unfolding rows_bits node_rows_bits row_at
rows_same s b g =
    ap (λ (f : ℕ). joined b.addresses (λ a. node_rows_bits f b.addresses (node_at b (address_of a)))) (sym g.format_is)
    ∙ ap (λ (n : ℕ). joined n (λ a. node_rows_bits s.format n (node_at b (address_of a)))) (sym g.addresses_are)
    ∙ joined_same s.addresses _ _ (λ a h.
    ap (λ rs. node_rows_bits s.format s.addresses (record { rows = rs; processes = []; stored = 0; tuples = [] }))
    (g.parts_are (address_of a) h))

pub processes_same : (s b : Net) → Keeps (λ x. x.processes) s b → all_processes_bits b ≡ all_processes_bits s
unfolding all_processes_bits processes_bits process_count process_at
processes_same s b g =
    ap (λ (n : ℕ). joined n (λ a. processes_bits (node_at b (address_of a)))) (sym g.addresses_are)
    ∙ joined_same s.addresses _ _ (λ a h.
    ap (λ ps. processes_bits (record { rows = []; processes = ps; stored = 0; tuples = [] })) (g.parts_are (address_of a) h))

pub tuples_same : (s b : Net) → Keeps (λ x. x) s b → all_tuples_bits b ≡ all_tuples_bits s
unfolding all_tuples_bits
tuples_same s b g =
    ap (λ (n : ℕ). joined n (λ a. tuples_bits (node_at b (address_of a)))) (sym g.addresses_are)
    ∙ joined_same s.addresses _ _ (λ a h. ap tuples_bits (g.parts_are (address_of a) h))
