-- The layout of an image without its end (`Image.antt` of `image`, 1 to 5): it reads exactly what `net_bits` writes for the nets
-- that an image can write. Assumes nothing.
use Prim.Native.Nat.{ℕ, ◌+◌, ◌<◌, ◌≤◌}
use mathlib.Core.Path.{◌≡◌, refl, sym, ap, subst, ◌∙◌}
use mathlib.Core.Bool.{Bool}
use mathlib.Core.List.{List, ◌++◌}
use native.Mathlib.Omega.{arith}
use lib.ListN.{length, get_or, get_or-replicate, length-replicate}
use Rattle.written.specs.Types.{Node, Net}
use Rattle.net.specs.Records.{zero_node, zero_instruction, empty_net, node_at, instruction_at, with_counts, with_format, address_of}
use Rattle.readers.specs.Reader.{Reader, ◌>>=◌}
use Rattle.image.specs.Image.{header, rows, all_processes, all_tuples, code}
use Rattle.written.specs.ImageOf.{bits_of, node_rows_bits, processes_bits, tuples_bits, instruction_bits}
use Rattle.text.specs.Joined.{joined}
use Rattle.written.specs.ImageOf.{header_bits, rows_bits, all_processes_bits, all_tuples_bits, code_bits, net_bits}
use Rattle.net.proofs.Every.{every_replicate, filled_each}
use Rattle.sound.proofs.ZeroClaims.{zeros}
use Rattle.written.proofs.ReadsWrites.{Reads, Ranged, reads_as, reads_map, reads_field}
use Rattle.written.proofs.ReadsParts.{reads_in}
use Rattle.written.proofs.WrittenPasses.{net_is, vacated, emptied, RowsPass, ProcessesPass, TuplesPass, CodePass}
use Rattle.written.proofs.WrittenPasses.{reads_rows, reads_all_processes, reads_all_tuples, reads_code}
use Rattle.written.proofs.WrittenStages.{Staged, Blank, WithRows, WithProcesses, WithTuples, ruled, peopled, stocked}
use Rattle.written.proofs.WrittenStages.{Keeps, keeps_on, pass_keeps, code_keeps, header_same, rows_same}
use Rattle.written.proofs.WrittenStages.{processes_same, tuples_same}
use Rattle.net.proofs.Past.{past_node, past_instruction}
use Rattle.written.proofs.WrittenProcesses.{bare_node}

-- ---- 1. the header
pub blank : (f n k : ℕ) → Ranged 1 3 f → Ranged 1 17 n → Ranged 1 513 k → Staged Blank (with_counts (with_format empty_net f) n k)
unfolding with_counts with_format empty_net
blank f n k e h g = record {
  format_ok = e;
  addresses_ok = h;
  length_ok = g;
  nodes_ok = every_replicate _ past_node 16 zero_node (λ j _. record { used = λ _. refl; unused = λ _. refl });
  code_is = refl;
}

-- a net whose nodes are all blank
blank_is : (s : Net) → Staged Blank s → with_counts (with_format empty_net s.format) s.addresses s.length ≡ s
unfolding with_counts with_format empty_net
blank_is s g =
    net_is s _ _ _ _ _ refl refl refl
    (sym (zeros zero_node past_node 16 s.nodes g.nodes_ok.size_is
    (filled_each {Q = λ x. x ≡ zero_node} g.nodes_ok (λ x. sym) (λ x. sym))))
    g.code_is

header_rest : Net → List Bool
header_rest s = bits_of 5 s.addresses ++ bits_of 10 s.length

reads_header : Reads header header_bits (Staged Blank)
unfolding header header_bits header_rest with_counts with_format
reads_header =
    reads_as
    (reads_in header_bits (reads_field 4 1 3 21 (omega arith))
    (λ format f. reads_in header_rest (reads_field 5 1 17 22 (omega arith))
    (λ n h. reads_map (with_counts (with_format empty_net format) n) (reads_field 10 1 513 22 (omega arith)) (λ k g. (k, g, refl)) (λ k g. refl)
    (λ b z. z))
    (λ n b h z. ap (λ (y : Net). bits_of 5 y.addresses ++ bits_of 10 b.length) (sym z.2)))
    (λ format b f z. ap (λ (y : Net). bits_of 4 y.format ++ header_rest b) (sym z.2.2)))
    (λ b z. subst (Staged Blank) z.2.2.2 (blank _ _ _ z.1 z.2.1 z.2.2.1))
    (λ b g. (b.format, g.format_ok, (b.addresses, g.addresses_ok, (b.length, g.length_ok, blank_is b g))))
    (λ b z. refl)

-- ---- 2 to 5. each pass, in the words of `specs/ImageOf.antt`
few : (s : Net) {L : ℕ → ℕ → ℕ → ℕ → Node → Type 0} → Staged L s → s.addresses ≤ 16
few s g = omega (arith, g.addresses_ok.below)

short : (s : Net) {L : ℕ → ℕ → ℕ → ℕ → Node → Type 0} → Staged L s → s.length ≤ 512
short s g = omega (arith, g.length_ok.below)

pass_rows : (s : Net) → Staged Blank s → Reads (rows s) rows_bits (RowsPass s)
unfolding rows_bits RowsPass
pass_rows s g =
    reads_as (reads_rows s (few s g) g.nodes_ok.size_is
    (λ a h. let l = few s g in sym ((g.nodes_ok.holds a (omega arith)).used h))) (λ b t. t) (λ b t. t)
    (λ b t.
    ap (λ (f : ℕ). joined b.addresses (λ a. node_rows_bits f b.addresses (node_at b (address_of a)))) (sym t.frame.format_is)
    ∙ ap (λ (n : ℕ). joined n (λ a. node_rows_bits s.format n (node_at b (address_of a)))) (sym t.frame.addresses_are))

pass_processes : (s : Net) → Staged WithRows s → Reads (all_processes s) all_processes_bits (ProcessesPass s)
unfolding all_processes_bits ProcessesPass
pass_processes s g =
    reads_as (reads_all_processes s (few s g) (short s g) g.nodes_ok.size_is
    (λ a h. let l = few s g in sym ((g.nodes_ok.holds a (omega arith)).used h).bare)) (λ b t. t) (λ b t. t)
    (λ b t. ap (λ (n : ℕ). joined n (λ a. processes_bits (node_at b (address_of a)))) (sym t.frame.addresses_are))

pass_tuples : (s : Net) → Staged WithProcesses s → Reads (all_tuples s) all_tuples_bits (TuplesPass s)
unfolding all_tuples_bits TuplesPass
pass_tuples s g =
    reads_as (reads_all_tuples s (few s g) g.nodes_ok.size_is
    (λ a h. let l = few s g in ((g.nodes_ok.holds a (omega arith)).used h).bare)) (λ b t. t) (λ b t. t)
    (λ b t. ap (λ (n : ℕ). joined n (λ a. tuples_bits (node_at b (address_of a)))) (sym t.frame.addresses_are))

pub empty_code : length empty_net.code ≡ 512
unfolding empty_net
empty_code = length-replicate 512 zero_instruction

pub empty_at : (p : ℕ) → p < 512 → get_or empty_net.code p past_instruction ≡ zero_instruction
unfolding empty_net
empty_at p h = get_or-replicate 512 p zero_instruction past_instruction h

pass_code : (s : Net) → Staged WithTuples s → Reads (code s) code_bits (CodePass s)
unfolding code_bits CodePass instruction_at
pass_code s g =
    reads_as (reads_code s (few s g) (short s g) (ap length (sym g.code_is) ∙ empty_code)
    (λ p h. let l = short s g in
    ap (λ xs. get_or xs p past_instruction) (sym g.code_is) ∙ empty_at p (omega arith)))
    (λ b t. t) (λ b t. t)
    (λ b t. ap (λ (n : ℕ). joined n (λ p. instruction_bits (get_or b.code p past_instruction))) (sym t.frame.length_is))

-- ---- 1 to 5: the nets between the passes
unfoldable pub body : Reader Net
body = header >>= (λ s₁. rows s₁ >>= (λ s₂. all_processes s₂ >>= (λ s₃. all_tuples s₃ >>= code)))

unfoldable pub FromTuples : Net → Net → Type 0
FromTuples s₃ b = (s₄ : Net) × TuplesPass s₃ s₄ × CodePass s₄ b

unfoldable pub FromProcesses : Net → Net → Type 0
FromProcesses s₂ b = (s₃ : Net) × ProcessesPass s₂ s₃ × FromTuples s₃ b

unfoldable pub FromRows : Net → Net → Type 0
FromRows s₁ b = (s₂ : Net) × RowsPass s₁ s₂ × FromProcesses s₂ b

unfoldable pub FromHeader : Net → Type 0
FromHeader b = (s₁ : Net) × Staged Blank s₁ × FromRows s₁ b

-- what later passes leave alone
module _ {X : Type 0} (part : Node → X) where
  tuples_keep : (s b : Net) → Staged WithProcesses s → ((x : Node) → part (emptied x) ≡ part x) → FromTuples s b
      → Keeps part s b
  unfolding FromTuples TuplesPass
  tuples_keep s b g e (s₄, t, c) =
      keeps_on part s s₄ b (pass_keeps part s s₄ (few s g) t e) (code_keeps part s₄ b c)

  processes_keep : (s b : Net) → Staged WithRows s → ((x : Node) → part (vacated x) ≡ part x)
      → ((x : Node) → part (emptied x) ≡ part x) → FromProcesses s b → Keeps part s b
  unfolding FromProcesses ProcessesPass
  processes_keep s b g d e (s₃, t, c) =
      keeps_on part s s₃ b (pass_keeps part s s₃ (few s g) t d) (tuples_keep s₃ b (peopled s s₃ g t) e c)

  rows_keep : (s b : Net) → Staged Blank s → ((x : Node) → part zero_node ≡ part x)
      → ((x : Node) → part (vacated x) ≡ part x) → ((x : Node) → part (emptied x) ≡ part x) → FromRows s b
      → Keeps part s b
  unfolding FromRows RowsPass
  rows_keep s b g c d e (s₂, t, z) =
      keeps_on part s s₂ b (pass_keeps part s s₂ (few s g) t c) (processes_keep s₂ b (ruled s s₂ g t) d e z)

reads_from_tuples : (s : Net) → Staged WithProcesses s
    → Reads (all_tuples s >>= code) (λ b. all_tuples_bits b ++ code_bits b) (FromTuples s)
unfolding FromTuples
reads_from_tuples s g =
    reads_in _ (pass_tuples s g) (λ s₄ t. pass_code s₄ (stocked s s₄ g t))
    (λ s₄ b t c. ap (λ x. x ++ code_bits b) (tuples_same s₄ b (code_keeps (λ x. x) s₄ b c)))

reads_from_processes : (s : Net) → Staged WithRows s
    → Reads (all_processes s >>= (λ s₃. all_tuples s₃ >>= code)) (λ b. all_processes_bits b ++ (all_tuples_bits b ++ code_bits b))
    (FromProcesses s)
unfolding FromProcesses bare_node
reads_from_processes s g =
    reads_in _ (pass_processes s g) (λ s₃ t. reads_from_tuples s₃ (peopled s s₃ g t))
    (λ s₃ b t c. ap (λ x. x ++ (all_tuples_bits b ++ code_bits b))
    (processes_same s₃ b (tuples_keep (λ x. x.processes) s₃ b (peopled s s₃ g t) (λ x. refl) c)))

reads_from_rows : (s : Net) → Staged Blank s
    → Reads (rows s >>= (λ s₂. all_processes s₂ >>= (λ s₃. all_tuples s₃ >>= code)))
    (λ b. rows_bits b ++ (all_processes_bits b ++ (all_tuples_bits b ++ code_bits b))) (FromRows s)
unfolding FromRows bare_node
reads_from_rows s g =
    reads_in _ (pass_rows s g) (λ s₂ t. reads_from_processes s₂ (ruled s s₂ g t))
    (λ s₂ b t c. ap (λ x. x ++ (all_processes_bits b ++ (all_tuples_bits b ++ code_bits b)))
    (rows_same s₂ b (processes_keep (λ x. x.rows) s₂ b (ruled s s₂ g t) (λ x. refl) (λ x. refl) c)))

pub reads_from_header : Reads body net_bits FromHeader
unfolding FromHeader body net_bits
reads_from_header =
    reads_in _ reads_header (λ s₁ g. reads_from_rows s₁ g)
    (λ s₁ b g c.
    ap (λ x. x ++ (rows_bits b ++ (all_processes_bits b ++ (all_tuples_bits b ++ code_bits b))))
    (header_same s₁ b (rows_keep {X = Unit {0}} (λ x. tt) s₁ b g (λ x. refl) (λ x. refl) (λ x. refl) c)))
