-- The passes over the nodes of a net and over its code (`Image.antt` of `image`, 2 to 5): each gives exactly the nets whose
-- records it can write, and leaves all else as it was. Assumes nothing.
use Prim.Native.Nat.{ℕ, ◌<◌, ◌≤◌}
use mathlib.Core.Path.{◌≡◌, refl, sym, ap, subst, subst₂, ◌∙◌}
use mathlib.Core.Bool.{Bool}
use mathlib.Core.List.{List}
use native.Mathlib.Omega.{arith}
use lib.ListN.{length, get_or, replicate}
use lib.Seq.{set-get_or, set-set}
use Rattle.written.specs.Types.{Locality, Place, Row, Node, Instruction, Net}
use Rattle.net.specs.Records.{zero_tuple, zero_node, zero_instruction, node_at, address_of, place_of, with_node, with_instruction}
use Rattle.readers.specs.Reader.{Reader}
use Rattle.image.specs.Image.{each_address, each_place, node_rows, rows_of, rows, processes, processes_of, all_processes, tuples, tuples_of, all_tuples}
use Rattle.instructions.specs.Instruction.{instruction}
use Rattle.image.specs.Image.{instruction_of, code}
use Rattle.written.specs.ImageOf.{node_rows_bits, processes_bits, tuples_bits, instruction_bits}
use Rattle.text.specs.Joined.{joined}
use Rattle.written.proofs.ReadsWrites.{Reads}
use Rattle.written.proofs.ReadsCells.{Arrayed, Through, Turned, Filling, reads_turn, reads_cells}
use Rattle.written.proofs.WrittenCode.{InstructionOk, reads_instruction}
use Rattle.net.proofs.Past.{past_node, past_instruction}
use Rattle.written.proofs.WrittenProcesses.{ProcessesOk, Peopled, reads_processes, bare_node, free, node_is}
use Rattle.written.proofs.WrittenRows.{Ruled, reads_node_rows}
use Rattle.written.proofs.WrittenStore.{TuplesOk, Stocked, reads_tuples}

-- a net is what its parts are
pub net_is : (s : Net) (f n k : ℕ) (xs : List Node) (cs : List Instruction) → f ≡ s.format → n ≡ s.addresses
    → k ≡ s.length → xs ≡ s.nodes → cs ≡ s.code
    → record { format = f; addresses = n; length = k; nodes = xs; code = cs } ≡ s
net_is s f n k xs cs a b c d e = λ i. record { format = a i; addresses = b i; length = c i; nodes = d i; code = e i }

-- ---- a pass over the nodes
pub record Beside (s₀ s : Net) : Type 0 where
  pub format_is : s₀.format ≡ s.format
  pub addresses_are : s₀.addresses ≡ s.addresses
  pub length_is : s₀.length ≡ s.length
  pub code_is : s₀.code ≡ s.code

abbrev pub pass_over : Net → (ℕ → Node → Type 0) → (Node → Node) → Arrayed Net Node
pass_over s₀ Good undo = record {
  cells = λ s. s.nodes;
  put = λ a s x. with_node s (address_of a) x;
  cut = λ a s x. with_node s (address_of a) x;
  past = past_node;
  Good = Good;
  undo = undo;
  Frame = λ i s. Beside s₀ s;
  Extra = λ i s x. Unit {0};
  size = 16;
}

kept : (s₀ s : Net) (a : Locality) (x : Node) → Beside s₀ s → Beside s₀ (with_node s a x)
unfolding with_node
kept s₀ s a x e = record {
  format_is = e.format_is;
  addresses_are = e.addresses_are;
  length_is = e.length_is;
  code_is = e.code_is;
}

module _ (s₀ : Net) (Good : ℕ → Node → Type 0) (undo : Node → Node) (f : ℕ → Net → Reader Net) (w : Node → List Bool) where
  filling_pass :
      s₀.addresses ≤ 16 → length s₀.nodes ≡ 16
      → ((a : ℕ) → a < s₀.addresses → (s : Net) → Beside s₀ s
      → get_or s₀.nodes a past_node ≡ get_or s.nodes a past_node → length s.nodes ≡ 16
      → Reads (f a s) (λ b. w (get_or b.nodes a past_node)) (Turned (pass_over s₀ Good undo) s₀ a s))
      → Filling (pass_over s₀ Good undo) s₀ f s₀.addresses w
  unfolding with_node
  filling_pass h l turn = record {
    room = h;
    size_is = l;
    begins = record { format_is = refl; addresses_are = refl; length_is = refl; code_is = refl };
    starts = λ s e d. net_is s _ _ _ _ _ e.format_is e.addresses_are e.length_is d e.code_is;
    turn = turn;
    put_cells = λ a m s x e. refl;
    put_frame = λ a m s x e g _. kept s₀ s (address_of a) x e;
    cut_cells = λ a m s x. refl;
    cut_frame = λ a m s x e. kept s₀ s (address_of a) x e;
    cut_extra = λ a m s x e. tt;
    put_cut = λ a m s x e.
        ap (λ y. record { format = s.format; addresses = s.addresses; length = s.length; nodes = y; code = s.code })
        (set-set s.nodes a x (get_or s.nodes a past_node) ∙ set-get_or s.nodes a past_node);
  }

-- ---- 2. rows
unfoldable pub RowsPass : Net → Net → Type 0
RowsPass s₀ = Through (pass_over s₀ (λ a. Ruled s₀.format s₀.addresses) (λ x. zero_node)) s₀ s₀.addresses

module _ (s₀ : Net) (h : s₀.addresses ≤ 16) (l : length s₀.nodes ≡ 16)
    (blank : (a : ℕ) → a < s₀.addresses → get_or s₀.nodes a past_node ≡ zero_node) where
  reads_policy : (a : ℕ) → a < s₀.addresses → (s : Net) → Beside s₀ s
      → get_or s₀.nodes a past_node ≡ get_or s.nodes a past_node
      → Reads (node_rows s.format s.addresses (get_or s.nodes a past_node)) (node_rows_bits s₀.format s₀.addresses)
      (Ruled s₀.format s₀.addresses)
  reads_policy a m s e b =
      let f : ℕ = s₀.format in
      let n : ℕ = s₀.addresses in
      subst₂ (λ (i j : ℕ). Reads (node_rows i j (get_or s.nodes a past_node)) (node_rows_bits f n) (Ruled f n))
      e.format_is e.addresses_are
      (subst (λ (x : Node). Reads (node_rows f n x) (node_rows_bits f n) (Ruled f n)) (sym (blank a m) ∙ b) (reads_node_rows f n h))

  pub reads_rows :
      Reads (rows s₀) (λ b. joined s₀.addresses (λ a. node_rows_bits s₀.format s₀.addresses (node_at b (address_of a))))
      (RowsPass s₀)
  unfolding rows each_address rows_of node_at RowsPass with_node
  reads_rows =
      let good : ℕ → Node → Type 0 = λ a. Ruled s₀.format s₀.addresses in
      let write = node_rows_bits s₀.format s₀.addresses in
      reads_cells (pass_over s₀ good (λ x. zero_node)) s₀ (λ a. rows_of (address_of a)) s₀.addresses write
      (filling_pass s₀ _ _ _ _ h l (λ a m s e b g.
      reads_turn (pass_over s₀ good (λ x. zero_node)) s₀ a s write (λ x. x)
      (omega arith) (λ x. refl) (reads_policy a m s e b)
      (λ x ok. (ok, sym (blank a m), tt)) (λ x ok. refl) (λ x ok u _. (x, ok, refl))))

-- ---- 3. processes
abbrev pub vacated : Node → Node
vacated x = record { rows = x.rows; processes = free; stored = x.stored; tuples = x.tuples }

pub record Slots (a : Locality) (k : ℕ) (x : Node) : Type 0 where
  pub count : ℕ
  pub slots : ProcessesOk a k count x

unfoldable pub ProcessesPass : Net → Net → Type 0
ProcessesPass s₀ = Through (pass_over s₀ (λ a. Slots (address_of a) s₀.length) vacated) s₀ s₀.addresses

-- a node that is bare once its processes are gone
bare_again : (x y : Node) → vacated x ≡ y → y ≡ bare_node y.rows free → bare_node y.rows x.processes ≡ x
unfolding bare_node
bare_again x y u b =
    let e : vacated x ≡ bare_node y.rows free = u ∙ b in
    node_is x y.rows x.processes 0 (replicate 16 zero_tuple)
    (ap (λ (z : Node). z.rows) (sym u)) refl (ap (λ (z : Node). z.stored) (sym e)) (ap (λ (z : Node). z.tuples) (sym e))

vacated_bare : (x : Node) (rs : List Row) → bare_node rs x.processes ≡ x → vacated x ≡ bare_node rs free
unfolding bare_node
vacated_bare x rs e = ap (λ (z : Node). vacated z) (sym e)

module _ (s₀ : Net) (h : s₀.addresses ≤ 16) (k : s₀.length ≤ 512) (l : length s₀.nodes ≡ 16)
    (bare : (a : ℕ) → a < s₀.addresses
    → get_or s₀.nodes a past_node ≡ bare_node (get_or s₀.nodes a past_node).rows free) where
  reads_slots : (a : ℕ) → a < s₀.addresses → (s : Net) → Beside s₀ s
      → get_or s₀.nodes a past_node ≡ get_or s.nodes a past_node
      → Reads (processes (address_of a) s.length (get_or s.nodes a past_node)) processes_bits
      (Peopled (address_of a) s₀.length (get_or s₀.nodes a past_node).rows)
  reads_slots a m s e b =
      let rs : List Row = (get_or s₀.nodes a past_node).rows in
      let own : Locality = address_of a in
      subst (λ (j : ℕ). Reads (processes own j (get_or s.nodes a past_node)) processes_bits (Peopled own s₀.length rs))
      e.length_is
      (subst (λ (x : Node). Reads (processes own s₀.length x) processes_bits (Peopled own s₀.length rs))
      (sym (bare a m) ∙ b) (reads_processes own s₀.length rs k))

  pub reads_all_processes :
      Reads (all_processes s₀) (λ b. joined s₀.addresses (λ a. processes_bits (node_at b (address_of a)))) (ProcessesPass s₀)
  unfolding all_processes each_address processes_of node_at ProcessesPass with_node
  reads_all_processes =
      let good : ℕ → Node → Type 0 = λ a. Slots (address_of a) s₀.length in
      reads_cells (pass_over s₀ good vacated) s₀ (λ a. processes_of (address_of a)) s₀.addresses processes_bits
      (filling_pass s₀ _ _ _ _ h l (λ a m s e b g.
      reads_turn (pass_over s₀ good vacated) s₀ a s processes_bits (λ x. x)
      (omega arith) (λ x. refl) (reads_slots a m s e b)
      (λ x ok. (record { count = ok.count; slots = ok.slots }, vacated_bare x _ ok.bare ∙ sym (bare a m), tt))
      (λ x ok. refl)
      (λ x ok u _. (x, record { count = ok.count; slots = ok.slots; bare = bare_again x _ u (bare a m) }, refl))))

-- ---- 4. tuples
abbrev pub emptied : Node → Node
emptied x = bare_node x.rows x.processes

unfoldable pub TuplesPass : Net → Net → Type 0
TuplesPass s₀ = Through (pass_over s₀ (λ a. TuplesOk (address_of a) s₀.addresses) emptied) s₀ s₀.addresses

module _ (s₀ : Net) (h : s₀.addresses ≤ 16) (l : length s₀.nodes ≡ 16)
    (bare : (a : ℕ) → a < s₀.addresses → get_or s₀.nodes a past_node ≡ emptied (get_or s₀.nodes a past_node)) where
  reads_store : (a : ℕ) → a < s₀.addresses → (s : Net) → Beside s₀ s
      → get_or s₀.nodes a past_node ≡ get_or s.nodes a past_node
      → Reads (tuples (address_of a) s.addresses (get_or s.nodes a past_node)) tuples_bits
      (Stocked (address_of a) s₀.addresses (get_or s₀.nodes a past_node).rows (get_or s₀.nodes a past_node).processes)
  reads_store a m s e b =
      let y : Node = get_or s₀.nodes a past_node in
      let n : ℕ = s₀.addresses in
      let own : Locality = address_of a in
      subst (λ (j : ℕ). Reads (tuples own j (get_or s.nodes a past_node)) tuples_bits (Stocked own n y.rows y.processes))
      e.addresses_are
      (subst (λ (x : Node). Reads (tuples own n x) tuples_bits (Stocked own n y.rows y.processes))
      (sym (bare a m) ∙ b) (reads_tuples own n y.rows y.processes h))

  pub reads_all_tuples :
      Reads (all_tuples s₀) (λ b. joined s₀.addresses (λ a. tuples_bits (node_at b (address_of a)))) (TuplesPass s₀)
  unfolding all_tuples each_address tuples_of node_at TuplesPass with_node bare_node
  reads_all_tuples =
      let good : ℕ → Node → Type 0 = λ a. TuplesOk (address_of a) s₀.addresses in
      reads_cells (pass_over s₀ good emptied) s₀ (λ a. tuples_of (address_of a)) s₀.addresses tuples_bits
      (filling_pass s₀ _ _ _ _ h l (λ a m s e b g.
      reads_turn (pass_over s₀ good emptied) s₀ a s tuples_bits (λ x. x)
      (omega arith) (λ x. refl) (reads_store a m s e b)
      (λ x ok. (
        ok.store,
        ap (λ rs. bare_node rs x.processes) (sym ok.same_rows)
            ∙ ap (bare_node _) (sym ok.same_processes) ∙ sym (bare a m),
        tt,
      ))
      (λ x ok. refl)
      (λ x ok u _. (
        x,
        record {
          store = ok;
          same_rows = ap (λ (z : Node). z.rows) (sym u);
          same_processes = ap (λ (z : Node). z.processes) (sym u);
        },
        refl,
      ))))

-- ---- 5. the code
pub record Above (s₀ s : Net) : Type 0 where
  pub format_is : s₀.format ≡ s.format
  pub addresses_are : s₀.addresses ≡ s.addresses
  pub length_is : s₀.length ≡ s.length
  pub nodes_are : s₀.nodes ≡ s.nodes

abbrev pub code_of : Net → Arrayed Net Instruction
code_of s₀ = record {
  cells = λ s. s.code;
  put = λ p s c. with_instruction s (place_of p) c;
  cut = λ p s c. with_instruction s (place_of p) c;
  past = past_instruction;
  Good = λ p. InstructionOk s₀.format s₀.addresses s₀.length;
  undo = λ c. zero_instruction;
  Frame = λ i s. Above s₀ s;
  Extra = λ i s c. Unit {0};
  size = 512;
}

unfoldable pub CodePass : Net → Net → Type 0
CodePass s₀ = Through (code_of s₀) s₀ s₀.length

code_kept : (s₀ s : Net) (p : Place) (c : Instruction) → Above s₀ s → Above s₀ (with_instruction s p c)
unfolding with_instruction
code_kept s₀ s p c e = record {
  format_is = e.format_is;
  addresses_are = e.addresses_are;
  length_is = e.length_is;
  nodes_are = e.nodes_are;
}

module _ (s₀ : Net) (h : s₀.addresses ≤ 16) (k : s₀.length ≤ 512) (l : length s₀.code ≡ 512)
    (bare : (p : ℕ) → p < s₀.length → get_or s₀.code p past_instruction ≡ zero_instruction) where
  reads_placed : (s : Net) → Above s₀ s
      → Reads (instruction s.format s.addresses s.length) instruction_bits
      (InstructionOk s₀.format s₀.addresses s₀.length)
  reads_placed s e =
      let f : ℕ = s₀.format in
      let n : ℕ = s₀.addresses in
      let m : ℕ = s₀.length in
      subst (λ (j : ℕ). Reads (instruction s.format s.addresses j) instruction_bits (InstructionOk f n m)) e.length_is
      (subst (λ (j : ℕ). Reads (instruction s.format j m) instruction_bits (InstructionOk f n m)) e.addresses_are
      (subst (λ (j : ℕ). Reads (instruction j n m) instruction_bits (InstructionOk f n m)) e.format_is
      (reads_instruction n m h k f)))

  filling_code : Filling (code_of s₀) s₀ (λ p. instruction_of (place_of p)) s₀.length instruction_bits
  unfolding instruction_of with_instruction
  filling_code = record {
    room = k;
    size_is = l;
    begins = record { format_is = refl; addresses_are = refl; length_is = refl; nodes_are = refl };
    starts = λ s e d. net_is s _ _ _ _ _ e.format_is e.addresses_are e.length_is e.nodes_are d;
    turn = λ p m s e b g.
        reads_turn (code_of s₀) s₀ p s instruction_bits (λ c. c) (omega arith) (λ c. refl) (reads_placed s e)
        (λ c ok. (ok, sym (bare p m), tt)) (λ c ok. refl) (λ c ok u _. (c, ok, refl));
    put_cells = λ p m s c e. refl;
    put_frame = λ p m s c e g _. code_kept s₀ s (place_of p) c e;
    cut_cells = λ p m s c. refl;
    cut_frame = λ p m s c e. code_kept s₀ s (place_of p) c e;
    cut_extra = λ p m s c e. tt;
    put_cut = λ p m s c e.
        ap (λ y. record { format = s.format; addresses = s.addresses; length = s.length; nodes = s.nodes; code = y })
        (set-set s.code p c (get_or s.code p past_instruction) ∙ set-get_or s.code p past_instruction);
  }

  pub reads_code :
      Reads (code s₀) (λ b. joined s₀.length (λ p. instruction_bits (get_or b.code p past_instruction))) (CodePass s₀)
  unfolding code each_place CodePass
  reads_code = reads_cells (code_of s₀) s₀ (λ p. instruction_of (place_of p)) s₀.length instruction_bits filling_code
