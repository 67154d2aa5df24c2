-- The lines of a fresh net's source (`lines_of` of `specs/NetSource.antt`): as many instructions as the net has, lines at addresses
-- behind the definitions, and each name at its place. Assumes nothing.
use Prim.Native.Nat.{ℕ, ◌<◌, ◌≤◌}
use mathlib.Core.Path.{◌≡◌, sym, subst, ◌∙◌}
use mathlib.Core.Bool.{true}
use mathlib.Core.List.{List}
use native.Mathlib.Omega.{arith}
use borrow.Author.Tests.{ltb-true}
use Rattle.net.specs.Records.{starting_at, process_at, node_at, instruction_at, address_of, place_of}
use Rattle.net.proofs.SlotLaws.{slot_busy}
use Rattle.text.specs.Joined.{joined}
use Rattle.terms.specs.Numbering.{called}
use Rattle.linking.specs.Source.{Line}
use Rattle.linking.specs.Compiled.{total, place_in}
use Rattle.linking.specs.Names.{names_right}
use Rattle.sources.specs.WellFormed.{Each}
use Rattle.written.proofs.WrittenProcesses.{Starts, ProcessesOk, first_busy}
use Rattle.written.proofs.WrittenStages.{WithTuples}
use Rattle.written.proofs.WrittenWhole.{NetOk}
use Rattle.read_back.specs.Types.{Locality, Process, Node, Instruction, Net, Scope}
use Rattle.read_back.specs.NetSource.{definitions_of, process_lines, tuple_lines, lines_at, lines_of}
use Rattle.read_back.proofs.EachLaws.{each_append, each_joined, each_listed, each_chosen}
use Rattle.read_back.proofs.LineLists.{total_append}
use Rattle.read_back.proofs.Definitions.{definitions, definitions_total}
use Rattle.read_back.proofs.BodiesFormed.{BodyOk, body_ok}
use Rattle.read_back.proofs.Located.{Located, starts, stores, located_total}
use Rattle.read_back.proofs.NamesRight.{name_stands, names_right_law}

-- ---- the place of a process that starts
place_within : (a : Locality) (k : ℕ) (p : Process) → Starts a k p → p.at.0 < k
unfolding starting_at
place_within a k p s = subst (λ (q : Process). q.at.0 < k) s.is s.within

pub busy_within :
    (a : Locality) (k c : ℕ) (x : Node) → ProcessesOk a k c x → (j : ℕ) → j < 4 → (process_at x j).busy ≡ true
    → (process_at x j).at.0 < k
unfolding process_at
busy_within a k c x ok j h e =
    let below = ltb-true j c (sym (slot_busy x c (first_busy a k c x ok) j h) ∙ e) in
    place_within a k _ ((ok.slots_ok.holds j h).used below)

module _ (s : Net) where
  -- what its text is judged by
  abbrev pub scope : Scope
  scope = record { addresses = s.addresses; format = s.format }

  abbrev pub code_at : ℕ → Instruction
  code_at i = instruction_at s.code (place_of i)

  -- the lines at addresses
  abbrev pub located : List Line
  located = joined s.addresses (λ a. lines_at s (address_of a))

module _ (s : Net) (ok : NetOk s) where
  pub few_addresses : s.addresses ≤ 16
  few_addresses = omega (arith, ok.addresses_ok.below)

  pub few_instructions : s.length ≤ 512
  few_instructions = omega (arith, ok.length_ok.below)

  pub node_ok : (a : ℕ) → a < s.addresses → WithTuples a s.format s.addresses s.length (node_at s (address_of a))
  unfolding node_at
  node_ok a h = (ok.nodes_ok.holds a (omega (arith, few_addresses))).used h

  pub code_ok : (i : ℕ) → i < s.length → BodyOk (scope s) s.length (code_at s i)
  unfolding instruction_at
  code_ok i h =
      let few = few_instructions in
      body_ok (scope s) s.length few _ ok.format_ok.above (omega (arith, ok.format_ok.below))
      ((ok.code_ok.holds i (omega arith)).used h)

  pub all_located : Each (λ before. Located s.length) (definitions (code_at s) s.length) (located s)
  unfolding lines_at process_lines tuple_lines
  all_located =
      each_joined _ s.addresses _ (λ a h.
      let slots = (node_ok a h).slots_ok in
      each_append _
      (each_joined _ 4 _ (λ j l. each_chosen _ _ _ (λ e. starts (busy_within _ _ _ _ slots.slots j l e))))
      (each_listed _ _ _ (λ j l. stores)))

  pub lines_total : total (lines_of s) ≡ s.length
  unfolding lines_of definitions_of
  lines_total =
      let definitions-are = definitions_total (code_at s) s.length in
      let rest = located_total (located s) all_located in
      omega (arith, total_append (definitions (code_at s) s.length) (located s))

  pub names_stand : (j : ℕ) → j < s.length → place_in (lines_of s) (called j) ≡ place_of j
  unfolding lines_of definitions_of
  names_stand = name_stands (code_at s) s.length (located s)

  pub names_are_right : names_right (lines_of s) ≡ true
  unfolding lines_of definitions_of
  names_are_right = names_right_law (code_at s) s.length (located s) (λ i j h. (code_ok i h).below j) all_located
