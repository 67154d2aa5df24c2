-- How long the lines of a fresh net's source are in the notation (`Printed.antt` of `sources`): a definition has at most 105 bytes, a
-- process 11 and a tuple 56. Assumes nothing.
use Prim.Native.Nat.{ℕ, zero, suc, ◌+◌, ◌*◌, ◌<◌, ◌≤◌}
use mathlib.Core.Path.{◌≡◌}
use mathlib.Core.List.{List, [], ◌∷◌, ◌++◌, append-nil}
use native.Mathlib.Omega.{arith}
use lib.ListN.{length, length-append}
use Rattle.net.specs.Records.{process_at, tuple_at, node_at, address_of}
use Rattle.net.proofs.Every.{chosen}
use Rattle.text.specs.Bytes.{bytes}
use Rattle.text.specs.Joined.{joined}
use Rattle.linking.specs.Source.{Line, process, tuple}
use Rattle.sources.specs.Printed.{newline, address_text, process_text, action_text, line_text, lines_text}
use Rattle.sources.specs.WellFormed.{TupleFormed, ProcessFormed, calls, forks, acts, puts, takes, reads, sends, opens, shares}
use Rattle.written.proofs.WrittenWhole.{NetOk}
use Rattle.read_back.specs.Types.{Locality, Place, Tuple, Action, Instruction, Net, Scope}
use Rattle.read_back.specs.NetSource.{listed, named, template_in, process_of, body_of, definition_at, definitions_of, process_lines}
use Rattle.read_back.specs.NetSource.{tuple_lines, lines_at, lines_of}
use Rattle.read_back.proofs.NumbersShort.{one_digit, two_digits, three_digits}
use Rattle.read_back.proofs.FieldsFormed.{tuple_formed}
use Rattle.read_back.proofs.NetLines.{scope, code_at, busy_within, few_addresses, few_instructions, node_ok, code_ok}
use Rattle.read_back.proofs.FieldsShort.{tuple_short, template_short, target_short, group_short}

-- ---- bodies
named_short : (p : Place) → p.0 < 512 → length (process_text (named p)) ≤ 4
unfolding named process_text bytes
named_short p h = omega (arith, three_digits p.0 (omega arith))

module _ (x : Scope) (few : x.addresses ≤ 16) where
  body_short : (c : Instruction) (a : Action) (d : ℕ) → ProcessFormed x d (process_of c a) → length (process_text (process_of c a)) ≤ 97
  unfolding process_of named process_text action_text bytes
  body_short c Action.Stop d f = omega arith
  body_short c (Action.Out t p) d (acts (puts e g) (calls h)) =
      simp length-append
      (omega (arith, template_short x.addresses few (template_in c) e, target_short x.addresses few t g, three_digits p.0 (omega arith)))
  body_short c (Action.In t p) d (acts (takes e g) (calls h)) =
      simp length-append
      (omega (arith, template_short x.addresses few (template_in c) e, target_short x.addresses few t g, three_digits p.0 (omega arith)))
  body_short c (Action.Read t p) d (acts (reads e g) (calls h)) =
      simp length-append
      (omega (arith, template_short x.addresses few (template_in c) e, target_short x.addresses few t g, three_digits p.0 (omega arith)))
  body_short c (Action.Eval t sent p) d (acts (sends (calls k) g) (calls h)) =
      simp length-append
      (omega (arith, target_short x.addresses few t g, three_digits sent.0 (omega arith), three_digits p.0 (omega arith)))
  body_short c (Action.New v p) d (acts (opens l) (calls h)) =
      simp length-append (omega (arith, one_digit v (omega arith), three_digits p.0 (omega arith)))
  body_short c (Action.Fork p q) d (forks (calls k) (calls h)) =
      simp length-append (omega (arith, three_digits p.0 (omega arith), three_digits q.0 (omega arith)))
  body_short c (Action.OutAll g p) d (acts (shares e y m) (calls h)) =
      simp length-append
      (omega (arith, template_short x.addresses few (template_in c) y, group_short g, three_digits p.0 (omega arith)))

  -- ---- lines
  definition_short : (i : ℕ) (c : Instruction) → i < 512 → ProcessFormed x 32 (body_of c) → length (line_text (definition_at i c)) ≤ 105
  unfolding line_text newline bytes body_of
  definition_short i c h f =
      simp length-append (omega (arith, three_digits i (omega arith), body_short c c.action 32 f))

  process_short : (a : Locality) (p : Place) → a.0 < x.addresses → p.0 < 512 → length (line_text (process a (named p))) ≤ 11
  unfolding line_text newline address_text bytes
  process_short a p h l = simp length-append (omega (arith, two_digits a.0 (omega arith), named_short p l))

  tuple_line_short : (a : Locality) (t : Tuple) → a.0 < x.addresses → TupleFormed x.addresses t → length (line_text (tuple a t)) ≤ 56
  unfolding line_text newline address_text bytes
  tuple_line_short a t h f =
      simp length-append (omega (arith, two_digits a.0 (omega arith), tuple_short x.addresses few t f))

-- ---- lists of lines
lines_length : (ls ms : List Line) → length (lines_text (ls ++ ms)) ≡ length (lines_text ls) + length (lines_text ms)
unfolding lines_text
lines_length [] ms = omega arith
lines_length (l ∷ ls) ms = simp length-append (omega (arith, lines_length ls ms))

one_line_short : (m : ℕ) (l : Line) → length (line_text l) ≤ m → length (lines_text (l ∷ [])) ≤ m
unfolding lines_text
one_line_short m l h = simp append-nil h

parts_short :
    (m n : ℕ) (f : ℕ → List Line) → ((i : ℕ) → i < n → length (lines_text (f i)) ≤ m) → length (lines_text (joined n f)) ≤ n * m
unfolding joined lines_text
parts_short m zero f h = omega arith
parts_short m (suc n) f h = simp lines_length (omega (arith, parts_short m n f (λ i l. h i (omega arith)), h n (omega arith)))

module _ (s : Net) (ok : NetOk s) where
  definitions_short : length (lines_text (definitions_of s)) ≤ 53760
  unfolding definitions_of listed
  definitions_short =
      let few = few_instructions s ok in
      let each = parts_short 105 s.length _ (λ i h. one_line_short 105 _
      (definition_short (scope s) (few_addresses s ok) i (code_at s i) (omega arith) (code_ok s ok i h).formed)) in
      omega arith

  processes_short : (a : ℕ) → a < s.addresses → length (lines_text (process_lines (address_of a) (node_at s (address_of a)))) ≤ 44
  unfolding process_lines lines_text
  processes_short a h =
      let few = few_instructions s ok in
      parts_short 11 4 _ (λ j l.
      chosen (λ (ls : List Line). length (lines_text ls) ≤ 11) (process_at (node_at s (address_of a)) j).busy _ []
      (λ e.
      let within = busy_within _ _ _ _ (node_ok s ok a h).slots_ok.slots j l e in
      one_line_short 11 _ (process_short (scope s) (few_addresses s ok) (address_of a) _ h (omega arith)))
      (λ e. omega arith))

  tuples_short : (a : ℕ) → a < s.addresses → length (lines_text (tuple_lines (address_of a) (node_at s (address_of a)))) ≤ 896
  unfolding tuple_lines listed tuple_at
  tuples_short a h =
      let store = (node_ok s ok a h).store_ok in
      let stored = store.few in
      let each = parts_short 56 (node_at s (address_of a)).stored _ (λ j l.
      let good = (store.tuples_ok.holds j (omega arith)).used l in
      one_line_short 56 _ (tuple_line_short (scope s) (few_addresses s ok) (address_of a) _ h (tuple_formed _ _ _ good))) in
      omega arith

  address_lines_short : (a : ℕ) → a < s.addresses → length (lines_text (lines_at s (address_of a))) ≤ 940
  unfolding lines_at
  address_lines_short a h = simp lines_length (omega (arith, processes_short a h, tuples_short a h))

  -- 512 definitions of 105, 64 processes of 11 and 256 tuples of 56
  pub lines_short : length (lines_text (lines_of s)) ≤ 68800
  unfolding lines_of
  lines_short =
      let few = few_addresses s ok in
      simp lines_length
      (omega (arith, definitions_short, parts_short 940 s.addresses (λ a. lines_at s (address_of a)) address_lines_short))
