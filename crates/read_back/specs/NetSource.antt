-- The source of a net, and its text (document 02, slip 13): "rows, then one definition for each instruction, `A0 =
-- out(5)@self.A1`, then, address by address, processes and after them tuples". Each instruction is named by its place.
use Rattle.std.specs.Prelude.{ℕ, List, [], ◌∷◌, ◌++◌, eqb}
use Rattle.net.specs.Choice.{choose}
use Rattle.net.specs.Records.{zero_tuple, address_of, place_of, row_at, process_at, tuple_at, node_at, instruction_at, marked, with_action}
use Rattle.text.specs.Joined.{joined}
use Rattle.terms.specs.Terms.{Process, nil, name, fork, act, out, input, read, eval, newloc, out_all}
use Rattle.linking.specs.Source.{Line, definition, process, tuple, Policy, plain, by_origin, Source}
use Rattle.sources.specs.Printed.{printed}
use Rattle.read_back.specs.Types.{Locality, Place, Row, Node, Action, Instruction, Net}

-- f at 0, then at 1, and so on below n
unfoldable pub listed : {A : Type 0} → ℕ → (ℕ → A) → List A
listed n f = joined n (λ i. f i ∷ [])

-- ---- the rows: of format 1 a node's row, which all its rows are; of format 2 its row for each origin
unfoldable pub origin_rows_of : ℕ → Node → List Row
origin_rows_of n x = listed n (λ o. row_at x (address_of o))

unfoldable pub policy_of : Net → Policy
policy_of s =
    choose (eqb s.format 1)
    (plain (listed s.addresses (λ a. row_at (node_at s (address_of a)) (address_of 0))))
    (by_origin (listed s.addresses (λ a. origin_rows_of s.addresses (node_at s (address_of a)))))

-- ---- one definition for each instruction
-- the instruction at a place, by its name
unfoldable pub named : Place → Process
named p = name p.0

-- the template of an instruction
unfoldable pub template_in : Instruction → Instruction
template_in c = with_action c Action.Stop

-- the instruction c with its action
unfoldable pub process_of : Instruction → Action → Process
process_of c Action.Stop = nil
process_of c (Action.Out t p) = act (out (template_in c) t) (named p)
process_of c (Action.In t p) = act (input (template_in c) t) (named p)
process_of c (Action.Read t p) = act (read (template_in c) t) (named p)
process_of c (Action.Eval t sent p) = act (eval (named sent) t) (named p)
process_of c (Action.New v p) = act (newloc v) (named p)
process_of c (Action.Fork p q) = fork (named p) (named q)
process_of c (Action.OutAll g p) = act (out_all (template_in c) g) (named p)

unfoldable pub body_of : Instruction → Process
body_of c = process_of c c.action

-- A0 = out(5)@self.A1
abbrev pub definition_at : ℕ → Instruction → Line
definition_at i c = definition i (body_of c)

unfoldable pub definitions_of : Net → List Line
definitions_of s = listed s.length (λ i. definition_at i (instruction_at s.code (place_of i)))

-- ---- the lines of the address a, whose node is x
-- its processes, slot by slot
unfoldable pub process_lines : Locality → Node → List Line
process_lines a x = joined 4 (λ k. choose (process_at x k).busy (process a (named (process_at x k).at) ∷ []) [])

-- its tuples, oldest first; a line has no mark
unfoldable pub tuple_lines : Locality → Node → List Line
tuple_lines a x = listed x.stored (λ i. tuple a (marked zero_tuple.mark (tuple_at x i)))

unfoldable pub lines_at : Net → Locality → List Line
lines_at s a = process_lines a (node_at s a) ++ tuple_lines a (node_at s a)

-- ---- the whole
unfoldable pub lines_of : Net → List Line
lines_of s = definitions_of s ++ joined s.addresses (λ a. lines_at s (address_of a))

unfoldable pub source_of : Net → Source
source_of s = record { policy = policy_of s; lines = lines_of s }

unfoldable pub text_of : Net → List ℕ
text_of s = printed (source_of s)
