-- The net of a source (document 01, "The planners' notation"; document 02, slip 13): instructions numbered by the place of their
-- first character, and names resolved.
use Rattle.std.specs.Prelude.{ℕ, zero, suc, ◌+◌, ◌-◌, Bool, true, false, List, [], ◌∷◌, ◌++◌, map, length, replicate, eqb}
use Rattle.net.specs.Choice.{choose}
use Rattle.net.specs.Records.{empty_net, zero_row, node_at, starting_at, process_count, address_of, place_of}
use Rattle.net.specs.Records.{alike, marked, with_node, with_rows, with_process, with_tuple, with_counts, with_format}
use Rattle.text.specs.Buffer.{over}
use Rattle.terms.specs.Numbering.{size, Start, here, called, start_of, code_of}
use Rattle.linking.specs.Types.{Place, Row, Instruction, Net}
use Rattle.linking.specs.Source.{Line, definition, process, tuple, Policy, plain, by_origin, Source}

unfoldable pub size_of : Line → ℕ
size_of (definition k p) = size p
size_of (process a p) = size p
size_of (tuple a t) = 0

-- how many instructions the lines have
unfoldable pub total : List Line → ℕ
total [] = 0
total (l ∷ ls) = size_of l + total ls

-- ---- names: a name stands for the first instruction of its body, and a body that is a bare name for that name's

-- where the body of name k starts, by its first definition; instructions of `ls` are numbered from n on
unfoldable pub defined_in : ℕ → ℕ → List Line → Start
defined_in k n [] = called k
defined_in k n (definition j p ∷ ls) = choose (eqb k j) (start_of n p) (defined_in k (n + size p) ls)
defined_in k n (process a p ∷ ls) = defined_in k (n + size p) ls
defined_in k n (tuple a t ∷ ls) = defined_in k n ls

-- where a start leads after at most h names
unfoldable pub settle : ℕ → List Line → Start → Start
settle zero ls x = x
settle (suc h) ls (here n) = here n
settle (suc h) ls (called k) = settle h ls (defined_in k 0 ls)

unfoldable pub number_of : Start → ℕ
number_of (here n) = n
number_of (called k) = 0

unfoldable pub is_here : Start → Bool
is_here (here n) = true
is_here (called k) = false

-- 512 names, so that more hops than 512 go in a circle
unfoldable pub settled : List Line → Start → Start
settled ls x = settle 512 ls x

-- the place of a start
unfoldable pub place_in : List Line → Start → Place
place_in ls x = place_of (number_of (settled ls x))

-- ---- the code: each start is resolved to its place, and the instructions of the lines that follow are numbered from n on
unfoldable pub line_code : (Start → Place) → ℕ → Line → List Instruction
line_code place n (definition k p) = code_of place n p
line_code place n (process a p) = code_of place n p
line_code place n (tuple a t) = []

unfoldable pub code_from : (Start → Place) → ℕ → List Line → List Instruction
code_from place n [] = []
code_from place n (l ∷ ls) = line_code place n l ++ code_from place (n + size_of l) ls

-- ---- policies: a text with a row for each address is of format 1, one with rows by origin of format 2
unfoldable pub format_of : Policy → ℕ
format_of (plain rs) = 1
format_of (by_origin rss) = 2

unfoldable pub addresses_of : Policy → ℕ
addresses_of (plain rs) = length rs
addresses_of (by_origin rss) = length rss

-- the rows of a node by origin, empty past the last one
unfoldable pub filled : List Row → List Row
filled rs = rs ++ replicate (16 - length rs) zero_row

-- the 16 rows of each node
unfoldable pub rows_of : Policy → List (List Row)
rows_of (plain rs) = map alike rs
rows_of (by_origin rss) = map filled rss

-- ---- the net: its rows, node after node, its processes and tuples, line after line, its code
unfoldable pub ruled : ℕ → List (List Row) → Net → Net
ruled i [] s = s
ruled i (rs ∷ rss) s = ruled (suc i) rss (with_node s (address_of i) (with_rows (node_at s (address_of i)) rs))

-- what a line puts at its node; its first instruction has the number n. A tuple bears its own node's address (document 02, slip
-- 8), and a process has it as its origin (slip 10)
unfoldable pub placed : (Start → Place) → ℕ → Line → Net → Net
placed place n (definition k p) s = s
placed place n (process a p) s =
    with_node s a (with_process (node_at s a) (process_count (node_at s a)) (starting_at a (place (start_of n p))))
placed place n (tuple a t) s = with_node s a (with_tuple (node_at s a) (marked a t))

unfoldable pub peopled : (Start → Place) → ℕ → List Line → Net → Net
peopled place n [] s = s
peopled place n (l ∷ ls) s = peopled place (n + size_of l) ls (placed place n l s)

unfoldable pub with_code : Net → List Instruction → Net
with_code s code = record {
  format = s.format;
  addresses = s.addresses;
  length = s.length;
  nodes = s.nodes;
  code = over s.code 0 code;
}

-- of format f, with n addresses and k instructions, and nothing at any address yet
unfoldable pub unruled : ℕ → ℕ → ℕ → Net
unruled f n k = with_counts (with_format empty_net f) n k

-- with the rows of its policies
unfoldable pub governed : Policy → ℕ → Net
governed x k = ruled 0 (rows_of x) (unruled (format_of x) (addresses_of x) k)

unfoldable pub compiled : Source → Net
compiled x =
    with_code
    (peopled (place_in x.lines) 0 x.lines (governed x.policy (total x.lines)))
    (code_from (place_in x.lines) 0 x.lines)
