-- The bytes of a source (document 01, "The planners' notation"; document 004, table 1; document 02, slip 13): one definition for each
-- production, beside its piece of the notation: rows, then the parts of lines, then lines. Nothing here reads a text.
use Rattle.std.specs.Prelude.{ℕ, suc, Bool, not, List, [], ◌∷◌, ◌++◌, map, take}
use Rattle.net.specs.Choice.{choose}
use Rattle.net.specs.Groups.{members_of}
use Rattle.sound.specs.Soundness.{is_none}
use Rattle.text.specs.Bytes.{bytes}
use Rattle.text.specs.Decimal.{decimal, signed_decimal}
use Rattle.terms.specs.Terms.{Process, Action, nil, name, fork, act, out, input, read, eval, newloc, out_all}
use Rattle.linking.specs.Source.{Line, definition, process, tuple, Policy, plain, by_origin, Source}
use Rattle.sources.specs.Types.{Locality, Group, Item, Tuple, Rights, Row, Target, Pattern, Instruction}

-- ---- parts that stand in several places

-- a line's end
unfoldable pub newline : List ℕ
newline = 10 ∷ []

-- a part that is printed where the test holds, and left away where it does not
unfoldable pub given : Bool → List ℕ → List ℕ
given b text = choose b text []

-- parts with commas (44) between them
unfoldable pub separated : List (List ℕ) → List ℕ
separated [] = []
separated (x ∷ []) = x
separated (x ∷ y ∷ xs) = x ++ (44 ∷ separated (y ∷ xs))

unfoldable pub address_text : Locality → List ℕ
address_text l = decimal l.0

-- ---- rows: 0 has n 0:io 1:r, and in format 2 0 from 1 has n 0:io 1:r

-- letters in the order i, r, o, e: io
unfoldable pub rights_text : Rights → List ℕ
rights_text r =
    given r.take (bytes "i") ++ (given r.read (bytes "r") ++ (given r.put (bytes "o") ++ given r.send (bytes "e")))

-- an address with its rights, after a space; one without rights is left away
unfoldable pub grant_text : ℕ → Rights → List ℕ
grant_text l r = given (not (is_none r)) (bytes " " ++ (decimal l ++ (bytes ":" ++ rights_text r)))

-- addresses ascending from l
unfoldable pub grants_text : ℕ → List Rights → List ℕ
grants_text l [] = []
grants_text l (r ∷ rs) = grant_text l r ++ grants_text (suc l) rs

-- what stands behind ` has`, with the newline
unfoldable pub row_rest_text : Row → List ℕ
row_rest_text r = given r.create (bytes " n") ++ (grants_text 0 r.rights ++ newline)

-- the row of address i
unfoldable pub row_text : ℕ → Row → List ℕ
row_text i r = decimal i ++ (bytes " has" ++ row_rest_text r)

-- one row for each address from i up
unfoldable pub rows_text : ℕ → List Row → List ℕ
rows_text i [] = []
rows_text i (r ∷ rs) = row_text i r ++ rows_text (suc i) rs

-- the row of node i for origin j
unfoldable pub origin_row_text : ℕ → ℕ → Row → List ℕ
origin_row_text i j r = decimal i ++ (bytes " from " ++ (decimal j ++ (bytes " has" ++ row_rest_text r)))

-- one for each origin from j up
unfoldable pub node_text : ℕ → ℕ → List Row → List ℕ
node_text i j [] = []
node_text i j (r ∷ rs) = origin_row_text i j r ++ node_text i (suc j) rs

-- those of each node from i up
unfoldable pub nodes_text : ℕ → List (List Row) → List ℕ
nodes_text i [] = []
nodes_text i (rs ∷ rss) = node_text i 0 rs ++ nodes_text (suc i) rss

unfoldable pub policy_text : Policy → List ℕ
policy_text (plain rs) = rows_text 0 rs
policy_text (by_origin rss) = nodes_text 0 rss

-- ---- tuples: <5,@1>
unfoldable pub item_text : Item → List ℕ
item_text (Item.Reading x) = signed_decimal x  -- 5
item_text (Item.Address l) = bytes "@" ++ address_text l  -- @1

unfoldable pub tuple_text : Tuple → List ℕ
tuple_text t = bytes "<" ++ (separated (map (λ f. item_text f.item) (take t.count t.fields)) ++ bytes ">")

-- ---- templates: 5,@1,self,v0 or !x0,!u1
unfoldable pub pattern_text : Pattern → List ℕ
pattern_text (Pattern.Reading x) = signed_decimal x  -- 5
pattern_text (Pattern.Address l) = bytes "@" ++ address_text l  -- @1
pattern_text Pattern.Own = bytes "self"  -- self
pattern_text (Pattern.Held v) = bytes "v" ++ decimal v  -- v0
pattern_text (Pattern.FormalReading v) = bytes "!x" ++ decimal v  -- !x0
pattern_text (Pattern.FormalAddress v) = bytes "!u" ++ decimal v  -- !u1

unfoldable pub template_text : Instruction → List ℕ
template_text c = separated (map (λ f. pattern_text f.pattern) (take c.count c.template))

-- ---- targets: 1, self, v2
unfoldable pub target_text : Target → List ℕ
target_text (Target.Written l) = address_text l  -- 1
target_text Target.Own = bytes "self"  -- self
target_text (Target.Held v) = bytes "v" ++ decimal v  -- v2

-- ---- sets: {0,2}, {}
unfoldable pub group_text : Group → List ℕ
group_text g = bytes "{" ++ (separated (map address_text (members_of g)) ++ bytes "}")

-- ---- processes and actions
unfoldable mutual
  pub process_text : Process → List ℕ
  process_text nil = bytes "nil"  -- nil
  process_text (name k) = bytes "A" ++ decimal k  -- A3
  process_text (fork p q) = bytes "(" ++ (process_text p ++ (bytes " | " ++ (process_text q ++ bytes ")")))  -- (P | P)
  process_text (act a p) = action_text a ++ (bytes "." ++ process_text p)  -- an action, a dot and P

  pub action_text : Action → List ℕ
  action_text (out c t) = bytes "out(" ++ (template_text c ++ (bytes ")@" ++ target_text t))  -- out(5,@1,self,v0)@1
  action_text (input c t) = bytes "in(" ++ (template_text c ++ (bytes ")@" ++ target_text t))  -- in(!x0,!u1)@self
  action_text (read c t) = bytes "read(" ++ (template_text c ++ (bytes ")@" ++ target_text t))  -- read(!x0)@v2
  action_text (eval p t) = bytes "eval(" ++ (process_text p ++ (bytes ")@" ++ target_text t))  -- eval(P)@0
  action_text (newloc v) = bytes "newloc(u" ++ (decimal v ++ bytes ")")  -- newloc(u2)
  action_text (out_all c g) = bytes "out(" ++ (template_text c ++ (bytes ")@" ++ group_text g))  -- out(5)@{0,2}

-- ---- the lines after the rows
unfoldable pub line_text : Line → List ℕ
line_text (definition k p) = bytes "A" ++ (decimal k ++ (bytes " = " ++ (process_text p ++ newline)))  -- A3 = P
line_text (process a p) = address_text a ++ (bytes " :: " ++ (process_text p ++ newline))  -- 0 :: P
line_text (tuple a t) = address_text a ++ (bytes " :: " ++ (tuple_text t ++ newline))  -- 0 :: <5,@1>

unfoldable pub lines_text : List Line → List ℕ
lines_text [] = []
lines_text (l ∷ ls) = line_text l ++ lines_text ls

-- ---- the whole text: rows first
unfoldable pub printed : Source → List ℕ
printed x = policy_text x.policy ++ lines_text x.lines
