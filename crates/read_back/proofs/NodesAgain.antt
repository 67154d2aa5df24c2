-- The nodes of a fresh net, again from its source (`Compiled.antt` of `linking`): their rows, node after node, then their processes and
-- tuples, address after address. Assumes nothing.
use Prim.Native.Nat.{ℕ, zero, suc, ◌+◌, ◌<◌, ◌≤◌}
use mathlib.Core.Path.{◌≡◌, refl, sym, ap, subst, ◌∙◌}
use mathlib.Core.List.{List, [], ◌∷◌, ◌++◌}
use native.Mathlib.Omega.{arith}
use lib.ListN.{length, get_or, length-replicate, get_or-replicate}
use Rattle.net.specs.Records.{zero_node, empty_net, node_at, address_of}
use Rattle.net.specs.Records.{with_node, with_rows, with_counts, with_format}
use Rattle.net.proofs.Past.{past_node}
use Rattle.text.specs.Joined.{joined}
use Rattle.terms.specs.Numbering.{Start}
use Rattle.linking.specs.Source.{Line}
use Rattle.linking.specs.Compiled.{total, place_in, ruled, peopled, unruled, governed}
use Rattle.written.proofs.WrittenProcesses.{bare_node, free}
use Rattle.written.proofs.WrittenWhole.{NetOk}
use Rattle.read_back.specs.Types.{Place, Row, Node, Net}
use Rattle.read_back.specs.NetSource.{listed, definitions_of, policy_of, process_lines, tuple_lines, lines_at, lines_of}
use Rattle.read_back.proofs.UpTo.{UpTo, up_to_none, up_to_next, up_to_all}
use Rattle.read_back.proofs.Listed.{listed_length}
use Rattle.read_back.proofs.LineLists.{people_append}
use Rattle.read_back.proofs.Definitions.{definitions, definitions_people}
use Rattle.read_back.proofs.PolicyAgain.{governed_again}
use Rattle.read_back.proofs.ProcessesPut.{processes_put}
use Rattle.read_back.proofs.TuplesPut.{tuples_put}
use Rattle.read_back.proofs.NetLines.{code_at, located, few_addresses, node_ok, lines_total, names_stand}

-- the net s, but for its code, of which there is none
pub record WithoutCode (s u : Net) : Type 0 where
  pub format_is : u.format ≡ s.format
  pub addresses_are : u.addresses ≡ s.addresses
  pub length_is : u.length ≡ s.length
  pub code_is : u.code ≡ empty_net.code
  pub nodes_are : u.nodes ≡ s.nodes

-- a net on the way to s: g at the first j addresses, h at the others, and no code yet
record Standing (s : Net) (g h : ℕ → Node) (j : ℕ) (u : Net) : Type 0 where
  pub format_is : u.format ≡ s.format
  pub addresses_are : u.addresses ≡ s.addresses
  pub length_is : u.length ≡ s.length
  pub code_is : u.code ≡ empty_net.code
  pub nodes_are : UpTo g h past_node 16 j u.nodes

module _ (s : Net) (g h : ℕ → Node) (j : ℕ) (u : Net) (x : Node) where
  standing_next : x ≡ g j → Standing s g h j u → Standing s g h (suc j) (with_node u (address_of j) x)
  unfolding with_node
  standing_next e t = record {
    format_is = t.format_is;
    addresses_are = t.addresses_are;
    length_is = t.length_is;
    code_is = t.code_is;
    nodes_are = up_to_next j x e t.nodes_are;
  }

-- ---- rows
rows_append : (i : ℕ) (rss tss : List (List Row)) (u : Net) → ruled i (rss ++ tss) u ≡ ruled (i + length rss) tss (ruled i rss u)
unfolding ruled
rows_append i [] tss u = ap (λ (m : ℕ). ruled m tss u) (omega arith)
rows_append i (rs ∷ rss) tss u =
    rows_append (suc i) rss tss _ ∙ ap (λ (m : ℕ). ruled m tss (ruled i (rs ∷ rss) u)) (omega arith)

module _ (s : Net) (r : ℕ → List Row) where
  -- a node with its rows alone
  abbrev barely : ℕ → Node
  barely a = bare_node (r a) free

  unruled_standing : Standing s barely (λ i. zero_node) 0 (unruled s.format s.addresses s.length)
  unfolding unruled with_counts with_format empty_net
  unruled_standing = record {
    format_is = refl;
    addresses_are = refl;
    length_is = refl;
    code_is = refl;
    nodes_are = up_to_none (length-replicate 16 zero_node) (λ i l. get_or-replicate 16 i zero_node past_node l);
  }

  with_rows_law : (j : ℕ) (w : Net) → get_or w.nodes j past_node ≡ zero_node → with_rows (node_at w (address_of j)) (r j) ≡ barely j
  unfolding node_at with_rows zero_node bare_node
  with_rows_law j w e = ap (λ (y : Node). with_rows y (r j)) e

  ruled_standing :
      (j : ℕ) (u : Net) → j ≤ 16 → Standing s barely (λ i. zero_node) 0 u
      → Standing s barely (λ i. zero_node) j (ruled 0 (listed j r) u)
  unfolding listed joined ruled
  ruled_standing zero u h t = t
  ruled_standing (suc j) u h t =
      let w : Net = ruled 0 (listed j r) u in
      let before = ruled_standing j u (omega arith) t in
      subst (Standing s barely (λ i. zero_node) (suc j))
      (sym (rows_append 0 (listed j r) (r j ∷ []) u
      ∙ ap (λ (i : ℕ). with_node w (address_of i) (with_rows (node_at w (address_of i)) (r j))) (omega (arith, listed_length j r))))
      (standing_next s barely _ j w _ (with_rows_law j w (before.nodes_are.left j (omega arith) h)) before)

module _ (s : Net) (ok : NetOk s) where
  abbrev rows_at : ℕ → List Row
  rows_at a = (node_at s (address_of a)).rows

  -- the net of the policies alone
  abbrev start : Net
  start = governed (policy_of s) (total (lines_of s))

  started : Standing s (barely s rows_at) (λ i. zero_node) s.addresses start
  started =
      subst (Standing s (barely s rows_at) (λ i. zero_node) s.addresses)
      (sym (governed_again s ok (total (lines_of s))
      ∙ ap (λ (k : ℕ). ruled 0 (listed s.addresses rows_at) (unruled s.format s.addresses k)) (lines_total s ok)))
      (ruled_standing s rows_at s.addresses _ (few_addresses s ok) (unruled_standing s rows_at))

  -- ---- processes and tuples, address after address
  abbrev before : ℕ → Node
  before a = get_or start.nodes a past_node

  abbrev after : ℕ → Node
  after a = node_at s (address_of a)

  abbrev place : Start → Place
  place = place_in (lines_of s)

  abbrev lines_to : ℕ → List Line
  lines_to j = joined j (λ a. lines_at s (address_of a))

  unpeopled : Standing s after before 0 start
  unpeopled = record {
    format_is = started.format_is;
    addresses_are = started.addresses_are;
    length_is = started.length_is;
    code_is = started.code_is;
    nodes_are = up_to_none started.nodes_are.size_is (λ i l. refl);
  }

  peopled_at :
      (j m : ℕ) (u : Net) → j < s.addresses → Standing s after before j u
      → peopled place m (lines_at s (address_of j)) u ≡ with_node u (address_of j) (after j)
  unfolding lines_at node_at
  peopled_at j m u h t =
      let few = few_addresses s ok in
      let node = node_ok s ok j h in
      let inside : j < length u.nodes = omega (arith, t.nodes_are.size_is) in
      let slots = node.slots_ok in
      let ruled-at = t.nodes_are.left j (omega arith) (omega arith) ∙ started.nodes_are.done j h (omega arith) in
      people_append place m (process_lines (address_of j) (after j)) (tuple_lines (address_of j) (after j)) u
      ∙ tuples_put place s.addresses (address_of j) (after j) node.store_ok u inside _ _
      (processes_put place s.length (names_stand s ok) (address_of j) (after j) u inside slots.count slots.slots m ruled-at)

  peopled_standing : (j m : ℕ) → j ≤ s.addresses → Standing s after before j (peopled place m (lines_to j) start)
  unfolding joined peopled
  peopled_standing zero m h = unpeopled
  peopled_standing (suc j) m h =
      let t = peopled_standing j m (omega arith) in
      subst (Standing s after before (suc j))
      (sym (people_append place m (lines_to j) (lines_at s (address_of j)) start ∙ peopled_at j _ _ h t))
      (standing_next s after before j _ (after j) refl t)

  lines_put : Standing s after before s.addresses (peopled place 0 (lines_of s) start)
  unfolding lines_of definitions_of
  lines_put =
      subst (Standing s after before s.addresses)
      (sym (people_append place 0 (definitions (code_at s) s.length) (located s) start
      ∙ ap (peopled place (0 + total (definitions (code_at s) s.length)) (located s))
      (definitions_people (code_at s) place s.length 0 start)))
      (peopled_standing s.addresses _ (omega arith))

  pub nodes_again : WithoutCode s (peopled (place_in (lines_of s)) 0 (lines_of s) (governed (policy_of s) (total (lines_of s))))
  unfolding node_at
  nodes_again = record {
    format_is = lines_put.format_is;
    addresses_are = lines_put.addresses_are;
    length_is = lines_put.length_is;
    code_is = lines_put.code_is;
    nodes_are =
        up_to_all s.addresses s.nodes ok.nodes_ok.size_is (λ i l. refl)
        (λ i l m. started.nodes_are.left i l m ∙ (ok.nodes_ok.holds i m).unused l) lines_put.nodes_are;
  }
