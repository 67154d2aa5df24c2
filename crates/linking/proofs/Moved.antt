-- Processes that stand at place 0 until all lines are read, and are then moved to the places of their starts, stand where
-- `peopled` puts them (`specs/Placing.antt`, `specs/State.antt`, `specs/Compiled.antt`). Assumes nothing.
use Prim.Native.Nat.{ℕ, ◌+◌, ◌*◌, ◌<◌, ◌≤◌}
use mathlib.Core.Path.{◌≡◌, refl, sym, ap, ◌∙◌}
use mathlib.Core.Logic.{◌≢◌}
use mathlib.Core.Bool.{Bool, true, false}
use mathlib.Core.List.{List, [], ◌∷◌}
use native.Mathlib.Omega.{arith}
use lib.ListN.{length, get_or, set, replicate, length-set, length-replicate}
use lib.Seq.{get_or-set_same, get_or-set_other}
use lib.Dec.{ltb}
use Rattle.net.specs.Choice.{choose, fold}
use Rattle.net.specs.Records.{starting_at, place_of, process_at, node_at, address_of, process_count, moved_to, marked, with_node, with_process, with_tuple}
use Rattle.net.specs.Shape.{Shaped}
use Rattle.net.proofs.Laws.{choose_false}
use Rattle.net.proofs.Every.{Every, chosen, every_set}
use Rattle.net.proofs.Past.{past_process, past_node}
use Rattle.terms.specs.Numbering.{Start, start_of}
use Rattle.terms.specs.Table.{start_word}
use Rattle.terms.specs.Loading.{fits, Resolves}
use Rattle.terms.specs.Terms as Terms
use Rattle.terms.proofs.Loaded.{start_back}
use Rattle.linking.specs.Types.{Locality, Place, Tuple, Process, Node, Net}
use Rattle.linking.specs.Source.{Line, definition, process, tuple}
use Rattle.linking.specs.Compiled.{total, placed, peopled}
use Rattle.linking.specs.Placing.{moved_by, moved_slot, moved_node, moved_address, moved_net}
use Rattle.linking.specs.State.{State, begun, unplaced, after, after_all, FitsLine, FitAll}
use Rattle.linking.proofs.EachPlace.{each, each_same, each_none, each_at, each_set}
use Rattle.linking.proofs.Peopled.{after_count_one}

-- ---- processes of a node, and nodes of a net
abbrev with_slots : Node → List Process → Node
with_slots x ps = record { rows = x.rows; processes = ps; stored = x.stored; tuples = x.tuples }

abbrev with_nodes : Net → List Node → Net
with_nodes s xs = record { format = s.format; addresses = s.addresses; length = s.length; nodes = xs; code = s.code }

module _ (resolve : ℕ → Place) where
  abbrev moves : List ℕ → ℕ → ℕ → Process → Process
  moves starts a j = moved_by resolve (get_or starts (4 * a + j) 0)

  node_is :
      (starts : List ℕ) (a : ℕ) (x : Node)
      → moved_node resolve starts a x ≡ with_slots x (each past_process (moves starts a) 4 x.processes)
  unfolding moved_node moved_slot fold each with_process process_at
  node_is starts a x = refl

  net_is :
      (starts : List ℕ) (s : Net)
      → moved_net resolve starts s ≡ with_nodes s (each past_node (moved_node resolve starts) 16 s.nodes)
  unfolding moved_net moved_address fold each with_node node_at
  net_is starts s = refl

  -- ---- no process yet
  node_none : (starts : List ℕ) (a : ℕ) (x : Node) → ((j : ℕ) → j < 4 → (process_at x j).busy ≡ false) → moved_node resolve starts a x ≡ x
  unfolding process_at moved_by
  node_none starts a x free =
      node_is starts a x
      ∙ ap (with_slots x) (each_none past_process (moves starts a) 4 x.processes (λ j l. choose_false _ _ _ (free j l)))

  net_none :
      (starts : List ℕ) (s : Net) → ((a : Locality) (j : ℕ) → a.0 < 16 → j < 4 → (process_at (node_at s a) j).busy ≡ false)
      → moved_net resolve starts s ≡ s
  unfolding node_at
  net_none starts s free =
      net_is starts s
      ∙ ap (with_nodes s)
      (each_none past_node (moved_node resolve starts) 16 s.nodes (λ i l. node_none starts i _ (λ j g. free (address_of i) j l g)))

  -- ---- one node set anew
  node_at_law :
      (starts : List ℕ) (s : Net) (a : Locality) → length s.nodes ≡ 16 → a.0 < 16
      → node_at (moved_net resolve starts s) a ≡ moved_node resolve starts a.0 (node_at s a)
  unfolding node_at
  node_at_law starts s a e h =
      ap (λ (t : Net). node_at t a) (net_is starts s) ∙ each_at past_node (moved_node resolve starts) 16 s.nodes (omega arith) a.0 h

  net_set :
      (starts next : List ℕ) (s : Net) (a : Locality) (x : Node) → length s.nodes ≡ 16 → a.0 < 16
      → ((i : ℕ) (y : Node) → i < 16 → i ≢ a.0 → moved_node resolve next i y ≡ moved_node resolve starts i y)
      → moved_net resolve next (with_node s a x) ≡ with_node (moved_net resolve starts s) a (moved_node resolve next a.0 x)
  unfolding with_node
  net_set starts next s a x e h same =
      net_is next (with_node s a x)
      ∙ ap (with_nodes s) (each_set past_node (moved_node resolve starts) (moved_node resolve next) 16 s.nodes a.0 x e h same)
      ∙ ap (λ (t : Net). with_node t a (moved_node resolve next a.0 x)) (sym (net_is starts s))

  -- ---- a tuple more
  node_tuple :
      (starts : List ℕ) (a : ℕ) (x : Node) (t : Tuple) → moved_node resolve starts a (with_tuple x t) ≡ with_tuple (moved_node resolve starts a x) t
  unfolding with_tuple moved_node moved_slot fold with_process process_at choose
  node_tuple starts a x t = go (ltb x.stored 16)
    where
      more : Node → Node
      more y = record { rows = y.rows; processes = y.processes; stored = y.stored + 1; tuples = set y.tuples y.stored t }

      go : (b : Bool) → moved_node resolve starts a (choose b (more x) x) ≡ choose b (more (moved_node resolve starts a x)) (moved_node resolve starts a x)
      go true = refl
      go false = refl

  -- ---- a process more, in slot k of address a
  busy_kept : (w : ℕ) (p : Process) → (moved_by resolve w p).busy ≡ p.busy
  unfolding moved_by moved_to
  busy_kept w p = chosen (λ (q : Process). q.busy ≡ p.busy) p.busy _ _ (λ _. refl) (λ _. refl)

  slot_kept :
      (starts : List ℕ) (a : ℕ) (x : Node) → length x.processes ≡ 4 → (j : ℕ) → j < 4
      → (process_at (moved_node resolve starts a x) j).busy ≡ (process_at x j).busy
  unfolding process_at
  slot_kept starts a x e j h =
      ap (λ (y : Node). (process_at y j).busy) (node_is starts a x)
      ∙ ap (λ (p : Process). p.busy) (each_at past_process (moves starts a) 4 x.processes (omega arith) j h)
      ∙ busy_kept _ _

  count_kept : (starts : List ℕ) (a : ℕ) (x : Node) → length x.processes ≡ 4 → process_count (moved_node resolve starts a x) ≡ process_count x
  unfolding process_count fold
  count_kept starts a x e =
      let kept = slot_kept starts a x e in
      rw (kept 0 (omega arith), kept 1 (omega arith), kept 2 (omega arith), kept 3 (omega arith)) refl

  module _ (starts : List ℕ) (a k w : ℕ) (h : k < 4) where
    node_other : (i : ℕ) (x : Node) → i ≢ a → moved_node resolve (set starts (4 * a + k) w) i x ≡ moved_node resolve starts i x
    node_other i x d =
        node_is (set starts (4 * a + k) w) i x
        ∙ ap (with_slots x)
        (each_same past_process (moves starts i) (moves (set starts (4 * a + k) w) i) 4 x.processes
        (λ j p l. ap (λ (v : ℕ). moved_by resolve v p) (get_or-set_other starts (4 * a + k) (4 * i + j) w 0 (λ e. omega (arith, d)))))
        ∙ sym (node_is starts i x)

    moved_start :
        (o : Locality) → 4 * a + k < length starts
        → moves (set starts (4 * a + k) w) a k (starting_at o (place_of 0)) ≡ starting_at o (resolve w)
    unfolding moved_by starting_at moved_to choose
    moved_start o l = ap (λ (v : ℕ). starting_at o (resolve v)) (get_or-set_same starts (4 * a + k) w 0 l)

    node_process :
        (o : Locality) (x : Node) → length x.processes ≡ 4 → 4 * a + k < length starts
        → moved_node resolve (set starts (4 * a + k) w) a (with_process x k (starting_at o (place_of 0)))
        ≡ with_process (moved_node resolve starts a x) k (starting_at o (resolve w))
    unfolding with_process
    node_process o x e l =
        node_is (set starts (4 * a + k) w) a (with_process x k (starting_at o (place_of 0)))
        ∙ ap (with_slots x)
        (each_set past_process (moves starts a) (moves (set starts (4 * a + k) w) a) 4 x.processes k (starting_at o (place_of 0)) e h
        (λ j p g d. ap (λ (v : ℕ). moved_by resolve v p) (get_or-set_other starts (4 * a + k) (4 * a + j) w 0 (λ q. omega (arith, d))))
        ∙ ap (set (each past_process (moves starts a) 4 x.processes) k) (moved_start o l))
        ∙ ap (λ (y : Node). with_process y k (starting_at o (resolve w))) (sym (node_is starts a x))

-- ---- the state while lines are read: four slots at each address, and a word for each slot
record Sized (s : State) : Type 0 where
  nodes_ok : Every (λ i x. length x.processes ≡ 4) past_node 16 s.net.nodes
  starts_are : length s.starts ≡ 64

tuple_slots : (x : Node) (t : Tuple) → length x.processes ≡ 4 → length (with_tuple x t).processes ≡ 4
unfolding with_tuple
tuple_slots x t e = chosen (λ (y : Node). length y.processes ≡ 4) (ltb x.stored 16) _ _ (λ _. e) (λ _. e)

slots_at : (s : State) → Sized s → (a : Locality) → a.0 < 16 → length (node_at s.net a).processes ≡ 4
unfolding node_at
slots_at s ok a h = ok.nodes_ok.holds a.0 h

sized_after : (l : Line) (s : State) → FitsLine s.net l → Sized s → Sized (after l s)
unfolding after placed with_node with_process node_at FitsLine
sized_after (definition k x) s h ok = record { nodes_ok = ok.nodes_ok; starts_are = ok.starts_are }
sized_after (process a x) s h ok = record {
  nodes_ok =
      every_set a.0 _ ok.nodes_ok (λ j y d e. e) (length-set (node_at s.net a).processes _ _ ∙ ok.nodes_ok.holds a.0 h.0);
  starts_are = length-set s.starts _ _ ∙ ok.starts_are;
}
sized_after (tuple a t) s h ok = record {
  nodes_ok = every_set a.0 _ ok.nodes_ok (λ j y d e. e) (tuple_slots _ (marked a t) (ok.nodes_ok.holds a.0 h));
  starts_are = ok.starts_are;
}

module _ (resolve : ℕ → Place) (place : Start → Place) (r : Resolves resolve place) where
  -- ---- one line
  process_placed :
      (t : Net) (a : Locality) (x : Node) (k : ℕ) (p q : Place) → node_at t a ≡ x → process_count x ≡ k → p ≡ q
      → with_node t a (with_process x k (starting_at a p)) ≡ with_node t a (with_process (node_at t a) (process_count (node_at t a)) (starting_at a q))
  process_placed t a x k p q e c h = rw (e, c, h) refl

  moved_process :
      (a : Locality) (x : Terms.Process) (s : State) → Sized s → a.0 < 16 → fits x → process_count (node_at s.net a) < 4 → s.count ≤ 512
      → moved_net resolve (after (process a x) s).starts (after (process a x) s).net
      ≡ placed place s.count (process a x) (moved_net resolve s.starts s.net)
  unfolding after placed unplaced
  moved_process a x s ok h f room b =
      let node = node_at s.net a in
      let k = process_count node in
      let w = start_word (start_of s.count x) in
      let size = ok.nodes_ok.size_is in
      let slots : length node.processes ≡ 4 = slots_at s ok a h in
      net_set resolve s.starts (set s.starts (4 * a.0 + k) w) s.net a _ size h
      (λ i y l d. node_other resolve s.starts a.0 k w room i y d)
      ∙ ap (with_node (moved_net resolve s.starts s.net) a)
      (node_process resolve s.starts a.0 k w room a node slots (omega (arith, ok.starts_are)))
      ∙ process_placed _ a _ k _ _ (node_at_law resolve s.starts s.net a size h)
      (count_kept resolve s.starts a.0 node slots) (start_back resolve place r s.count x f b)

  moved_tuple :
      (a : Locality) (t : Tuple) (s : State) → Sized s → a.0 < 16
      → moved_net resolve s.starts (with_node s.net a (with_tuple (node_at s.net a) t))
      ≡ with_node (moved_net resolve s.starts s.net) a (with_tuple (node_at (moved_net resolve s.starts s.net) a) t)
  moved_tuple a t s ok h =
      let size = ok.nodes_ok.size_is in
      net_set resolve s.starts s.starts s.net a _ size h (λ i y l d. refl)
      ∙ ap (with_node (moved_net resolve s.starts s.net) a)
      (node_tuple resolve s.starts a.0 (node_at s.net a) t
      ∙ ap (λ (x : Node). with_tuple x t) (sym (node_at_law resolve s.starts s.net a size h)))

  moved_line :
      (l : Line) (s : State) → Sized s → FitsLine s.net l → s.count ≤ 512
      → moved_net resolve (after l s).starts (after l s).net ≡ placed place s.count l (moved_net resolve s.starts s.net)
  unfolding after placed FitsLine
  moved_line (definition k x) s ok h b = refl
  moved_line (process a x) s ok h b = moved_process a x s ok h.0 h.1.0 h.1.1 b
  moved_line (tuple a t) s ok h b = moved_tuple a (marked a t) s ok h

  -- ---- all lines
  moved_lines :
      (ls : List Line) (s : State) → Sized s → FitAll ls s → s.count + total ls ≤ 512
      → moved_net resolve (after_all ls s).starts (after_all ls s).net ≡ peopled place s.count ls (moved_net resolve s.starts s.net)
  unfolding after_all peopled FitAll total
  moved_lines [] s ok h b = refl
  moved_lines (l ∷ ls) s ok h b =
      moved_lines ls (after l s) (sized_after l s h.0 ok) h.1 (omega (arith, after_count_one l s))
      ∙ rw (after_count_one l s, moved_line l s ok h.0 (omega arith)) refl

  pub moved_all :
      (ls : List Line) (base : Net) → Shaped base
      → ((a : Locality) (j : ℕ) → a.0 < 16 → j < 4 → (process_at (node_at base a) j).busy ≡ false)
      → FitAll ls (begun base) → total ls ≤ 512
      → moved_net resolve (after_all ls (begun base)).starts (after_all ls (begun base)).net ≡ peopled place 0 ls base
  unfolding begun node_at
  moved_all ls base shape free h b =
      moved_lines ls (begun base)
      (record {
        nodes_ok = record { size_is = shape.nodes_are; holds = λ i l. (shape.each_node (address_of i) l).processes_are };
        starts_are = length-replicate {A = ℕ} 64 0;
      })
      h (omega arith)
      ∙ ap (peopled place 0 ls) (net_none resolve (replicate 64 0) base free)
