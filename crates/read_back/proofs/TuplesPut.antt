-- What the tuple lines of an address put at its node (`Compiled.antt` of `linking`): from a node with its rows and processes the node x
-- that they were written for, its tuples oldest first. Assumes nothing.
use Prim.Native.Nat.{ℕ, zero, suc, ◌+◌, ◌<◌, ◌≤◌}
use mathlib.Core.Path.{◌≡◌, refl, sym, ap, subst, ◌∙◌}
use mathlib.Core.List.{List, [], ◌∷◌}
use native.Mathlib.Omega.{arith}
use native.Mathlib.Numerals.{add-one}
use lib.ListN.{length, set, replicate, length-replicate, get_or-replicate}
use lib.Dec.{ltb}
use borrow.Author.Tests.{lt-ltb}
use Rattle.net.specs.Records.{zero_tuple, tuple_at, marked}
use Rattle.net.specs.Records.{with_tuple, with_node}
use Rattle.net.proofs.Laws.{choose_true}
use Rattle.net.proofs.Past.{past_tuple}
use Rattle.text.specs.Joined.{joined}
use Rattle.terms.specs.Numbering.{Start}
use Rattle.linking.specs.Source.{Line, tuple}
use Rattle.linking.specs.Compiled.{total, placed, peopled}
use Rattle.written.proofs.WrittenProcesses.{bare_node}
use Rattle.written.proofs.WrittenStore.{TuplesOk}
use Rattle.written.proofs.WrittenTuples.{marked_again}
use Rattle.read_back.specs.Types.{Locality, Place, Tuple, Node, Net}
use Rattle.read_back.specs.NetSource.{listed, tuple_lines}
use Rattle.read_back.proofs.LineLists.{people_append}
use Rattle.read_back.proofs.UpTo.{UpTo, up_to_none, up_to_next, up_to_all}
use Rattle.read_back.proofs.NodeHeld.{tuple_put}

module _
    (place : Start → Place) (n : ℕ) (a : Locality) (x : Node) (ok : TuplesOk a n x) (u : Net) (inside : a.0 < length u.nodes)
  where
    abbrev storing : ℕ → List Tuple → Node
    storing j ts = record { rows = x.rows; processes = x.processes; stored = j; tuples = ts }

    -- the net after j tuples
    record Stored (j : ℕ) (w : Net) : Type 0 where
      pub ts : List Tuple
      pub is : w ≡ with_node u a (storing j ts)
      pub store : UpTo (tuple_at x) (λ i. zero_tuple) past_tuple 16 j ts

    abbrev tuple_line : ℕ → Line
    tuple_line j = tuple a (marked zero_tuple.mark (tuple_at x j))

    room_for_law : (j : ℕ) (ts : List Tuple) (t : Tuple) → j < 16 → with_tuple (storing j ts) t ≡ storing (suc j) (set ts j t)
    unfolding with_tuple
    room_for_law j ts t h =
        choose_true (ltb j 16) _ _ (lt-ltb j 16 h) ∙ ap (λ (i : ℕ). storing i (set ts j t)) (add-one j)

    next_stored : (j m : ℕ) (w : Net) → j < x.stored → Stored j w → Stored (suc j) (peopled place m (tuple_line j ∷ []) w)
    unfolding peopled tuple_at
    next_stored j m w h s =
        let t : Tuple = tuple_at x j in
        let few = ok.few in
        record {
          ts = set s.ts j t;
          is =
              ap (placed place m (tuple_line j)) s.is
              ∙ tuple_put a u inside place m (storing j s.ts) (marked zero_tuple.mark t)
              ∙ ap (λ (v : Tuple). with_node u a (with_tuple (storing j s.ts) v))
              (marked_again a t zero_tuple.mark ((ok.tuples_ok.holds j (omega arith)).used h).mark_is)
              ∙ ap (with_node u a) (room_for_law j s.ts t (omega arith));
          store = up_to_next j t refl s.store;
        }

    tuples_stored : (j m : ℕ) (w : Net) → j ≤ x.stored → Stored 0 w → Stored j (peopled place m (listed j tuple_line) w)
    unfolding listed joined peopled
    tuples_stored zero m w h s = s
    tuples_stored (suc j) m w h s =
        subst (Stored (suc j)) (sym (people_append place m (listed j tuple_line) (tuple_line j ∷ []) w))
        (next_stored j (m + total (listed j tuple_line)) _ h (tuples_stored j m w (omega arith) s))

    pub tuples_put :
        (m : ℕ) (w : Net) → w ≡ with_node u a (bare_node x.rows x.processes) → peopled place m (tuple_lines a x) w ≡ with_node u a x
    unfolding tuple_lines bare_node tuple_at
    tuples_put m w e =
        let s = tuples_stored x.stored m w (omega arith) (record {
          ts = replicate 16 zero_tuple;
          is = e;
          store = up_to_none (length-replicate 16 zero_tuple) (λ i l. get_or-replicate 16 i zero_tuple past_tuple l);
        }) in
        s.is
        ∙ ap (λ (ts : List Tuple). with_node u a (storing x.stored ts))
        (up_to_all x.stored x.tuples ok.tuples_ok.size_is (λ i l. refl)
        (λ i l g. (ok.tuples_ok.holds i g).unused l) s.store)
