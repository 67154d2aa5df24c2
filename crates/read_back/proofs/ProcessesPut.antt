-- What the process lines of an address put at its node (`Compiled.antt` of `linking`): from a node with its rows alone the processes of
-- the node x that they were written for, slot by slot. Assumes nothing.
use Prim.Native.Nat.{ℕ, zero, suc, ◌+◌, ◌<◌, ◌≤◌}
use mathlib.Core.Path.{◌≡◌, refl, sym, ap, subst, ◌∙◌}
use mathlib.Core.List.{List, [], ◌∷◌}
use native.Mathlib.Omega.{arith}
use native.Mathlib.Decide.{dec_le}
use lib.ListN.{length, set, length-replicate, get_or-replicate}
use lib.Dec.{ltb}
use borrow.Author.Tests.{lt-ltb, le-ltb}
use Rattle.net.specs.Choice.{choose}
use Rattle.net.specs.Records.{free_process, starting_at, process_at, node_at, process_count, place_of}
use Rattle.net.specs.Records.{with_process, with_node}
use Rattle.net.proofs.Laws.{choose_true, choose_false}
use Rattle.net.proofs.Past.{past_process}
use Rattle.net.proofs.SlotLaws.{FirstBusy, slot_busy, slots_counted}
use Rattle.text.specs.Joined.{joined}
use Rattle.terms.specs.Numbering.{Start, called}
use Rattle.linking.specs.Source.{Line, process}
use Rattle.linking.specs.Compiled.{total, placed, peopled}
use Rattle.written.proofs.WrittenProcesses.{Starts, ProcessesOk, bare_node, free, first_busy}
use Rattle.read_back.specs.Types.{Locality, Place, Process, Node, Net}
use Rattle.read_back.specs.NetSource.{named, process_lines}
use Rattle.read_back.proofs.LineLists.{people_append}
use Rattle.read_back.proofs.UpTo.{UpTo, up_to_none, up_to_next, up_to_skip, up_to_all}
use Rattle.read_back.proofs.NodeHeld.{held_first, process_put}

module _
    (place : Start → Place) (k : ℕ) (right : (j : ℕ) → j < k → place (called j) ≡ place_of j)
    (a : Locality) (x : Node) (u : Net) (inside : a.0 < length u.nodes)
  where
    -- the net after j slots: ps are the processes of its node a
    record Started (j : ℕ) (w : Net) : Type 0 where
      pub ps : List Process
      pub is : w ≡ with_node u a (bare_node x.rows ps)
      pub slots : UpTo (process_at x) (λ i. free_process) past_process 4 j ps

    none_started : node_at u a ≡ bare_node x.rows free → Started 0 u
    none_started e = record {
      ps = free;
      is = held_first a u inside (bare_node x.rows free) e;
      slots = up_to_none (length-replicate 4 free_process) (λ i l. get_or-replicate 4 i free_process past_process l);
    }

    starts_again : (p : Process) → Starts a k p → starting_at a (place (called p.at.0)) ≡ p
    unfolding starting_at
    starts_again p s =
        ap (λ (q : Process). starting_at a (place (called q.at.0))) (sym s.is)
        ∙ ap (starting_at a) (right s.first.0 s.within) ∙ s.is

    module _ (c : ℕ) (ok : ProcessesOk a k c x) where
      busy_at : (j : ℕ) → j < 4 → (process_at x j).busy ≡ ltb j c
      busy_at = slot_busy x c (first_busy a k c x ok)

      -- as many slots are busy as processes were put
      counted :
          (j : ℕ) → j ≤ c → (ps : List Process) → UpTo (process_at x) (λ i. free_process) past_process 4 j ps
          → process_count (bare_node x.rows ps) ≡ j
      unfolding bare_node free_process
      counted j h ps up = slots_counted (bare_node x.rows ps) j first (omega (arith, ok.few))
        where
          first : FirstBusy j (bare_node x.rows ps)
          first = record {
            size_is = up.size_is;
            holds = λ i l. record {
              used = λ b. ap (λ (p : Process). p.busy) (up.done i b l) ∙ busy_at i l ∙ lt-ltb i c (omega arith);
              unused = λ b. ap (λ (p : Process). p.busy) (up.left i b l);
            };
          }

      abbrev line : ℕ → List Line
      line j = choose (process_at x j).busy (process a (named (process_at x j).at) ∷ []) []

      next_started : (j m : ℕ) (w : Net) → j < 4 → Started j w → Started (suc j) (peopled place m (line j) w)
      unfolding peopled with_process bare_node process_at
      next_started j m w h s = go (dec_le c j)
        where
          go : Dec (c ≤ j) → Started (suc j) (peopled place m (line j) w)
          go (yes l) = record {
            ps = s.ps;
            is = ap (λ (ls : List Line). peopled place m ls w) (choose_false _ _ _ (busy_at j h ∙ le-ltb j c l)) ∙ s.is;
            slots = up_to_skip j (λ e. (ok.slots_ok.holds j h).unused l) s.slots;
          }
          go (no l) =
              let y : Node = bare_node x.rows s.ps in
              let p : Process = process_at x j in
              record {
                ps = set s.ps j p;
                is =
                    ap (λ (ls : List Line). peopled place m ls w) (choose_true _ _ _ (busy_at j h ∙ lt-ltb j c (omega arith)))
                    ∙ ap (placed place m (process a (named p.at))) s.is
                    ∙ process_put a u inside place m y p.at
                    ∙ ap (λ (i : ℕ). with_node u a (with_process y i (starting_at a (place (called p.at.0)))))
                    (counted j (omega arith) s.ps s.slots)
                    ∙ ap (λ (q : Process). with_node u a (with_process y j q))
                    (starts_again p ((ok.slots_ok.holds j h).used (omega arith)));
                slots = up_to_next j p refl s.slots;
              }

      slots_started : (j m : ℕ) → j ≤ 4 → node_at u a ≡ bare_node x.rows free → Started j (peopled place m (joined j line) u)
      unfolding joined peopled
      slots_started zero m h e = none_started e
      slots_started (suc j) m h e =
          subst (Started (suc j)) (sym (people_append place m (joined j line) (line j) u))
          (next_started j (m + total (joined j line)) _ h (slots_started j m (omega arith) e))

      pub processes_put :
          (m : ℕ) → node_at u a ≡ bare_node x.rows free
          → peopled place m (process_lines a x) u ≡ with_node u a (bare_node x.rows x.processes)
      unfolding process_lines process_at
      processes_put m e =
          let s = slots_started 4 m (omega arith) e in
          s.is
          ∙ ap (λ (ps : List Process). with_node u a (bare_node x.rows ps))
          (up_to_all 4 x.processes ok.slots_ok.size_is (λ i l. refl) (λ i l g. absurd (omega arith)) s.slots)
