-- A node's tuples closed up (`closed_up` of `specs/Stores.antt`) are those of the node without the tuple taken (`without_tuple` of `net`).
-- Assumes nothing.
use Prim.Native.Nat.{ℕ, ◌+◌, ◌<◌, ◌≤◌}
use mathlib.Core.Path.{◌≡◌, sym, ap, ◌∙◌}
use mathlib.Core.List.{List, []}
use native.Mathlib.Omega.{arith}
use native.Mathlib.Decide.{dec_le}
use lib.ListN.{length, get_or, replicate, length-replicate}
use borrow.Author.Tests.{lt-ltb, le-ltb}
use Rattle.net.specs.Records.{tuple_at, zero_tuple, after_taking, without_tuple}
use Rattle.net.specs.declared.node.Node.{Node}
use Rattle.net.proofs.Laws.{choose_true, choose_false}
use Rattle.net.proofs.Past.{past_tuple}
use Rattle.lean_words.specs.Filled.{filled}
use Rattle.lean_words.specs.Stores.{tuple_in, moved_up, closed_up}
use Rattle.lean_words.proofs.BackLaws.{no_tuple_in}
use Rattle.lean_words.proofs.FilledLaws.{length_filled, filled_at, filled_same}

pub length_closed : (ts : List (List ℕ)) (i : ℕ) → length (closed_up ts i) ≡ length ts
unfolding closed_up
length_closed ts i = length_filled (moved_up ts i) ts 16

pub closed_at : (ts : List (List ℕ)) (i j : ℕ) → length ts ≡ 16 → j < 16 → get_or (closed_up ts i) j [] ≡ moved_up ts i j
unfolding closed_up
closed_at ts i j size h = filled_at (moved_up ts i) ts [] 16 j h (omega arith)

module _ (x : Node) (ts : List (List ℕ)) (each : (j : ℕ) → j < 16 → tuple_at x j ≡ tuple_in (get_or ts j [])) (i : ℕ) (here : i < 16) where
  moved_in : (j : ℕ) → j < 16 → tuple_in (moved_up ts i j) ≡ after_taking x i j
  unfolding moved_up after_taking
  moved_in j h = go (dec_le 15 j) (dec_le i j)
    where
      go : Dec (15 ≤ j) → Dec (i ≤ j) → tuple_in (moved_up ts i j) ≡ after_taking x i j
      go (yes g) m =
          ap tuple_in (choose_false _ _ _ (le-ltb j 15 g)) ∙ no_tuple_in
          ∙ sym (choose_false _ _ _ (le-ltb j i (omega arith)) ∙ choose_false _ _ _ (le-ltb j 15 g))
      go (no g) (yes m) =
          let l : j < 15 = omega arith in
          ap tuple_in (choose_true _ _ _ (lt-ltb j 15 l) ∙ choose_false _ _ _ (le-ltb j i m)) ∙ sym (each (j + 1) (omega arith))
          ∙ sym (choose_false _ _ _ (le-ltb j i m) ∙ choose_true _ _ _ (lt-ltb j 15 l))
      go (no g) (no m) =
          let l : j < 15 = omega arith in
          let k : j < i = omega arith in
          ap tuple_in (choose_true _ _ _ (lt-ltb j 15 l) ∙ choose_true _ _ _ (lt-ltb j i k)) ∙ sym (each j h)
          ∙ sym (choose_true _ _ _ (lt-ltb j i k))

  pub tuples_closed :
      length ts ≡ 16 → length x.tuples ≡ 16
      → filled 16 (λ j. tuple_in (get_or (closed_up ts i) j [])) (replicate 16 zero_tuple) ≡ (without_tuple x i).tuples
  unfolding without_tuple filled
  tuples_closed size long =
      filled_same past_tuple 16 _ (replicate 16 zero_tuple) (length-replicate 16 zero_tuple) (after_taking x i) x.tuples long
      (λ j h. ap tuple_in (closed_at ts i j size h) ∙ moved_in j h)
