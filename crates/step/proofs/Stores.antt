-- What the parts of a step leave at each address: a process moved on at its host, and a tuple added at each member of a set.
-- Assumes nothing.
use Prim.Native.Nat.{ℕ, suc, ◌+◌, ◌<◌, ◌≤◌}
use mathlib.Core.Path.{◌≡◌, refl, sym, ap, ◌∙◌}
use mathlib.Core.Bool.{true, false}
use mathlib.Core.List.{List}
use native.Mathlib.Omega.{arith}
use native.Mathlib.Decide.{dec_lt, ℕ_discrete}
use lib.ListN.{length, get_or, set, length-set, get_or-map}
use lib.Seq.{get_or-set_same, get_or-set_other, map-set_same}
use borrow.Author.Tests.{lt-ltb}
use Rattle.net.specs.Choice.{choose}
use Rattle.net.specs.Records.{address_of, node_at, with_node, with_process, with_tuple}
use Rattle.net.specs.Groups.{member}
use Rattle.net.proofs.Laws.{choose_true, choose_false}
use Rattle.net.proofs.Every.{chosen}
use Rattle.net.proofs.FoldLaws.{fold_keeps}
use Rattle.net.proofs.GroupLaws.{has_out}
use Rattle.net.proofs.Past.{past_node}
use Rattle.step.specs.Types.{Locality, Group, Tuple, Process, Node, Net}
use Rattle.step.specs.Pick.{with_host, added, added_all}

-- ---- a change of a process leaves the rows and the tuples
same_at :
    {A B : Type 0} (f : A → B) (xs : List A) (a l : ℕ) (y d : A) → f y ≡ f (get_or xs a d)
    → f (get_or (set xs a y) l d) ≡ f (get_or xs l d)
same_at {A} {B} f xs a l y d e =
    sym (get_or-map f (set xs a y) l d)
    ∙ ap (λ (m : List B). get_or m l (f d)) (map-set_same f xs a y d e)
    ∙ get_or-map f xs l d

module _ (s : Net) (a l : Locality) (i : ℕ) (p : Process) where
  pub rows_same : (node_at (with_host s a i p) l).rows ≡ (node_at s l).rows
  unfolding with_host with_node with_process node_at
  rows_same = same_at (λ x. x.rows) s.nodes a.0 l.0 _ _ refl

  pub stored_same : (node_at (with_host s a i p) l).stored ≡ (node_at s l).stored
  unfolding with_host with_node with_process node_at
  stored_same = same_at (λ x. x.stored) s.nodes a.0 l.0 _ _ refl

  pub tuples_same : (node_at (with_host s a i p) l).tuples ≡ (node_at s l).tuples
  unfolding with_host with_node with_process node_at
  tuples_same = same_at (λ x. x.tuples) s.nodes a.0 l.0 _ _ refl

-- ---- a tuple added as the newest, where there is room
module _ (x : Node) (t : Tuple) (room : x.stored < 16) where
  pub one_more_law : (with_tuple x t).stored ≡ x.stored + 1
  unfolding with_tuple
  one_more_law = ap (λ (y : Node). y.stored) (choose_true _ _ x (lt-ltb x.stored 16 room))

  pub newest : (with_tuple x t).tuples ≡ set x.tuples x.stored t
  unfolding with_tuple
  newest = ap (λ (y : Node). y.tuples) (choose_true _ _ x (lt-ltb x.stored 16 room))

-- ---- a tuple added at each member of a set
module _ (s : Net) (g : Group) (t : Tuple) (size : length s.nodes ≡ 16) where
  -- what an address then has
  AllAt : Net → Locality → Type 0
  AllAt s' l = node_at s' l ≡ choose (member g l) (with_tuple (node_at s l) t) (node_at s l)

  -- once the members below i have it
  record AllBelow (i : ℕ) (s' : Net) : Type 0 where
    size_is : length s'.nodes ≡ 16
    done : (l : Locality) → l.0 < i → AllAt s' l
    left : (l : Locality) → i ≤ l.0 → node_at s' l ≡ node_at s l

  module _ (i : ℕ) (s' : Net) (low : i < 16) (h : AllBelow i s') where
    here : (l : Locality) → l.0 ≡ i → l ≡ address_of i
    here l e = λ j. record { 0 = e j }

    member_turn : member g (address_of i) ≡ true → AllBelow (suc i) (added s' (address_of i) t)
    unfolding AllAt added with_node node_at
    member_turn m = record {
      size_is = length-set s'.nodes i _ ∙ h.size_is;
      done = λ l b.
          elim (ℕ_discrete l.0 i) [
            | yes e ↦ rw (here l e)
                (get_or-set_same s'.nodes i _ past_node (omega (arith, h.size_is))
                ∙ ap (λ (x : Node). with_tuple x t) (h.left (address_of i) (omega arith))
                ∙ sym (choose_true _ _ _ m))
            | no n ↦ get_or-set_other s'.nodes i l.0 _ past_node n ∙ h.done l (omega arith)
          ];
      left = λ l b.
          get_or-set_other s'.nodes i l.0 _ past_node (λ e. omega (arith, e)) ∙ h.left l (omega arith);
    }

    other_turn : member g (address_of i) ≡ false → AllBelow (suc i) s'
    unfolding AllAt
    other_turn m = record {
      size_is = h.size_is;
      done = λ l b.
          elim (ℕ_discrete l.0 i) [
            | yes e ↦ rw (here l e) (h.left (address_of i) (omega arith) ∙ sym (choose_false _ _ _ m))
            | no n ↦ h.done l (omega arith)
          ];
      left = λ l b. h.left l (omega arith);
    }

  all_below : AllBelow 16 (added_all s g t)
  unfolding added_all
  all_below =
      fold_keeps AllBelow _ s 16 (record { size_is = size; done = λ l b. absurd (omega arith); left = λ l b. refl })
      (λ i s' low h. chosen (AllBelow (suc i)) (member g (address_of i)) _ _ (member_turn i s' low h) (other_turn i s' low h))

  pub added_all_at : (l : Locality) → node_at (added_all s g t) l ≡ choose (member g l) (with_tuple (node_at s l) t) (node_at s l)
  unfolding AllAt
  added_all_at l =
      elim (dec_lt l.0 16) [
        | yes h ↦ all_below.done l h
        | no h ↦ all_below.left l (omega arith) ∙ sym (choose_false _ _ _ (sym (has_out g l (omega arith))))
      ]
