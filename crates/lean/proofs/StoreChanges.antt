-- A tuple put among the words of a node, and one taken from them: what that is in the net that they stand for, and that words in range
-- stay so. Assumes nothing.
use Prim.Native.Nat.{ℕ, zero, suc, ◌+◌, ◌-◌, ◌<◌, ◌≤◌, ◌%◌}
use mathlib.Core.Path.{◌≡◌, refl, sym, ap, subst, ◌∙◌}
use mathlib.Core.List.{List, []}
use native.Mathlib.Omega.{arith}
use lib.ListN.{length, get_or, set, replicate}
use lib.Seq.{set-get_or}
use borrow.Author.Tests.{lt-ltb, le-ltb}
use Rattle.net.specs.Records.{address_of, node_at, with_node, with_tuple, without_tuple, zero_tuple}
use Rattle.net.proofs.Laws.{choose_true, choose_false}
use Rattle.net.proofs.Past.{past_node}
use Rattle.net.proofs.Every.{chosen_lt}
use Rattle.step.specs.Pick.{added, taken}
use Rattle.lean_step.proofs.Covering.{at_set}
use Rattle.lean_words.specs.Stores.{no_tuple, tuple_in, moved_up, closed_up}
use Rattle.lean_words.proofs.FilledLaws.{length_filled}
use Rattle.lean_words.proofs.TakenLaws.{closed_at, tuples_closed}
use Rattle.lean_code.specs.Ranged.{RangedItem, RangedSlot, RangedTuple}
use Rattle.lean.specs.Types.{Locality, Tuple, Node, Net}
use Rattle.lean.specs.Words.{Words, Grid, Sized, RangedSlots, RangedTuples, tuples_in, node_with, node_in, net_in, with_slot}
use Rattle.lean.proofs.Frame.{with_stores, with_store, tuple_anew, node_in_law, store_anew, stored_at, tuple_at_law}

-- ---- in the net
same_node : (s : Net) (a : Locality) → with_node s a (node_at s a) ≡ s
unfolding with_node node_at
same_node s a =
    ap
    (λ (xs : List Node). record { format = s.format; addresses = s.addresses; length = s.length; nodes = xs; code = s.code })
    (set-get_or s.nodes a.0 past_node)

module _ (start : Net) (size : length start.nodes ≡ 16) (w : Words) (sized : Sized w) (l : ℕ) (h : l < 16) where
  abbrev s : Net
  s = net_in start w

  abbrev x : Node
  x = node_at (net_in start w) (address_of l)

  abbrev n : ℕ
  n = get_or w.stored l 0

  abbrev store : List (List ℕ)
  store = get_or w.tuples l []

  stored_is : x.stored ≡ n
  stored_is = stored_at start size w l h

  tuples_are : x.tuples ≡ tuples_in store
  unfolding node_in node_with
  tuples_are = ap (λ (y : Node). y.tuples) (node_in_law start size w l h)

  pub put_anew :
      (t : List ℕ) → n < 16
      → net_in start (with_stores w (set w.stored l (n + 1)) (set w.tuples l (set store n t)))
      ≡ added s (address_of l) (tuple_in t)
  unfolding added with_tuple
  put_anew t room =
      store_anew start size w sized l h (n + 1) (set store n t)
      ∙ ap (λ (ts : List Tuple). with_node s (address_of l) (with_store x (n + 1) ts))
      (tuple_anew store n t (sized.tuples_are.wide l h) ∙ ap (λ (ts : List Tuple). set ts n (tuple_in t)) (sym tuples_are))
      ∙ ap (with_node s (address_of l))
      (ap (λ (m : ℕ). with_store x (m + 1) (set x.tuples m (tuple_in t))) (sym stored_is)
      ∙ sym (choose_true _ _ x (lt-ltb x.stored 16 (rw stored_is room))))

  -- where there is no room nothing is put
  pub put_full : (t : Tuple) → 16 ≤ n → added s (address_of l) t ≡ s
  unfolding added with_tuple
  put_full t full =
      ap (with_node s (address_of l)) (choose_false _ _ x (le-ltb x.stored 16 (rw stored_is full))) ∙ same_node s (address_of l)

  pub taken_anew :
      (i : ℕ) → i < 16
      → net_in start (with_stores w (set w.stored l (n - 1)) (set w.tuples l (closed_up store i)))
      ≡ taken s (address_of l) i
  unfolding taken without_tuple tuples_in
  taken_anew i g =
      store_anew start size w sized l h (n - 1) (closed_up store i)
      ∙ ap (with_node s (address_of l))
      (λ d. record {
        rows = x.rows;
        processes = x.processes;
        stored = sym stored_is d - 1;
        tuples =
            tuples_closed x store (tuple_at_law start size w l h) i g (sized.tuples_are.wide l h)
            (ap length tuples_are ∙ length_filled _ (replicate 16 zero_tuple) 16) d;
      })

-- ---- words in range
module _ (P : List ℕ → Type 0) (n m : ℕ) (xs : List (List (List ℕ))) (each : (i j : ℕ) → i < n → j < m → P (get_or (get_or xs i []) j [])) where
  pub each_row :
      (a : ℕ) (ys : List (List ℕ)) → ((j : ℕ) → j < m → P (get_or ys j []))
      → (i j : ℕ) → i < n → j < m → P (get_or (get_or (set xs a ys) i []) j [])
  each_row a ys f i j h l = at_set (λ (zs : List (List ℕ)). P (get_or zs j [])) xs a i ys [] (λ _. f j l) (each i j h l)

  pub each_one :
      (a k : ℕ) (y : List ℕ) → a < n → P y → (i j : ℕ) → i < n → j < m → P (get_or (get_or (set xs a (set (get_or xs a []) k y)) i []) j [])
  each_one a k y g p = each_row a _ (λ j l. at_set P (get_or xs a []) k j y [] (λ _. p) (each a j g l))

pub slot_ranged :
    (slots : List (List (List ℕ))) (a k : ℕ) (ws : List ℕ) → RangedSlots slots → RangedSlot ws → RangedSlots (with_slot slots a k ws)
unfolding with_slot
slot_ranged slots a k ws r p =
    record { each = each_one RangedSlot 16 4 slots r.each (a % 16) (k % 4) ws (omega arith) p }

pub put_ranged :
    (tuples : List (List (List ℕ))) (l n : ℕ) (t : List ℕ) → l < 16 → RangedTuples tuples → RangedTuple t
    → RangedTuples (set tuples l (set (get_or tuples l []) n t))
put_ranged tuples l n t h r p = record { each = each_one RangedTuple 16 16 tuples r.each l n t h p }

none_ranged : RangedTuple no_tuple
unfolding no_tuple
none_ranged = record { size = refl; fields = go }
  where
    zero_item : RangedItem 257
    zero_item = record { below = omega arith; there = λ e. omega (arith, e) }

    go : (i : ℕ) → i < 4 → RangedItem (get_or no_tuple i 0)
    go zero h = zero_item
    go (suc zero) h = zero_item
    go (suc (suc zero)) h = zero_item
    go (suc (suc (suc zero))) h = zero_item
    go (suc (suc (suc (suc i)))) h = absurd (omega arith)

pub taken_ranged :
    (tuples : List (List (List ℕ))) (l i : ℕ) → l < 16 → Grid 16 16 tuples → RangedTuples tuples
    → RangedTuples (set tuples l (closed_up (get_or tuples l []) i))
unfolding moved_up
taken_ranged tuples l i h g r =
    let ts = get_or tuples l [] in
    record {
      each = each_row RangedTuple 16 16 tuples r.each l (closed_up ts i) (λ j u.
          subst RangedTuple (sym (closed_at ts i j (g.wide l h) u))
          (chosen_lt RangedTuple j 15 _ _
          (λ v. chosen_lt RangedTuple j i _ _ (λ _. r.each l j h u) (λ _. r.each l (j + 1) h (omega arith)))
          (λ _. none_ranged)));
    }
