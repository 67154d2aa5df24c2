-- The words of a sound net (`words_of` of `specs/Loading.antt`) stand for it, are as many as the arrays have, and are in range.
-- Assumes nothing.
use Prim.Native.Nat.{ℕ, ◌<◌}
use mathlib.Core.Path.{◌≡◌, sym, ap, subst, ◌∙◌}
use mathlib.Core.Bool.{Bool, true, false}
use mathlib.Core.List.{List, []}
use lib.ListN.{length, get_or, replicate}
use Rattle.net.specs.Records.{address_of, node_at}
use Rattle.net.specs.Shape.{Shaped}
use Rattle.net.proofs.Every.{filled_each}
use Rattle.net.proofs.Past.{past_node}
use Rattle.sound.specs.Soundness.{sound_of}
use Rattle.sound.proofs.NodeFacts.{of_zero, NodeOk}
use Rattle.sound.proofs.NodeChanges.{zero_node_law}
use Rattle.sound.proofs.NetFacts.{NetOk, sound_apart}
use Rattle.lean_words.proofs.FilledLaws.{length_filled, filled_at, filled_whole}
use Rattle.lean_code.specs.Ranged.{RangedSlot, RangedTuple}
use Rattle.lean.specs.Types.{Node, Net}
use Rattle.lean.specs.Words.{Sized, Ranged, node_with, node_in, net_in}
use Rattle.lean.specs.Loading.{slots_of, store_of, policy_of, node_of, loaded_slots, loaded_counts, loaded_tuples, loaded_rows, words_of}
use Rattle.lean.proofs.NodeWords.{slots_long, store_long, policy_long, flags_long, node_back, slots_ranged, store_ranged}
use Rattle.lean.proofs.LoadTypes.{Fits, LoadAgrees}

-- ---- the net
module _ (s : Net) (shape : Shaped s) (sound : sound_of s ≡ true) (fits : Fits s) where
  ok : NetOk s
  ok = sound_apart s shape sound

  abbrev at : ℕ → Node
  at a = node_at s (address_of a)

  node_ok : (a : ℕ) → a < 16 → NodeOk s.format s.addresses s.length (at a)
  unfolding node_at
  node_ok = filled_each ok.nodes_ok (λ x h. h) (of_zero (NodeOk s.format s.addresses s.length) (zero_node_law _ _ _))

  slots_at : (a : ℕ) → a < 16 → get_or (words_of s).slots a [] ≡ slots_of (at a)
  unfolding words_of loaded_slots node_of node_at
  slots_at a h = filled_at (λ i. slots_of (node_of s.nodes i)) (replicate 16 (replicate 4 (replicate 16 0))) [] 16 a h h

  counts_at : (a : ℕ) → a < 16 → get_or (words_of s).stored a 0 ≡ (at a).stored
  unfolding words_of loaded_counts node_of node_at
  counts_at a h = filled_at (λ i. (node_of s.nodes i).stored) (replicate 16 0) 0 16 a h h

  tuples_at : (a : ℕ) → a < 16 → get_or (words_of s).tuples a [] ≡ store_of (at a)
  unfolding words_of loaded_tuples node_of node_at
  tuples_at a h = filled_at (λ i. store_of (node_of s.nodes i)) (replicate 16 (replicate 16 (replicate 6 0))) [] 16 a h h

  rows_at : (a : ℕ) → a < 16 → get_or (words_of s).rows a [] ≡ policy_of (at a)
  unfolding words_of loaded_rows node_of node_at
  rows_at a h = filled_at (λ i. policy_of (node_of s.nodes i)) (replicate 16 (replicate 16 (replicate 65 false))) [] 16 a h h

  node_is : (a : ℕ) → a < 16 → node_in (words_of s) a ≡ at a
  unfolding node_in
  node_is a h =
      (λ d. node_with (slots_at a h d) (counts_at a h d) (tuples_at a h d) (rows_at a h d))
      ∙ node_back s.format s.addresses s.length ok.addresses_most ok.length_most (at a) (node_ok a h)
      (λ k v l. fits.values_fit a k v h l) (λ j i l. fits.items_fit a j i h l)

  net_is : net_in s (words_of s) ≡ s
  unfolding net_in node_at words_of
  net_is = λ d. record {
    format = s.format;
    addresses = s.addresses;
    length = s.length;
    nodes = filled_whole past_node 16 (node_in (words_of s)) s.nodes shape.nodes_are s.nodes shape.nodes_are node_is d;
    code = s.code;
  }

  sized : Sized (words_of s)
  unfolding words_of loaded_slots loaded_counts loaded_tuples loaded_rows
  sized = record {
    slots_are = record {
      long = length_filled (λ i. slots_of (node_of s.nodes i)) (replicate 16 (replicate 4 (replicate 16 0))) 16;
      wide = λ a h. ap length (slots_at a h) ∙ slots_long (at a);
    };
    stored_are = length_filled (λ i. (node_of s.nodes i).stored) (replicate 16 0) 16;
    tuples_are = record {
      long = length_filled (λ i. store_of (node_of s.nodes i)) (replicate 16 (replicate 16 (replicate 6 0))) 16;
      wide = λ a h. ap length (tuples_at a h) ∙ store_long (at a);
    };
    rows_are = record {
      long = length_filled (λ i. policy_of (node_of s.nodes i)) (replicate 16 (replicate 16 (replicate 65 false))) 16;
      wide = λ a h. ap length (rows_at a h) ∙ policy_long (at a);
    };
    each_row = λ a o h l. ap (λ (xs : List (List Bool)). length (get_or xs o [])) (rows_at a h) ∙ flags_long (at a) o l;
  }

  ranged : Ranged (words_of s)
  ranged = record {
    slots_in = record {
      each = λ a k h l.
          subst (λ (xs : List (List ℕ)). RangedSlot (get_or xs k [])) (sym (slots_at a h))
          (slots_ranged s.format s.addresses s.length ok.addresses_most ok.length_most (at a) (node_ok a h)
          (λ k v l. fits.values_fit a k v h l) (λ j i l. fits.items_fit a j i h l) k l);
    };
    tuples_ranged = record {
      each = λ a j h l.
          subst (λ (xs : List (List ℕ)). RangedTuple (get_or xs j [])) (sym (tuples_at a h))
          (store_ranged s.format s.addresses s.length ok.addresses_most ok.length_most (at a) (node_ok a h)
          (λ k v l. fits.values_fit a k v h l) (λ j i l. fits.items_fit a j i h l) j l);
    };
  }

pub load_agrees : LoadAgrees
unfolding LoadAgrees
load_agrees s shape sound fits = record { net_is = net_is s shape sound fits; sized = sized s shape sound fits; ranged = ranged s shape sound fits }
