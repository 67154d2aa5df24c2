-- A net u with another node at address a, and a line that puts something there (`Compiled.antt` of `linking`). Assumes nothing.
use Prim.Native.Nat.{ℕ, ◌<◌}
use mathlib.Core.Path.{◌≡◌, sym, ap, ◌∙◌}
use mathlib.Core.List.{List}
use lib.ListN.{length}
use lib.Seq.{get_or-set_same, set-set, set-get_or}
use Rattle.net.specs.Records.{starting_at, node_at, process_count, marked}
use Rattle.net.specs.Records.{with_process, with_tuple, with_node}
use Rattle.net.proofs.Past.{past_node}
use Rattle.terms.specs.Numbering.{Start, called, start_of}
use Rattle.linking.specs.Source.{process, tuple}
use Rattle.linking.specs.Compiled.{placed}
use Rattle.read_back.specs.Types.{Locality, Place, Tuple, Node, Net}
use Rattle.read_back.specs.NetSource.{named}

module _ (a : Locality) (u : Net) (inside : a.0 < length u.nodes) where
  node_held : (y : Node) → node_at (with_node u a y) a ≡ y
  unfolding node_at with_node
  node_held y = get_or-set_same u.nodes a.0 y past_node inside

  held_again : (y z : Node) → with_node (with_node u a y) a z ≡ with_node u a z
  unfolding with_node
  held_again y z =
      ap (λ (nodes : List Node). record { format = u.format; addresses = u.addresses; length = u.length; nodes = nodes; code = u.code })
      (set-set u.nodes a.0 y z)

  pub held_first : (y : Node) → node_at u a ≡ y → u ≡ with_node u a y
  unfolding node_at with_node
  held_first y e =
      ap (λ (nodes : List Node). record { format = u.format; addresses = u.addresses; length = u.length; nodes = nodes; code = u.code })
      (sym (set-get_or u.nodes a.0 past_node))
      ∙ ap (with_node u a) e

  -- a line that puts something there
  module _ (place : Start → Place) (m : ℕ) (y : Node) where
    pub process_put :
        (p : Place)
        → placed place m (process a (named p)) (with_node u a y)
        ≡ with_node u a (with_process y (process_count y) (starting_at a (place (called p.0))))
    unfolding placed start_of named
    process_put p =
        ap (λ (z : Node). with_node (with_node u a y) a (with_process z (process_count z) (starting_at a (place (called p.0)))))
        (node_held y)
        ∙ held_again y _

    pub tuple_put : (t : Tuple) → placed place m (tuple a t) (with_node u a y) ≡ with_node u a (with_tuple y (marked a t))
    unfolding placed
    tuple_put t = ap (λ (z : Node). with_node (with_node u a y) a (with_tuple z (marked a t))) (node_held y) ∙ held_again y _
