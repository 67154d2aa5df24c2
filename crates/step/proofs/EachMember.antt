-- A tuple added at each member of a set of addresses (`added_all` of `specs/Pick.antt`) and room at each (`room_at_all`): what each
-- addition keeps, all together keep, and what each passes through, all together pass through. `Stores.antt` has the nodes
-- afterwards. Assumes nothing.
use Prim.Native.Nat.{ℕ}
use mathlib.Core.Path.{◌≡◌, refl, sym, ap, ◌∙◌}
use mathlib.Core.Bool.{Bool, true, false}
use lib.Dec.{ltb}
use Rattle.net.specs.Choice.{choose, fold}
use Rattle.net.specs.Records.{node_at, address_of}
use Rattle.net.specs.Groups.{member}
use Rattle.net.proofs.Laws.{same_truth}
use Rattle.net.proofs.Every.{chosen}
use Rattle.net.proofs.FoldLaws.{fold_keeps}
use Rattle.net.proofs.GroupLaws.{members_at, members_all}
use Rattle.step.specs.Types.{Locality, Group, Tuple, Net}
use Rattle.step.specs.Pick.{added, room_at_all, added_all}

-- ---- room at each member

-- two nets with as many tuples at each member
module _ (g : Group) (s s' : Net) (e : (l : Locality) → member g l ≡ true → (node_at s l).stored ≡ (node_at s' l).stored) where
  pub room_same : room_at_all s g ≡ room_at_all s' g
  unfolding room_at_all
  room_same =
      let alike : (l : Locality) → member g l ≡ true → ltb (node_at s l).stored 16 ≡ ltb (node_at s' l).stored 16 =
      λ l m. ap (λ (n : ℕ). ltb n 16) (e l m) in
      same_truth _ _ (λ h. members_all g _ (λ l m. sym (alike l m) ∙ members_at g _ h l m))
      (λ h. members_all g _ (λ l m. alike l m ∙ members_at g _ h l m))

-- ---- what each addition does, all together do
module _ (g : Group) (t : Tuple) where
  pub all_kept :
      (P : Net → Type 0) (s : Net) → P s → ((s' : Net) (l : Locality) → member g l ≡ true → P s' → P (added s' l t))
      → P (added_all s g t)
  unfolding added_all
  all_kept P s p turn =
      fold_keeps (λ _. P) _ s 16 p
      (λ i s' _ q. chosen P (member g (address_of i)) _ _ (λ m. turn s' (address_of i) m q) (λ _. q))

  module _ (h : Net → Net) (turn : (s' : Net) (l : Locality) → member g l ≡ true → h (added s' l t) ≡ added (h s') l t) where
    turned :
        (l : Locality) (s' u : Net) → h s' ≡ u
        → h (choose (member g l) (added s' l t) s') ≡ choose (member g l) (added u l t) u
    unfolding choose
    turned l s' u e =
        go (member g l) (λ m. turn s' l m ∙ ap (λ (v : Net). added v l t) e)
      where
        go : (b : Bool) → (b ≡ true → h (added s' l t) ≡ added u l t) → h (choose b (added s' l t) s') ≡ choose b (added u l t) u
        go true f = f refl
        go false f = e

    pub all_through : (s : Net) → h (added_all s g t) ≡ added_all (h s) g t
    unfolding added_all fold
    all_through s =
        fold_keeps (λ i s'. h s' ≡ fold i (λ j u. choose (member g (address_of j)) (added u (address_of j) t) u) (h s)) _ s 16 refl
        (λ i s' _ e. turned (address_of i) s' _ e)
