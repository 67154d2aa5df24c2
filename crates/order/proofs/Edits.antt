-- Edits of a net: nodes put at some addresses, and addresses opened. What an edit leaves as it was, and that two edits of
-- different addresses may be exchanged. Assumes nothing.
use Prim.Native.Nat.{ℕ, ◌+◌}
use mathlib.Core.Path.{◌≡◌, refl, ap, subst, ◌∙◌}
use mathlib.Core.List.{List}
use native.Mathlib.Omega.{arith}
use lib.Seq.{get_or-set_other, set_comm}
use Rattle.net.specs.Records.{node_at, with_node, with_counts}
use Rattle.step.specs.Types.{Locality, Node, Net}
use Rattle.step.specs.Pick.{opened}

-- an edit of addresses that are in A
pub data Edit (A : Locality → Type 0) : Type 0 where
  none : Edit A
  grow : Edit A → Edit A
  put : (l : Locality) → A l → Node → Edit A → Edit A

unfoldable pub done : {A : Locality → Type 0} → Edit A → Net → Net
done none s = s
done (grow e) s = opened (done e s)
done (put l _ x e) s = with_node (done e s) l x

-- how many addresses it opens
unfoldable pub openings : {A : Locality → Type 0} → Edit A → ℕ
openings none = 0
openings (grow e) = openings e + 1
openings (put l _ x e) = openings e

module _ {A : Locality → Type 0} where
  pub format_kept : (e : Edit A) (s : Net) → (done e s).format ≡ s.format
  unfolding done opened with_counts with_node
  format_kept none s = refl
  format_kept (grow e) s = format_kept e s
  format_kept (put l _ x e) s = format_kept e s

  pub code_kept : (e : Edit A) (s : Net) → (done e s).code ≡ s.code
  unfolding done opened with_counts with_node
  code_kept none s = refl
  code_kept (grow e) s = code_kept e s
  code_kept (put l _ x e) s = code_kept e s

  pub count_is : (e : Edit A) (s : Net) → (done e s).addresses ≡ s.addresses + openings e
  unfolding done opened with_counts with_node openings
  count_is none s = omega arith
  count_is (grow e) s = let rest = count_is e s in omega (arith, rest)
  count_is (put l _ x e) s = count_is e s

  pub grow_through : (e : Edit A) (s : Net) → done e (opened s) ≡ opened (done e s)
  unfolding done opened with_counts with_node
  grow_through none s = refl
  grow_through (grow e) s = ap opened (grow_through e s)
  grow_through (put l _ x e) s = ap (λ (t : Net). with_node t l x) (grow_through e s)

-- ---- at addresses in B, of which none is in A
module _ {A B : Locality → Type 0} (away : (l : Locality) → A l → B l → ⊥) where
  other : (l m : Locality) → B l → A m → l.0 ≡ m.0 → ⊥
  other l m h g e = away m g (subst B (λ i. record { 0 = e i }) h)

  pub node_kept : (e : Edit A) (s : Net) (l : Locality) → B l → node_at (done e s) l ≡ node_at s l
  unfolding done opened with_counts with_node node_at
  node_kept none s l h = refl
  node_kept (grow e) s l h = node_kept e s l h
  node_kept (put m g x e) s l h =
      get_or-set_other (done e s).nodes m.0 l.0 x _ (other l m h g) ∙ node_kept e s l h

  put_put : (s : Net) (l m : Locality) (x y : Node) → B l → A m → with_node (with_node s l x) m y ≡ with_node (with_node s m y) l x
  unfolding with_node
  put_put s l m x y h g =
      ap {B = Net} (λ (ns : List Node). record { format = s.format; addresses = s.addresses; length = s.length; nodes = ns; code = s.code })
      (set_comm s.nodes l.0 m.0 x y (other l m h g))

  grow_put : (s : Net) (l : Locality) (x : Node) → opened (with_node s l x) ≡ with_node (opened s) l x
  unfolding opened with_counts with_node
  grow_put s l x = refl

  pub put_through : (e : Edit A) (s : Net) (l : Locality) (x : Node) → B l → done e (with_node s l x) ≡ with_node (done e s) l x
  unfolding done
  put_through none s l x h = refl
  put_through (grow e) s l x h = ap opened (put_through e s l x h) ∙ grow_put (done e s) l x
  put_through (put m g y e) s l x h =
      ap (λ (t : Net). with_node t m y) (put_through e s l x h) ∙ put_put (done e s) l m x y h g

  pub exchange : (e : Edit A) (f : Edit B) (s : Net) → done e (done f s) ≡ done f (done e s)
  unfolding done
  exchange e none s = refl
  exchange e (grow f) s = grow_through e (done f s) ∙ ap opened (exchange e f s)
  exchange e (put l h x f) s = put_through e (done f s) l x h ∙ ap (λ (t : Net). with_node t l x) (exchange e f s)
