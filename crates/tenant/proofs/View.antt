-- The view of a net from outside a tenant: the nodes at the tenant's addresses are blanked, and so is the code length,
-- which no step looks at. How the view passes through reads and changes of a net.
-- Assumes nothing.
use Prim.Native.Nat.{ℕ, zero, suc}
use mathlib.Core.Path.{◌≡◌, refl, sym, ap, ap₂, ◌∙◌}
use native.Mathlib.Omega.{arith}
use mathlib.Core.Bool.{Bool, true, false}
use mathlib.Core.List.{List, [], ◌∷◌}
use lib.ListN.{length, get_or, set}
use Rattle.net.specs.Choice.{choose}
use Rattle.net.specs.Records.{zero_node, node_at, with_node, with_counts, address_of}
use Rattle.net.proofs.Laws.{choose_true, choose_false}
use Rattle.step.specs.Pick.{unchanged, performed, opened}
use Rattle.tenant.specs.Types.{Locality, Node, Net, Answer, Picked}

-- ---- the nodes
unfoldable pub blanked : (ℕ → Bool) → List Node → List Node
blanked tenant [] = []
blanked tenant (x ∷ xs) = choose (tenant 0) zero_node x ∷ blanked (λ i. tenant (suc i)) xs

length_blanked : (tenant : ℕ → Bool) (xs : List Node) → length (blanked tenant xs) ≡ length xs
unfolding blanked
length_blanked tenant [] = refl
length_blanked tenant (x ∷ xs) = ap suc (length_blanked (λ i. tenant (suc i)) xs)

get_d_blanked :
    (tenant : ℕ → Bool) (xs : List Node) (a : ℕ) (d : Node) → tenant a ≡ false
    → get_or (blanked tenant xs) a d ≡ get_or xs a d
unfolding blanked
get_d_blanked tenant [] a d h = refl
get_d_blanked tenant (x ∷ xs) zero d h = choose_false _ _ _ h
get_d_blanked tenant (x ∷ xs) (suc a) d h = get_d_blanked (λ i. tenant (suc i)) xs a d h

blanked_out :
    (tenant : ℕ → Bool) (xs : List Node) (a : ℕ) (y : Node) → tenant a ≡ false
    → blanked tenant (set xs a y) ≡ set (blanked tenant xs) a y
unfolding blanked
blanked_out tenant [] a y h = refl
blanked_out tenant (x ∷ xs) zero y h = ap (λ z. z ∷ blanked (λ i. tenant (suc i)) xs) (choose_false _ _ _ h)
blanked_out tenant (x ∷ xs) (suc a) y h =
    ap (λ zs. choose (tenant 0) zero_node x ∷ zs) (blanked_out (λ i. tenant (suc i)) xs a y h)

blanked_in :
    (tenant : ℕ → Bool) (xs : List Node) (a : ℕ) (y : Node) → tenant a ≡ true
    → blanked tenant (set xs a y) ≡ blanked tenant xs
unfolding blanked
blanked_in tenant [] a y h = refl
blanked_in tenant (x ∷ xs) zero y h =
    ap (λ z. z ∷ blanked (λ i. tenant (suc i)) xs) (choose_true _ _ _ h ∙ sym (choose_true _ _ _ h))
blanked_in tenant (x ∷ xs) (suc a) y h =
    ap (λ zs. choose (tenant 0) zero_node x ∷ zs) (blanked_in (λ i. tenant (suc i)) xs a y h)

-- two lists that agree outside the tenant have one view
pub blanked_same :
    (tenant : ℕ → Bool) (xs ys : List Node) (d : Node) → length xs ≡ length ys
    → ((a : ℕ) → tenant a ≡ false → get_or xs a d ≡ get_or ys a d) → blanked tenant xs ≡ blanked tenant ys
unfolding blanked
blanked_same tenant [] [] d e f = refl
blanked_same tenant [] (y ∷ ys) d e f = let z : ◌≡◌ {A = ℕ} 0 1 = cc in absurd (omega arith)
blanked_same tenant (x ∷ xs) [] d e f = let z : ◌≡◌ {A = ℕ} 0 1 = cc in absurd (omega arith)
blanked_same tenant (x ∷ xs) (y ∷ ys) d e f =
    ap₂ (λ z zs. z ∷ zs) (go (tenant 0) (f 0))
    (blanked_same (λ i. tenant (suc i)) xs ys d (cc) (λ a. f (suc a)))
  where
    go : (b : Bool) → (b ≡ false → x ≡ y) → choose b zero_node x ≡ choose b zero_node y
    go true g = choose_true true zero_node x refl ∙ sym (choose_true true zero_node y refl)
    go false g = ap (choose false zero_node) (g refl)

-- ---- the net
module _ (tenant : Locality → Bool) where
  -- the addresses as the nodes are counted
  abbrev pub counted : ℕ → Bool
  counted i = tenant (address_of i)

  unfoldable pub view : Net → Net
  view s = record { format = s.format; addresses = s.addresses; length = 0; nodes = blanked counted s.nodes; code = s.code }

  pub view_format : (s : Net) → (view s).format ≡ s.format
  unfolding view
  view_format s = refl

  pub view_addresses : (s : Net) → (view s).addresses ≡ s.addresses
  unfolding view
  view_addresses s = refl

  pub view_code : (s : Net) → (view s).code ≡ s.code
  unfolding view
  view_code s = refl

  pub view_node : (s : Net) (a : Locality) → tenant a ≡ false → node_at (view s) a ≡ node_at s a
  unfolding view node_at
  view_node s a h = get_d_blanked counted s.nodes a.0 _ h

  pub view_out : (s : Net) (a : Locality) (x : Node) → tenant a ≡ false → view (with_node s a x) ≡ with_node (view s) a x
  unfolding view with_node
  view_out s a x h i =
      let ns = blanked_out counted s.nodes a.0 x h in
      record { format = s.format; addresses = s.addresses; length = 0; nodes = ns i; code = s.code }

  pub view_in : (s : Net) (a : Locality) (x : Node) → tenant a ≡ true → view (with_node s a x) ≡ view s
  unfolding view with_node
  view_in s a x h i =
      let ns = blanked_in counted s.nodes a.0 x h in
      record { format = s.format; addresses = s.addresses; length = 0; nodes = ns i; code = s.code }

  pub view_opened : (s : Net) → view (opened s) ≡ opened (view s)
  unfolding view opened with_counts
  view_opened s = refl

  -- ---- an answer and its net
  unfoldable pub seen : Picked → Picked
  seen r = record { answer = r.answer; net = view r.net }

  pub seen_choose : (b : Bool) (x y : Picked) → seen (choose b x y) ≡ choose b (seen x) (seen y)
  unfolding choose
  seen_choose true x y = refl
  seen_choose false x y = refl

  pub seen_unchanged : (w : Answer) (s : Net) → seen (unchanged w s) ≡ unchanged w (view s)
  unfolding seen unchanged
  seen_unchanged w s = refl

  pub seen_performed : (s : Net) → seen (performed s) ≡ performed (view s)
  unfolding seen performed
  seen_performed s = refl
