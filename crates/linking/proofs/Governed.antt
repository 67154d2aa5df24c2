-- Nets with the rows of policies (`ruled` and `governed` of `specs/Compiled.antt`). Assumes nothing.
use Prim.Native.Nat.{ℕ, zero, suc, ◌+◌, ◌<◌, ◌≤◌}
use mathlib.Core.Path.{◌≡◌, refl, sym, ap, ◌∙◌}
use mathlib.Core.List.{List, [], ◌∷◌, ◌++◌}
use native.Mathlib.Omega.{arith}
use native.Mathlib.Nat.{not-suc-le-zero}
use lib.ListN.{get_or, length, length-map, length-set, length-replicate}
use lib.Seq.{get_or-set_same, get_or-set_other}
use Rattle.net.specs.Records.{zero_node, empty_net, node_at, address_of, with_node, with_rows, with_counts, with_format}
use Rattle.linking.specs.Types.{Row, Node, Net}
use Rattle.linking.specs.Source.{Policy, plain, by_origin}
use Rattle.linking.specs.Compiled.{format_of, addresses_of, rows_of, ruled, unruled, governed}
use Rattle.linking.proofs.Peopled.{SameFrame}

-- as many lists of rows as addresses
pub length_rows : (x : Policy) → length (rows_of x) ≡ addresses_of x
unfolding rows_of addresses_of
length_rows (plain rs) = length-map rs _
length_rows (by_origin rss) = length-map rss _

-- ---- rows put at an address
unfoldable pub put_rows : Net → ℕ → List Row → Net
put_rows s i rs = with_node s (address_of i) (with_rows (node_at s (address_of i)) rs)

put_there : (s : Net) (i : ℕ) (rs : List Row) → i < length s.nodes → (node_at (put_rows s i rs) (address_of i)).rows ≡ rs
unfolding put_rows with_node with_rows node_at
put_there s i rs h = ap (λ (x : Node). x.rows) (get_or-set_same s.nodes i _ _ h)

put_length : (s : Net) (i : ℕ) (rs : List Row) → length (put_rows s i rs).nodes ≡ length s.nodes
unfolding put_rows with_node
put_length s i rs = length-set s.nodes i _

-- ---- those of one node more
pub ruled_more :
    (i : ℕ) (rss : List (List Row)) (rs : List Row) (s : Net) → ruled i (rss ++ (rs ∷ [])) s ≡ put_rows (ruled i rss s) (i + length rss) rs
unfolding ruled put_rows
ruled_more i [] rs s = ap (λ (j : ℕ). put_rows s j rs) (omega arith)
ruled_more i (x ∷ rss) rs s =
    ruled_more (suc i) rss rs (put_rows s i x) ∙ ap (λ (j : ℕ). put_rows (ruled (suc i) rss (put_rows s i x)) j rs) (omega arith)

-- ---- what rows leave as it was
pub ruled_counts : (i : ℕ) (rss : List (List Row)) (s : Net) (n k : ℕ) → ruled i rss (with_counts s n k) ≡ with_counts (ruled i rss s) n k
unfolding ruled with_node with_counts node_at
ruled_counts i [] s n k = refl
ruled_counts i (rs ∷ rss) s n k = ruled_counts (suc i) rss (with_node s (address_of i) (with_rows (node_at s (address_of i)) rs)) n k

pub ruled_frame : (i : ℕ) (rss : List (List Row)) (s : Net) → SameFrame s (ruled i rss s)
unfolding ruled with_node
ruled_frame i [] s = record { format_is = refl; addresses_are = refl; length_is = refl; code_is = refl }
ruled_frame i (rs ∷ rss) s =
    let rest = ruled_frame (suc i) rss (with_node s (address_of i) (with_rows (node_at s (address_of i)) rs)) in
    record { format_is = rest.format_is; addresses_are = rest.addresses_are; length_is = rest.length_is; code_is = rest.code_is }

-- ---- the rows of each node
ruled_below :
    (i : ℕ) (rss : List (List Row)) (s : Net) (j : ℕ) → j < i → node_at (ruled i rss s) (address_of j) ≡ node_at s (address_of j)
unfolding ruled with_node node_at
ruled_below i [] s j h = refl
ruled_below i (rs ∷ rss) s j h =
    ruled_below (suc i) rss (with_node s (address_of i) (with_rows (node_at s (address_of i)) rs)) j (omega arith)
    ∙ get_or-set_other s.nodes i j _ _ (λ e. absurd (omega arith))

pub ruled_rows :
    (i : ℕ) (rss : List (List Row)) (s : Net) (j : ℕ) → i + length rss ≤ length s.nodes → j < length rss
    → (node_at (ruled i rss s) (address_of (i + j))).rows ≡ get_or rss j []
unfolding ruled put_rows
ruled_rows i [] s j h b = absurd (not-suc-le-zero b)
ruled_rows i (rs ∷ rss) s zero h b =
    ap (λ (k : ℕ). (node_at (ruled (suc i) rss (put_rows s i rs)) (address_of k)).rows) (omega arith)
    ∙ ap (λ (x : Node). x.rows) (ruled_below (suc i) rss (put_rows s i rs) i (omega arith)) ∙ put_there s i rs (omega arith)
ruled_rows i (rs ∷ rss) s (suc j) h b =
    ap (λ (k : ℕ). (node_at (ruled (suc i) rss (put_rows s i rs)) (address_of k)).rows) (omega arith)
    ∙ ruled_rows (suc i) rss (put_rows s i rs) j (omega (arith, put_length s i rs)) (omega arith)

-- ---- the net of policies
module _ (x : Policy) (k : ℕ) where
  pub governed_format : (governed x k).format ≡ format_of x
  unfolding governed unruled with_counts with_format
  governed_format = (ruled_frame 0 (rows_of x) (unruled (format_of x) (addresses_of x) k)).format_is

  pub governed_addresses : (governed x k).addresses ≡ addresses_of x
  unfolding governed unruled with_counts
  governed_addresses = (ruled_frame 0 (rows_of x) (unruled (format_of x) (addresses_of x) k)).addresses_are

  -- with another number of instructions
  pub governed_counts : (m : ℕ) → with_counts (governed x m) (addresses_of x) k ≡ governed x k
  unfolding governed unruled with_counts
  governed_counts m = sym (ruled_counts 0 (rows_of x) (unruled (format_of x) (addresses_of x) m) (addresses_of x) k)

  pub governed_rows : (i : ℕ) → addresses_of x ≤ 16 → i < addresses_of x → (node_at (governed x k) (address_of i)).rows ≡ get_or (rows_of x) i []
  unfolding governed unruled with_counts with_format empty_net
  governed_rows i h l =
      ap (λ (j : ℕ). (node_at (governed x k) (address_of j)).rows) (omega arith)
      ∙ ruled_rows 0 (rows_of x) (unruled (format_of x) (addresses_of x) k) i (omega (arith, length_rows x, length-replicate 16 zero_node))
      (omega (arith, length_rows x))
