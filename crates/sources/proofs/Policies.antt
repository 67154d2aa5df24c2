-- The policies of a text (`Policies.antt` of `rows`): its first line tells the format, and what is read is what is printed.
-- Assumes nothing.
use Prim.Native.Nat.{ℕ}
use mathlib.Core.Path.{◌≡◌, refl, sym, subst}
use mathlib.Core.Logic.{inl, inr}
use mathlib.Core.Bool.{true, false}
use mathlib.Core.List.{List, [], ◌∷◌, ◌++◌}
use native.Mathlib.Omega.{arith}
use lib.ListN.{length}
use Rattle.text.specs.Bytes.{bytes}
use Rattle.linking.specs.Source.{Policy, plain, by_origin}
use Rattle.rows.specs.OriginRows.{is_origin_row}
use Rattle.rows.specs.Policies.{plain_rows, rows_by_origin, policy}
use Rattle.sources.specs.Types.{Row}
use Rattle.sources.specs.Printed.{row_rest_text, row_text, rows_text, origin_row_text, node_text, nodes_text, policy_text}
use Rattle.sources.specs.WellFormed.{Each, more, NodeFormed, PolicyFormed, one_row, each_origin}
use Rattle.sources.proofs.Stands.{Stands, stands_first_law}
use Rattle.sources.proofs.ReadsBefore.{ReadsBefore, Image, Or, before_as, before_map, before_choice}
use Rattle.sources.proofs.Openings.{opens_other}
use Rattle.sources.proofs.AllRows.{NoRow, RowsText, reads_rows}
use Rattle.sources.proofs.OriginRows.{NoOriginRow, origin_here, NodesText, reads_origin_rows}

pub record PolicyText (x : Policy) (u : List ℕ) : Type 0 where
  pub formed : PolicyFormed x
  pub prints : policy_text x ≡ u

-- what stands behind the rows is a row of neither format
pub record NoPolicy (s : List ℕ) (q : ℕ) : Type 0 where
  pub no_row : NoRow s q
  pub no_origin_row : NoOriginRow s q

-- ---- the first line
plain_opens : (rs : List Row) (u s : List ℕ) (p : ℕ) → RowsText rs u → Stands s p u → is_origin_row s p ≡ false
unfolding is_origin_row rows_text row_text bytes
plain_opens [] u s p x st = let some = x.some in absurd (omega arith)
plain_opens (r ∷ rs) u s p x st =
    let st' : Stands s p (row_text 0 r ++ rows_text 1 rs) = subst (Stands s p) (sym x.prints) st in
    opens_other 0 s p (omega arith) 102 104 (114 ∷ 111 ∷ 109 ∷ []) (97 ∷ 115 ∷ row_rest_text r) (λ e. omega arith)
    (stands_first_law s p (row_text 0 r) (rows_text 1 rs) st')

-- the first node has a row
first_node : (n : ℕ) (rs : List Row) (rss : List (List Row)) → Each (λ _. NodeFormed n) [] (rs ∷ rss) → length rs ≡ n
first_node n rs rss (more f e) = f.each_origin

origin_opens : (rss : List (List Row)) (u s : List ℕ) (p : ℕ) → NodesText rss u → Stands s p u → is_origin_row s p ≡ true
unfolding nodes_text node_text
origin_opens [] u s p x st = let some = x.some in absurd (omega arith)
origin_opens ([] ∷ rss) u s p x st = let e = first_node _ [] rss x.each in absurd (omega arith)
origin_opens ((r ∷ rs) ∷ rss) u s p x st =
    let st' : Stands s p ((origin_row_text 0 0 r ++ node_text 0 1 rs) ++ nodes_text 1 rss) = subst (Stands s p) (sym x.prints) st in
    origin_here 0 0 r (node_text 0 1 rs) s p (omega arith) (stands_first_law s p _ (nodes_text 1 rss) st')

-- ---- both formats
abbrev Either : Policy → List ℕ → Type 0
Either = Or (Image by_origin NodesText) (Image plain RowsText)

policy_to : (x : Policy) (u : List ℕ) → Either x u → PolicyText x u
unfolding policy_text
policy_to x u (inl (rss, y, is)) =
    subst (λ (z : Policy). PolicyText z u) is (record { formed = each_origin y.some y.few y.each; prints = y.prints })
policy_to x u (inr (rs, y, is)) =
    subst (λ (z : Policy). PolicyText z u) is (record { formed = one_row y.some y.few y.each; prints = y.prints })

policy_from : (x : Policy) (u : List ℕ) → PolicyFormed x → policy_text x ≡ u → Either x u
unfolding policy_text
policy_from x u (each_origin {rss = rss} some few each) e = inl (rss, record { some = some; few = few; each = each; prints = e }, refl)
policy_from x u (one_row {rs = rs} some few each) e = inr (rs, record { some = some; few = few; each = each; prints = e }, refl)

pub reads_policy : ReadsBefore policy PolicyText NoPolicy
unfolding policy plain_rows rows_by_origin
reads_policy =
    before_as
    (before_choice is_origin_row (before_map by_origin (before_as reads_origin_rows (λ a u x. x) (λ a u x. x) (λ s q e. e.no_origin_row)))
    (before_map plain (before_as reads_rows (λ a u x. x) (λ a u x. x) (λ s q e. e.no_row)))
    (λ a u s p (rss, x, is) st e. origin_opens rss u s p x st) (λ a u s p (rs, x, is) st e. plain_opens rs u s p x st))
    policy_to (λ x u y. policy_from x u y.formed y.prints) (λ s q e. e)
