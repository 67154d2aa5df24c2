-- The policies of a net's source (`policy_of` of `specs/NetSource.antt`): they have the net's format and its addresses, give each node
-- the rows that it has (`Compiled.antt` of `linking`), and are well formed (`WellFormed.antt` of `sources`). Assumes nothing.
use Prim.Native.Nat.{ℕ, ◌-◌, ◌<◌, ◌≤◌}
use mathlib.Core.Path.{◌≡◌, sym, ap, subst, ◌∙◌}
use mathlib.Core.Bool.{true, false}
use mathlib.Core.List.{List, [], ◌++◌}
use native.Mathlib.Omega.{arith}
use lib.ListN.{length, get_or, take, replicate, take-append-drop}
use lib.Dec.{leb, eqb}
use borrow.Author.Tests.{eqb-true, eqb-false, leb-true}
use Rattle.net.specs.Records.{zero_row, alike, rights_at, row_at, node_at, address_of}
use Rattle.net.proofs.Laws.{implies_i, all_i}
use Rattle.net.proofs.Every.{chosen}
use Rattle.net.proofs.Past.{past_row}
use Rattle.sound.specs.Soundness.{row_sound}
use Rattle.sound.proofs.ZeroClaims.{zero_is_zero, zeros}
use Rattle.sound.proofs.NodeFacts.{RowsOk}
use Rattle.linking.specs.Source.{plain, by_origin}
use Rattle.linking.specs.Compiled.{format_of, addresses_of, filled, rows_of, ruled, unruled, governed}
use Rattle.notation.specs.Scopes.{scope_of}
use Rattle.sources.specs.WellFormed.{Each, RowFormed, NodeFormed, PolicyFormed, one_row, each_origin}
use Rattle.written.proofs.WrittenWhole.{NetOk}
use Rattle.read_back.specs.Types.{Row, Node, Net}
use Rattle.read_back.specs.NetSource.{listed, origin_rows_of, policy_of}
use Rattle.read_back.proofs.Listed.{listed_same, listed_length, map_listed, listed_take, rest_is}
use Rattle.read_back.proofs.EachLaws.{each_listed}
use Rattle.read_back.proofs.NetLines.{scope, few_addresses, node_ok}

-- ---- the rows of a node
module _ (f n : ℕ) (x : Node) (ok : RowsOk f n x.rows) where
  -- format 1: all as the first
  same_again : eqb f 1 ≡ true → alike (row_at x (address_of 0)) ≡ x.rows
  unfolding alike row_at
  same_again e = sym (zeros (get_or x.rows 0 past_row) past_row 16 x.rows ok.each_ok.size_is (ok.as_first e))

  -- format 2: empty past the last origin
  filled_again : n ≤ 16 → eqb f 1 ≡ false → filled (origin_rows_of n x) ≡ x.rows
  unfolding filled origin_rows_of row_at
  filled_again h e =
      let first : List Row = listed n (λ o. get_or x.rows o past_row) in
      ap (λ (m : ℕ). first ++ replicate (16 - m) zero_row) (listed_length n (λ o. get_or x.rows o past_row))
      ∙ ap (λ (rs : List Row). rs ++ replicate (16 - n) zero_row) (listed_take x.rows past_row n (omega (arith, ok.each_ok.size_is)))
      ∙ ap (λ (rs : List Row). take n x.rows ++ rs)
      (sym (rest_is zero_row past_row 16 n x.rows ok.each_ok.size_is (λ i l m. ok.barred e i l m)))
      ∙ take-append-drop n x.rows

  row_formed : (o : ℕ) → o < 16 → RowFormed n (row_at x (address_of o))
  unfolding row_at row_sound rights_at
  row_formed o h =
      let row = ok.each_ok.holds o h in
      record {
        whole = row.size_is;
        within = all_i 16 _ (λ l g. implies_i (leb n l) _ (λ e. (zero_is_zero.rights _).1 ((row.holds l g).unused (leb-true n l e))));
      }

-- ---- of a fresh net
module _ (s : Net) (ok : NetOk s) where
  rows_ok : (a : ℕ) → a < s.addresses → RowsOk s.format s.addresses (node_at s (address_of a)).rows
  rows_ok a h = (node_ok s ok a h).rows_ok

  format_again : format_of (policy_of s) ≡ s.format
  unfolding policy_of format_of
  format_again =
      chosen (λ p. format_of p ≡ s.format) (eqb s.format 1) _ _ (λ e. sym (eqb-true s.format 1 e))
      (λ e. omega (arith, eqb-false s.format 1 e, ok.format_ok.above, ok.format_ok.below))

  addresses_again : addresses_of (policy_of s) ≡ s.addresses
  unfolding policy_of addresses_of
  addresses_again =
      chosen (λ p. addresses_of p ≡ s.addresses) (eqb s.format 1) _ _ (λ e. listed_length _ _) (λ e. listed_length _ _)

  pub scope_again : scope_of (policy_of s) ≡ scope s
  unfolding scope_of
  scope_again = λ d. record { addresses = addresses_again d; format = format_again d }

  rows_again : rows_of (policy_of s) ≡ listed s.addresses (λ a. (node_at s (address_of a)).rows)
  unfolding policy_of rows_of
  rows_again =
      chosen (λ p. rows_of p ≡ listed s.addresses (λ a. (node_at s (address_of a)).rows)) (eqb s.format 1) _ _
      (λ e. map_listed alike s.addresses _ ∙ listed_same _ _ _ (λ a l. same_again _ _ _ (rows_ok a l) e))
      (λ e. map_listed filled s.addresses _ ∙ listed_same _ _ _ (λ a l. filled_again _ _ _ (rows_ok a l) (few_addresses s ok) e))

  -- the net of the policies alone, with k instructions
  pub governed_again :
      (k : ℕ)
      → governed (policy_of s) k
      ≡ ruled 0 (listed s.addresses (λ a. (node_at s (address_of a)).rows)) (unruled s.format s.addresses k)
  unfolding governed
  governed_again k = λ d. ruled 0 (rows_again d) (unruled (format_again d) (addresses_again d) k)

  -- ---- well formed
  plain_formed : PolicyFormed (plain (listed s.addresses (λ a. row_at (node_at s (address_of a)) (address_of 0))))
  plain_formed =
      let rows : List Row = listed s.addresses (λ a. row_at (node_at s (address_of a)) (address_of 0)) in
      let long : length rows ≡ s.addresses = listed_length _ _ in
      let few = few_addresses s ok in
      one_row {rs = rows} (omega (arith, ok.addresses_ok.above)) (omega arith)
      (subst (λ (n : ℕ). Each (λ before. RowFormed n) [] rows) (sym long)
      (each_listed [] s.addresses _ (λ a l. row_formed _ _ _ (rows_ok a l) 0 (omega arith))))

  origins_formed : PolicyFormed (by_origin (listed s.addresses (λ a. origin_rows_of s.addresses (node_at s (address_of a)))))
  unfolding origin_rows_of
  origins_formed =
      let nodes : List (List Row) = listed s.addresses (λ a. origin_rows_of s.addresses (node_at s (address_of a))) in
      let long : length nodes ≡ s.addresses = listed_length _ _ in
      let few = few_addresses s ok in
      each_origin {rss = nodes} (omega (arith, ok.addresses_ok.above)) (omega arith)
      (subst (λ (n : ℕ). Each (λ before. NodeFormed n) [] nodes) (sym long)
      (each_listed [] s.addresses _ (λ a l. record {
        each_origin = listed_length _ _;
        rows = each_listed [] s.addresses _ (λ o m. row_formed _ _ _ (rows_ok a l) o (omega arith));
      })))

  pub policy_formed : PolicyFormed (policy_of s)
  unfolding policy_of
  policy_formed = chosen PolicyFormed (eqb s.format 1) _ _ (λ e. plain_formed) (λ e. origins_formed)
