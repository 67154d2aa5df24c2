-- Laws of a net that rows are read into (`rows_of`, `ruled` and `governed` of `specs/Compiled.antt` of `linking`). Assumes nothing.
use Prim.Native.Nat.{ℕ, zero, suc, ◌+◌, ◌-◌, ◌<◌, ◌≤◌}
use mathlib.Core.Path.{◌≡◌, refl, sym, ap, ◌∙◌}
use mathlib.Core.List.{List, [], ◌∷◌, ◌++◌, map}
use native.Mathlib.Omega.{arith}
use native.Mathlib.Nat.{not-suc-le-zero}
use lib.ListN.{get_or, length, length-map, set, replicate, length-append, get_or-replicate}
use lib.Seq.{append_snoc, set-append_seam}
use mathlib.Core.Bool.{Bool, true, false, not}
use lib.Dec.{leb}
use borrow.Author.Tests.{le-leb, lt-leb}
use Rattle.net.specs.Choice.{all, implies}
use Rattle.net.proofs.Laws.{all_i, all_e}
use Rattle.net.proofs.ReadingLaws.{never}
use Rattle.net.specs.Records.{zero_row, rights_at, empty_net, row_at, node_at, alike, with_node, with_rows, with_counts, with_format, address_of}
use Rattle.net.proofs.AllLaws.{all_same, all_more}
use Rattle.net.proofs.Past.{past_row}
use Rattle.linking.specs.Source.{Policy, plain, by_origin}
use Rattle.linking.specs.Compiled.{format_of, addresses_of, filled, rows_of, ruled, unruled, governed}
use Rattle.linking.proofs.Governed.{put_rows, ruled_more, ruled_counts, ruled_frame, governed_addresses, governed_rows}
use Rattle.rows.specs.Types.{Locality, Row, Node, Net}
use Rattle.rows.specs.Rows.{any_right, within, all_within}
use Rattle.rows.specs.OriginRows.{all_nodes_within}

-- ---- lists
module _ {A B : Type 0} (f : A → B) where
  map_more : (xs : List A) (x : A) → map f (xs ++ (x ∷ [])) ≡ map f xs ++ (f x ∷ [])
  map_more [] x = refl
  map_more (y ∷ ys) x = ap (λ (zs : List B). f y ∷ zs) (map_more ys x)

  map_at : (xs : List A) (i : ℕ) (d : A) (e : B) → i < length xs → get_or (map f xs) i e ≡ f (get_or xs i d)
  map_at [] i d e h = absurd (not-suc-le-zero h)
  map_at (x ∷ xs) zero d e h = refl
  map_at (x ∷ xs) (suc i) d e h = map_at xs i d e (omega arith)

-- ---- the rows of a node by origin, in an array of sixteen
pub none_filled : (r : Row) (rows : List Row) → r ≡ zero_row → rows ≡ alike r → rows ≡ filled []
unfolding filled alike
none_filled r rows e d = d ∙ ap (replicate 16) e

pub one_filled : (rs : List Row) (n : ℕ) (r : Row) (rows : List Row) → rows ≡ filled rs → length rs ≡ n → n < 16 → set rows n r ≡ filled (rs ++ (r ∷ []))
unfolding filled
one_filled rs n r rows e c h =
    let rest : ℕ = 16 - length (rs ++ (r ∷ [])) in
    let more : 16 - length rs ≡ suc rest = omega (arith, length-append rs (r ∷ [])) in
    rw (e, ← c)
    (ap (λ (k : ℕ). set (rs ++ replicate k zero_row) (length rs) r) more
    ∙ set-append_seam rs zero_row (replicate rest zero_row) r
    ∙ sym (append_snoc rs r (replicate rest zero_row)))

pub padded_at : (rs : List Row) (m j : ℕ) (r d : Row) → j < length rs + m → get_or (rs ++ replicate m r) j d ≡ get_or rs j r
padded_at [] m j r d h = get_or-replicate m j r d (omega arith)
padded_at (x ∷ rs) m zero r d h = refl
padded_at (x ∷ rs) m (suc j) r d h = padded_at rs m j r d (omega arith)

-- ---- rows of one node more
pub plain_more :
    (rs : List Row) (n : ℕ) (r : Row) (rows : List Row) (s net : Net) → length rs ≡ n → rows ≡ alike r
    → net ≡ ruled 0 (rows_of (plain rs)) s
    → with_node net (address_of n) (with_rows (node_at net (address_of n)) rows) ≡ ruled 0 (rows_of (plain (rs ++ (r ∷ [])))) s
unfolding rows_of put_rows
plain_more rs n r rows s net c e d =
    let place : n ≡ 0 + length (map alike rs) = omega (arith, length-map rs alike) in
    rw (e, d)
    (ap (λ (k : ℕ). put_rows (ruled 0 (map alike rs) s) k (alike r)) place
    ∙ sym (ruled_more 0 (map alike rs) (alike r) s) ∙ sym (ap (λ (rss : List (List Row)). ruled 0 rss s) (map_more alike rs r)))

pub origin_more :
    (rss : List (List Row)) (n : ℕ) (rs rows : List Row) (s net : Net) → length rss ≡ n → rows ≡ filled rs
    → net ≡ ruled 0 (rows_of (by_origin rss)) s
    → with_node net (address_of n) (with_rows (node_at net (address_of n)) rows) ≡ ruled 0 (rows_of (by_origin (rss ++ (rs ∷ [])))) s
unfolding rows_of put_rows
origin_more rss n rs rows s net c e d =
    let place : n ≡ 0 + length (map filled rss) = omega (arith, length-map rss filled) in
    rw (e, d)
    (ap (λ (k : ℕ). put_rows (ruled 0 (map filled rss) s) k (filled rs)) place
    ∙ sym (ruled_more 0 (map filled rss) (filled rs) s) ∙ sym (ap (λ (xss : List (List Row)). ruled 0 xss s) (map_more filled rss rs)))

-- the number of addresses, once all rows are read
pub counted_anew :
    (x : Policy) (net : Net) (n : ℕ) → net ≡ ruled 0 (rows_of x) (unruled (format_of x) 0 0) → addresses_of x ≡ n
    → with_counts net n net.length ≡ governed x 0
unfolding governed unruled with_counts with_format empty_net
counted_anew x net n e c =
    let start : Net = unruled (format_of x) 0 0 in
    rw (e, ← c)
    (ap (λ (k : ℕ). with_counts (ruled 0 (rows_of x) start) (addresses_of x) k) (ruled_frame 0 (rows_of x) start).length_is
    ∙ sym (ruled_counts 0 (rows_of x) start (addresses_of x) 0))

-- ---- the rows of the net are within its addresses where the rows are
row_alike : (x : Node) (r : Row) (o : Locality) → x.rows ≡ alike r → o.0 < 16 → row_at x o ≡ r
unfolding row_at alike
row_alike x r o e h = ap (λ (rs : List Row). get_or rs o.0 past_row) e ∙ get_or-replicate 16 o.0 r past_row h

row_of :
    (rs : List Row) (i : ℕ) → length rs ≤ 16 → i < length rs
    → row_at (node_at (governed (plain rs) 0) (address_of i)) (address_of i) ≡ get_or rs i zero_row
unfolding rows_of addresses_of
row_of rs i h l = row_alike _ _ (address_of i) (governed_rows (plain rs) 0 i h l ∙ map_at alike rs i zero_row [] l) (omega arith)

pub rows_within :
    (rs : List Row) (net : Net) → length rs ≤ 16 → net ≡ governed (plain rs) 0
    → all net.addresses (λ i. within net.addresses (row_at (node_at net (address_of i)) (address_of i))) ≡ all_within rs
unfolding all_within addresses_of
rows_within rs net h e =
    rw e
    (ap (λ (n : ℕ). all n (λ i. within n (row_at (node_at (governed (plain rs) 0) (address_of i)) (address_of i)))) (governed_addresses (plain rs) 0)
    ∙ all_same (length rs) _ _ (λ i l. ap (within (length rs)) (row_of rs i h l)))

row_filled : (x : Node) (rs : List Row) (j : ℕ) → x.rows ≡ filled rs → j < 16 → row_at x (address_of j) ≡ get_or rs j zero_row
unfolding row_at filled
row_filled x rs j e h =
    ap (λ (ys : List Row). get_or ys j past_row) e ∙ padded_at rs (16 - length rs) j zero_row past_row (omega arith)

row_by_origin :
    (rss : List (List Row)) (i j : ℕ) → length rss ≤ 16 → i < length rss → j < length rss
    → row_at (node_at (governed (by_origin rss) 0) (address_of i)) (address_of j) ≡ get_or (get_or rss i []) j zero_row
unfolding rows_of addresses_of
row_by_origin rss i j h l m =
    row_filled _ _ j (governed_rows (by_origin rss) 0 i h l ∙ map_at filled rss i [] [] l) (omega arith)

pub nodes_within :
    (rss : List (List Row)) (net : Net) → length rss ≤ 16 → net ≡ governed (by_origin rss) 0
    → all net.addresses (λ i. all net.addresses (λ j. within net.addresses (row_at (node_at net (address_of i)) (address_of j)))) ≡ all_nodes_within rss
unfolding all_nodes_within addresses_of
nodes_within rss net h e =
    rw e
    (ap (λ (n : ℕ). all n (λ i. all n (λ j. within n (row_at (node_at (governed (by_origin rss) 0) (address_of i)) (address_of j)))))
    (governed_addresses (by_origin rss) 0)
    ∙ all_same (length rss) _ _ (λ i l. all_same (length rss) _ _ (λ j m. ap (within (length rss)) (row_by_origin rss i j h l m))))

-- ---- tests at each number below a bound, in a loop that stops where one fails
module _ (test : ℕ → Bool) where
  pub all_begin : all 0 test ≡ true
  unfolding all
  all_begin = refl

  pub all_on : (i : ℕ) → all i test ≡ true → test i ≡ true → all (i + 1) test ≡ true
  all_on i e d = sym (all_more i test true true (sym e) (sym d))

  pub all_done : (i n : ℕ) → all i test ≡ true → n ≤ i → true ≡ all n test
  all_done i n e h = sym (all_i n test (λ j l. all_e i test e j (omega arith)))

  stopped : (i n : ℕ) (b : Bool) → b ≡ all n test → i < n → test i ≡ false → false ≡ b
  stopped i n true e h d = never (sym d ∙ all_e n test (sym e) i h)
  stopped i n false e h d = refl

  pub all_stop : (i n : ℕ) (b : Bool) → b ≡ test i → b ≡ false → i < n → false ≡ all n test
  all_stop i n b d f h = stopped i n (all n test) refl h (sym d ∙ f)

-- ---- rights over the addresses from a number on
none_held : (b c : Bool) → c ≡ false → implies b (not c) ≡ true
unfolding implies
none_held true c e = rw e refl
none_held false c e = refl

some_held : (b c : Bool) → b ≡ true → c ≡ true → implies b (not c) ≡ false
unfolding implies
some_held b c d e = rw (d, e) refl

module _ (n : ℕ) (row : Row) where
  -- none is held over the addresses below l
  unfoldable pub none_below : ℕ → Bool
  none_below l = all l (λ j. implies (leb n j) (not (any_right (rights_at row (address_of j)))))

  pub below_begin : none_below n ≡ true
  unfolding none_below implies
  below_begin = all_i n _ (λ l h. rw (lt-leb n l h) refl)

  module _ (l : ℕ) (b : Bool) (e : b ≡ any_right (rights_at row (address_of l))) where
    pub below_on : none_below l ≡ true → b ≡ false → none_below (l + 1) ≡ true
    unfolding none_below
    below_on k d = all_on _ l k (none_held (leb n l) _ (sym e ∙ d))

    pub below_stop : b ≡ true → n ≤ l → l < 16 → false ≡ within n row
    unfolding within
    below_stop d g h = all_stop _ l 16 false (sym (some_held (leb n l) _ (le-leb n l g) (sym e ∙ d))) refl h

  pub below_done : (l : ℕ) → none_below l ≡ true → 16 ≤ l → true ≡ within n row
  unfolding none_below within
  below_done l e h = all_done _ l 16 e h

pub ruleset tested = (all_begin, all_on, all_done, all_stop, below_begin, below_on, below_stop, below_done)
