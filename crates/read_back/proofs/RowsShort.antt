-- How long rows are in the notation (`Printed.antt` of `sources`), where they are well formed: at most 145 bytes each, of which there
-- are at most 256. Assumes nothing.
use Prim.Native.Nat.{ℕ, suc, ◌+◌, ◌*◌, ◌<◌, ◌≤◌}
use mathlib.Core.Bool.{Bool, not}
use mathlib.Core.List.{List, [], ◌∷◌, ◌++◌}
use native.Mathlib.Omega.{arith}
use lib.ListN.{length, length-append}
use Rattle.net.proofs.Every.{chosen}
use Rattle.text.specs.Bytes.{bytes}
use Rattle.text.specs.Decimal.{decimal}
use Rattle.sound.specs.Soundness.{is_none}
use Rattle.linking.specs.Source.{Policy}
use Rattle.sources.specs.Printed.{newline, given, rights_text, grant_text, grants_text, row_rest_text, row_text, rows_text}
use Rattle.sources.specs.Printed.{origin_row_text, node_text, nodes_text, policy_text}
use Rattle.sources.specs.WellFormed.{Each, none, more, RowFormed, NodeFormed, PolicyFormed, one_row, each_origin}
use Rattle.read_back.specs.Types.{Rights, Row}
use Rattle.read_back.proofs.NumbersShort.{two_digits}

given_short : (b : Bool) (text : List ℕ) → length (given b text) ≤ length text
unfolding given
given_short b text = chosen (λ (t : List ℕ). length t ≤ length text) b text [] (λ e. omega arith) (λ e. omega arith)

rights_short : (r : Rights) → length (rights_text r) ≤ 4
unfolding rights_text bytes
rights_short r =
    simp length-append
    (omega (
      arith,
      given_short r.take (bytes "i"),
      given_short r.read (bytes "r"),
      given_short r.put (bytes "o"),
      given_short r.send (bytes "e"),
    ))

grant_short : (l : ℕ) (r : Rights) → l < 100 → length (grant_text l r) ≤ 8
unfolding grant_text bytes
grant_short l r h =
    let grant : List ℕ = 32 ∷ (decimal l ++ (58 ∷ rights_text r)) in
    let long : length grant ≤ 8 = simp length-append (omega (arith, two_digits l h, rights_short r)) in
    omega (arith, given_short (not (is_none r)) grant)

grants_short : (l : ℕ) (rs : List Rights) → l + length rs ≤ 100 → length (grants_text l rs) ≤ 8 * length rs
unfolding grants_text
grants_short l [] h = omega arith
grants_short l (r ∷ rs) h =
    simp length-append (omega (arith, grant_short l r (omega arith), grants_short (suc l) rs (omega arith)))

-- behind ` has`
rest_short : (n : ℕ) (r : Row) → RowFormed n r → length (row_rest_text r) ≤ 131
unfolding row_rest_text newline bytes
rest_short n r f =
    let size = f.whole in
    simp length-append
    (omega (arith, given_short r.create (32 ∷ 110 ∷ []), grants_short 0 r.rights (omega arith)))

module _ (n : ℕ) where
  row_short : (i : ℕ) (r : Row) → i < 100 → RowFormed n r → length (row_text i r) ≤ 145
  unfolding row_text bytes
  row_short i r h f = simp length-append (omega (arith, two_digits i h, rest_short n r f))

  origin_row_short : (i j : ℕ) (r : Row) → i < 100 → j < 100 → RowFormed n r → length (origin_row_text i j r) ≤ 145
  unfolding origin_row_text bytes
  origin_row_short i j r h g f = simp length-append (omega (arith, two_digits i h, two_digits j g, rest_short n r f))

  rows_short :
      (i : ℕ) {before : List Row} (rs : List Row) → i + length rs ≤ 100 → Each (λ earlier. RowFormed n) before rs
      → length (rows_text i rs) ≤ 145 * length rs
  unfolding rows_text
  rows_short i _ h none = omega arith
  rows_short i _ h (more {y = r} {ys = rs} f e) =
      simp length-append (omega (arith, row_short i r (omega arith) f, rows_short (suc i) rs (omega arith) e))

  node_short :
      (i j : ℕ) {before : List Row} (rs : List Row) → i < 100 → j + length rs ≤ 100 → Each (λ earlier. RowFormed n) before rs
      → length (node_text i j rs) ≤ 145 * length rs
  unfolding node_text
  node_short i j _ h g none = omega arith
  node_short i j _ h g (more {y = r} {ys = rs} f e) =
      simp length-append (omega (arith, origin_row_short i j r h (omega arith) f, node_short i (suc j) rs h (omega arith) e))

  nodes_short :
      (i : ℕ) {before : List (List Row)} (rss : List (List Row)) → n ≤ 16 → i + length rss ≤ 100
      → Each (λ earlier. NodeFormed n) before rss → length (nodes_text i rss) ≤ 2320 * length rss
  unfolding nodes_text
  nodes_short i _ few h none = omega arith
  nodes_short i _ few h (more {y = rs} {ys = rss} f e) =
      let count = f.each_origin in
      let node = node_short i 0 rs (omega arith) (omega arith) f.rows in
      simp length-append (omega (arith, nodes_short (suc i) rss few (omega arith) e))

pub policy_short : (p : Policy) → PolicyFormed p → length (policy_text p) ≤ 37120
unfolding policy_text
policy_short _ (one_row {rs = rs} some few e) = omega (arith, rows_short (length rs) 0 rs (omega arith) e)
policy_short _ (each_origin {rss = rss} some few e) = omega (arith, nodes_short (length rss) 0 rss few (omega arith) e)
