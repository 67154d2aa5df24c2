-- The rows of a text of format 2 (document 02, slip 13): `0 from 1 has n 0:io 1:r`, for each node from 0 up a row for each origin
-- from 0 up. Node 0's rows give the number n of addresses.
use Rattle.std.specs.Prelude.{ℕ, zero, suc, ◌-◌, Bool, false, List, [], ◌∷◌, ◌++◌, get_or, length, eqb}
use Rattle.text.specs.Bytes.{bytes}
use Rattle.net.specs.Choice.{choose, both, all}
use Rattle.net.specs.Records.{zero_row}
use Rattle.readers.specs.Reader.{Parsed, got, fault, Reader, pure, ◌>>=◌, ◌>>◌, require}
use Rattle.lexemes.specs.Lexemes.{fail, word, number}
use Rattle.rows.specs.Types.{Row}
use Rattle.rows.specs.Rows.{opens_with, row_rest, within}

-- ---- which lines are such rows: those that open with digits and ` from`
unfoldable pub is_origin_row : List ℕ → ℕ → Bool
is_origin_row s p = opens_with (bytes " from") s p

-- a number is read, and is i
unfoldable pub is_number : ℕ → Parsed ℕ → Bool
is_number i (got v p) = eqb v i
is_number i (fault f) = false

-- such a row stands at place p and names the node i, its number rightly written
unfoldable pub names_node : ℕ → List ℕ → ℕ → Bool
names_node i s p = both (is_origin_row s p) (is_number i (number 15 s p))

-- ---- one row
-- the number i and no other
unfoldable pub numbered : ℕ → Reader (Unit {0})
numbered i = do
  v ← number 15
  require (eqb v i) 31

-- the row of node i for origin j
unfoldable pub origin_row : ℕ → ℕ → Reader Row
origin_row i j = do
  numbered i
  word (bytes " from ")
  numbered j
  word (bytes " has")
  row_rest

-- ---- all rows
-- the fault n where the test holds of what stands here
unfoldable pub fault_where : (List ℕ → ℕ → Bool) → ℕ → Reader (Unit {0})
fault_where test n s p = choose (test s p) (fail n) (pure tt) s p

-- node 0's rows up to the first that names another node, at most k of them after those of `rs`: a seventeenth is 22
unfoldable pub first_after : ℕ → List Row → Reader (List Row)
first_after zero rs = fault_where (names_node 0) 22 >> pure rs
first_after (suc k) rs = λ s p.
    choose (names_node 0 s p)
    (do
      r ← origin_row 0 (length rs)
      first_after k (rs ++ (r ∷ [])))
    (pure rs)
    s p

unfoldable pub first_rows : Reader (List Row)
first_rows = do
  r ← origin_row 0 0
  first_after 15 (r ∷ [])

-- k rows more of node i, after those of `rs`
unfoldable pub node_rows_after : ℕ → ℕ → List Row → Reader (List Row)
node_rows_after zero i rs = pure rs
node_rows_after (suc k) i rs = do
  r ← origin_row i (length rs)
  node_rows_after k i (rs ++ (r ∷ []))

-- a seventeenth row of node i, where it has sixteen
unfoldable pub seventeenth : ℕ → ℕ → List ℕ → ℕ → Bool
seventeenth n i s p = both (eqb n 16) (names_node i s p)

-- the n rows of node i: where there are sixteen, a seventeenth is 22
unfoldable pub node_rows : ℕ → ℕ → Reader (List Row)
node_rows n i = do
  rs ← node_rows_after n i []
  fault_where (seventeenth n i) 22
  pure rs

-- the rows of k nodes more, after those of `rss`
unfoldable pub nodes_after : ℕ → ℕ → List (List Row) → Reader (List (List Row))
nodes_after zero n rss = pure rss
nodes_after (suc k) n rss = do
  rs ← node_rows n (length rss)
  nodes_after k n (rss ++ (rs ∷ []))

-- the number for a row after the last: a seventeenth node is 22
unfoldable pub number_over : ℕ → ℕ
number_over n = choose (eqb n 16) 22 31

-- no row has a right over an address without rows
unfoldable pub all_nodes_within : List (List Row) → Bool
all_nodes_within rss =
    all (length rss) (λ i. all (length rss) (λ j. within (length rss) (get_or (get_or rss i []) j zero_row)))

-- a row for each origin at each node, none over (31, 22), and no right over an address without rows (23)
unfoldable pub origin_rows : Reader (List (List Row))
origin_rows = do
  rs ← first_rows
  rss ← nodes_after (length rs - 1) (length rs) (rs ∷ [])
  fault_where is_origin_row (number_over (length rs))
  require (all_nodes_within rss) 23
  pure rss
