-- Describes the code, and is no part of what a reader has to believe: how the readers of `src/` keep to the definitions.
pub use Rattle.rows.specs.declared.origin_rows.FirstRows.{FirstRows}
use Rattle.std.specs.Prelude.{ℕ, ◌+◌, ◌-◌, ◌≤◌, ◌≡◌, Bool, List, [], ◌∷◌, length}
use Rattle.lexemes.specs.Lexemes.{number}
use Rattle.lexemes.specs.Progress.{Resumes}
use Rattle.linking.specs.Source.{Policy, plain, by_origin}
use Rattle.linking.specs.Compiled.{addresses_of, filled, rows_of, ruled, unruled, governed}
use Rattle.rows.specs.Types.{TextReader, Row, Net}
use Rattle.rows.specs.Rows.{digits_from, rows_after}
use Rattle.rows.specs.OriginRows.{is_number, first_after, first_rows, node_rows_after, nodes_after}

-- digits being counted from place p, those up to place q being found
pub record Digits (s : List ℕ) (p q : ℕ) : Type 0 where
  pub from : p ≤ q
  pub within : q - p ≤ length s
  pub rest : p + digits_from (length s) s p ≡ q + digits_from (length s - (q - p)) s q

-- ---- rows of format 1

-- a net has these rows, and nothing else
pub record Plain (read : List Row) (net : Net) : Type 0 where
  pub within : length read ≤ 16
  pub standing : net ≡ governed (plain read) 0

-- rows being read from r₀ on: n of them have come to r, and stand in the net
pub record Ruling (r₀ r : TextReader) (n : ℕ) (net : Net) : Type 0 where
  pub read : List Row
  pub count : length read ≡ n
  pub within : n ≤ 16
  pub standing : net ≡ ruled 0 (rows_of (plain read)) (unruled 1 0 0)
  pub rest : Resumes r₀ (rows_after 16 []) r (rows_after (16 - n) read)

-- ---- rows by origin

-- the number i, rightly written, stands at place p
unfoldable pub number_is : ℕ → List ℕ → ℕ → Bool
number_is i s p = is_number i (number 15 s p)

-- node 0's rows stand in the array, and their count beside it
pub record First (read : List Row) (f : FirstRows) : Type 0 where
  pub count : length read ≡ f.count
  pub standing : f.rows ≡ filled read

-- n rows of a node stand in the array
pub record Filled (n : ℕ) (read rows : List Row) : Type 0 where
  pub count : length read ≡ n
  pub standing : rows ≡ filled read

-- node 0's rows being read from r₀ on: n of them have come to r, and stand in the array
pub record FirstRowing (r₀ r : TextReader) (n : ℕ) (rows : List Row) : Type 0 where
  pub read : List Row
  pub count : length read ≡ n
  pub standing : rows ≡ filled read
  pub rest : Resumes r₀ first_rows r (first_after (16 - n) read)

-- the n rows of node i being read from r₀ on: j of them have come to r, and stand in the array
pub record NodeRowing (n i : ℕ) (r₀ r : TextReader) (j : ℕ) (rows : List Row) : Type 0 where
  pub read : List Row
  pub count : length read ≡ j
  pub within : j ≤ n
  pub standing : rows ≡ filled read
  pub rest : Resumes r₀ (node_rows_after n i []) r (node_rows_after (n - j) i read)

-- a net has these rows of n nodes, and nothing else
pub record Origins (n : ℕ) (read : List (List Row)) (net : Net) : Type 0 where
  pub count : length read ≡ n
  pub within : n ≤ 16
  pub standing : net ≡ governed (by_origin read) 0

-- the nodes from 1 on being read from r₀ on, after the n rows of node 0: i nodes have come to r, and stand in the net
pub record NodesRuling (n : ℕ) (first : List Row) (r₀ r : TextReader) (i : ℕ) (net : Net) : Type 0 where
  pub read : List (List Row)
  pub count : length read ≡ i
  pub within : i ≤ n
  pub standing : net ≡ ruled 0 (rows_of (by_origin read)) (unruled 2 0 0)
  pub rest : Resumes r₀ (nodes_after (n - 1) n (first ∷ [])) r (nodes_after (n - i) n read)

-- a net has the policies, and nothing else
pub record Ruled (read : Policy) (net : Net) : Type 0 where
  pub within : addresses_of read ≤ 16
  pub standing : net ≡ governed read 0
