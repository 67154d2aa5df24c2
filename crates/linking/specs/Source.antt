-- What a planner writes, as a tree (document 01, "The planners' notation"; document 02, slip 13): beside each constructor stands
-- its piece of the notation.
use Rattle.std.specs.Prelude.{ℕ, List}
use Rattle.terms.specs.Terms.{Process}
use Rattle.linking.specs.Types.{Locality, Tuple, Row}

-- a line after the rows
pub data Line : Type 0 where
  definition : ℕ → Process → Line  -- A3 = P
  process : Locality → Process → Line  -- 0 :: P
  tuple : Locality → Tuple → Line  -- 0 :: <5,@1>

-- the policies: a row for each address from 0 up, which holds for every origin; or, in format 2, for each address from 0 up a row
-- for each origin from 0 up
pub data Policy : Type 0 where
  plain : List Row → Policy  -- 0 has n 0:io 1:r
  by_origin : List (List Row) → Policy  -- 0 from 1 has n 0:io 1:r

-- a whole text: the policies, and the lines after them
pub record Source : Type 0 where
  pub policy : Policy
  pub lines : List Line
