-- Laws of rights (`specs/Keeping.antt`). Assumes nothing.
use Prim.Native.Nat.{◌≤◌}
use mathlib.Core.Path.{◌≡◌, sym, ◌∙◌}
use mathlib.Core.Bool.{Bool}
use mathlib.Core.List.{List}
use native.Mathlib.Omega.{arith}
use lib.ListN.{length, get_or-eq_default}
use Rattle.keeping.specs.Types.{Locality, Place, Rights, Row, Instruction}
use Rattle.net.specs.Records.{rights_at, no_rights}
use Rattle.keeping.specs.Keeping.{permits, permits_marked, keeps_of}
use Rattle.keeping.specs.Worklist.{good_marked}
use Rattle.keeping.specs.Reaching.{reached_of}

-- past the last address a row grants nothing
pub rights_past : (row : Row) (l : Locality) (r : Rights) → length row.rights ≡ 16 → 16 ≤ l.0 → r ≡ no_rights → r ≡ rights_at row l
unfolding rights_at no_rights
rights_past row l r n h e = e ∙ sym (get_or-eq_default row.rights no_rights {n = l.0} (omega arith))

-- code is judged at the places that it reaches
pub keeps_as : (code : List Instruction) (p : Place) (a : Locality) (row : Row) (b : Bool)
    → b ≡ good_marked (reached_of code p) code (permits row a) → b ≡ keeps_of code p a row
unfolding keeps_of permits_marked good_marked
keeps_as code p a row b e = e
