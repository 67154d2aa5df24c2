-- Sets of the planners' notation (document 02, slip 13): `{0,2}`, ascending, or `{}`. n is the number of addresses.
use Rattle.std.specs.Prelude.{ℕ, zero, suc, ◌+◌, ◌*◌, Bool, false, true, List, get_or, set, replicate, eqb, leb}
use Rattle.net.specs.Choice.{choose, fold}
use Rattle.readers.specs.Reader.{Reader, pure, ◌>>=◌, ◌>>◌, require}
use Rattle.lexemes.specs.Lexemes.{look, fail, byte, optional}
use Rattle.fields.specs.Types.{Group}
use Rattle.fields.specs.Fields.{address}

-- the set of the addresses that are marked: a bit for each, the first for address 0 (document 02, slip 11)
unfoldable pub group_of : List Bool → Group
group_of marks = record { 0 = fold 16 (λ i v. v * 2 + choose (get_or marks i false) 1 0) 0 }

unfoldable pub no_members : List Bool
no_members = replicate 16 false

-- a member from `low` on: addresses strictly ascend
unfoldable pub member_from : ℕ → ℕ → Reader ℕ
member_from n low = do
  l ← address n
  require (leb low l.0) 31
  pure l.0

-- one member or more, at most k of them, a comma (44) between two; there are 16 addresses, so that no more ascend
unfoldable pub members : ℕ → ℕ → ℕ → List Bool → Reader (List Bool)
members zero n low marks = fail 31
members (suc k) n low marks = do
  l ← member_from n low
  more ← optional 44
  choose more (members k n (l + 1) (set marks l true)) (pure (set marks l true))

-- what stands between the braces: nothing where the closing one (125) follows
unfoldable pub listed : ℕ → Reader (List Bool)
listed n = look (λ b. choose (eqb b 125) (pure no_members) (members 16 n 0 no_members))

unfoldable pub group : ℕ → Reader Group
group n = do
  byte 123
  marks ← listed n
  byte 125
  pure (group_of marks)
