-- The rows after a new, row by row (document 01, "One pick"; document 02, slip 10). In what follows s is the net before it and
-- `after` the net afterwards, a the creator, o the origin of the creating process, l the address that is opened. The arrays of a
-- program have the lengths of `Shaped` (`proofs/Lengths.antt` of `net`).
use Rattle.std.specs.Prelude.{ℕ, ◌<◌, ◌≡◌, ◌≢◌}
use Rattle.net.specs.Records.{node_at, row_at, zero_row}
use Rattle.net.specs.Shape.{Shaped}
use Rattle.plans.specs.Answer.{number_of}
use Rattle.plans.specs.Additions.{gaining}
use Rattle.step.specs.Pick.{host_of, unused, pick_of}
use Rattle.rules.specs.Types.{Locality, Place, Action, Net}
use Rattle.rules.specs.DemandOne.{picked_process, picked_action}

-- no node but the creator and the new one has other rows than before
unfoldable pub OthersStay : Net → Net → Locality → Locality → Type 0
OthersStay s after a l = (c : Locality) → c ≢ a → c ≢ l → (node_at after c).rows ≡ (node_at s c).rows

-- format 2
pub record OpenedByOrigin (s after : Net) (a o l : Locality) : Type 0 where
  -- "the new node copies all the creator's rows as they stood, takes for origin itself a copy of the creator's row for the
  -- creator, and adds i, r, o, e on itself in its rows for origin itself and origin creator"
  pub for_itself : row_at (node_at after l) l ≡ gaining (row_at (node_at s a) a) l
  pub for_creator : row_at (node_at after l) a ≡ gaining (row_at (node_at s a) a) l
  pub for_others : (c : Locality) → c ≢ l → c ≢ a → row_at (node_at after l) c ≡ row_at (node_at s a) c
  -- "the creator gains the four on the new address in its row for the creating process's origin"
  pub creator_gains : row_at (node_at after a) o ≡ gaining (row_at (node_at s a) o) l
  pub creator_keeps : (c : Locality) → c ≢ o → row_at (node_at after a) c ≡ row_at (node_at s a) c
  -- "At every other node the row for the new origin is empty": the creator's too
  pub barred : (c : Locality) → c.0 < s.addresses → row_at (node_at after c) l ≡ zero_row
  pub others_stay : OthersStay s after a l

-- format 1: "The new row is a copy of the creator's as it stood, plus i, r, o, e on itself; the creator's row gains these four on
-- the new address", and this in every row, whichever of the creator's, which are all equal, is copied
pub record OpenedAlike (s after : Net) (a l : Locality) : Type 0 where
  pub new_rows : (c d : Locality) → c.0 < 16 → d.0 < 16 → row_at (node_at after l) c ≡ gaining (row_at (node_at s a) d) l
  pub creator_rows_law : (c d : Locality) → c.0 < 16 → d.0 < 16 → row_at (node_at after a) c ≡ gaining (row_at (node_at s a) d) l
  pub others_stay : OthersStay s after a l

-- the claims, of each pick of a new that is answered 0, which no net gives that is not sound
unfoldable pub NewByOrigin : Type 0
NewByOrigin =
    (s : Net) (b v : ℕ) (q : Place)
    → Shaped s
    → s.format ≡ 2
    → picked_action s b ≡ Action.New v q
    → number_of (pick_of s b).answer ≡ 0
    → OpenedByOrigin s (pick_of s b).net (host_of b) (picked_process s b).origin (unused s)

unfoldable pub NewAlike : Type 0
NewAlike =
    (s : Net) (b v : ℕ) (q : Place)
    → Shaped s
    → s.format ≡ 1
    → picked_action s b ≡ Action.New v q
    → number_of (pick_of s b).answer ≡ 0
    → OpenedAlike s (pick_of s b).net (host_of b) (unused s)
