-- What holds of every text, accepted or refused (document 01, "The planners' notation"; document 02, slips 3 and 13).
use Rattle.std.specs.Prelude.{ℕ, ◌≡◌, List, true}
use Rattle.net.specs.Choice.{choose}
use Rattle.net.specs.Records.{empty_net}
use Rattle.sound.specs.Soundness.{sound_of}
use Rattle.fresh.specs.Fresh.{fresh_of}
use Rattle.rows.specs.OriginRows.{is_origin_row}
use Rattle.notation.specs.Text.{read_of}
use Rattle.texts.specs.Types.{Verdict}

-- an accepted text gives a sound net
unfoldable pub TextIsSound : Type 0
TextIsSound = (text : List ℕ) → (read_of text).answer ≡ Verdict.Accepted → sound_of (read_of text).net ≡ true

-- an accepted text gives a fresh net: one that an image can write
unfoldable pub TextIsFresh : Type 0
TextIsFresh = (text : List ℕ) → (read_of text).answer ≡ Verdict.Accepted → fresh_of (read_of text).net ≡ true

-- "The first line decides" (document 02, slip 13): the net is of format 2 where the text opens with digits and ` from`, else of
-- format 1
unfoldable pub TextHasFormat : Type 0
TextHasFormat =
    (text : List ℕ) → (read_of text).answer ≡ Verdict.Accepted → (read_of text).net.format ≡ choose (is_origin_row text 0) 2 1

-- a refused text gives the empty net
unfoldable pub RefusedTextIsEmpty : Type 0
RefusedTextIsEmpty = (text : List ℕ) (n : ℕ) → (read_of text).answer ≡ Verdict.Refused n → (read_of text).net ≡ empty_net

-- the numbers of the paper that a text can be refused with
pub data TextNumber : ℕ → Type 0 where
  count : TextNumber 22
  address : TextNumber 23
  formal_in_out : TextNumber 26
  formal_twice : TextNumber 27
  beyond_row_law : TextNumber 30
  astray : TextNumber 31
  too_deep : TextNumber 32
  name : TextNumber 33

unfoldable pub RefusedTextIsNumbered : Type 0
RefusedTextIsNumbered = (text : List ℕ) (n : ℕ) → (read_of text).answer ≡ Verdict.Refused n → TextNumber n
