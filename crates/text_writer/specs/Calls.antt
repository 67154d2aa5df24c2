-- What writing a net as a text gives, and what it leaves in the lent buffer, at every net and every buffer (document 02, slip 13).
use Rattle.std.specs.Prelude.{ℕ, List, length, Err}
use Rattle.net.specs.Choice.{choose}
use Rattle.fresh.specs.Fresh.{fresh_of}
use Rattle.read_back.specs.NetSource.{text_of}
use Rattle.writer.specs.Calls.{placed_of, placed_in}
use Rattle.text_writer.specs.Types.{Net, Packed, Unwritten}

-- 36 first, then 35, otherwise the text's length
unfoldable pub texted_of : Net → ℕ → Packed
texted_of net room = choose (fresh_of net) (placed_of (length (text_of net)) room) (Err Unwritten.NotFresh)

-- the buffer afterwards: the text at its start and its other bytes as they were, or as it was where no text was written
unfoldable pub text_in : Net → List ℕ → List ℕ
text_in net buffer = choose (fresh_of net) (placed_in (text_of net) buffer) buffer
