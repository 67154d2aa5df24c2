-- What writing a net as an image gives, and what it leaves in the lent buffer, at every net and every buffer.
pub use Rattle.writer.specs.declared.pack.Unwritten.{Unwritten}
use Rattle.std.specs.Prelude.{Result, Ok, Err, ℕ, List, length, leb}
use Rattle.net.specs.Choice.{choose}
use Rattle.writer.specs.Types.{Net}
use Rattle.text.specs.Buffer.{over}
use Rattle.written.specs.ImageOf.{image_of}
use Rattle.fresh.specs.Fresh.{fresh_of}

-- a net was written, and how many bytes it took, or not
abbrev pub Packed : Type 0
Packed = Result ℕ Unwritten

-- bytes written into a buffer with the given room
unfoldable pub placed_of : ℕ → ℕ → Packed
placed_of size room = choose (leb size room) (Ok size) (Err Unwritten.NoRoom)

-- 36 first, then 35, otherwise the image's length
unfoldable pub packed_of : Net → ℕ → Packed
packed_of net room = choose (fresh_of net) (placed_of (length (image_of net)) room) (Err Unwritten.NotFresh)

-- the paper's number
unfoldable pub packed_number : Packed → ℕ
packed_number (Ok n) = 0
packed_number (Err Unwritten.NotFresh) = 36
packed_number (Err Unwritten.NoRoom) = 35

-- the image's length, 0 where none was written: no image is empty
unfoldable pub packed_length : Packed → ℕ
packed_length (Ok n) = n
packed_length (Err Unwritten.NotFresh) = 0
packed_length (Err Unwritten.NoRoom) = 0

-- the buffer afterwards: bytes at its start and its other bytes as they were, or as it was where they do not fit
unfoldable pub placed_in : List ℕ → List ℕ → List ℕ
placed_in bytes buffer = choose (leb (length bytes) (length buffer)) (over buffer 0 bytes) buffer

unfoldable pub image_in : Net → List ℕ → List ℕ
image_in net buffer = choose (fresh_of net) (placed_in (image_of net) buffer) buffer
