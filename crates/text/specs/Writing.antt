-- Describes the code, and is no part of what a reader has to believe: how writers into a lent buffer stand for lists.
-- Each takes a buffer and a place, and gives the place after what it wrote, or one past the buffer's end once that no
-- longer fits.
use Rattle.std.specs.Prelude.{ℕ, ◌+◌, ◌<◌, ◌≤◌, ◌≡◌, List, length}
use Rattle.text.specs.Buffer.{over}

-- from place `at` of buffer xs a text, of bits or of bytes, was written: the buffer is ys, and the next place r
pub record Wrote {A : Type 0} (xs : List A) (at : ℕ) (text ys : List A) (r : ℕ) : Type 0 where
  pub is : ys ≡ over xs at text
  pub fits : at + length text ≤ length xs → r ≡ at + length text
  pub full : length xs < at + length text → length xs < r
