-- How far instructions are counted.
use Rattle.std.specs.Prelude.{ℕ}

-- numbers of instructions are counted up to here: where the count comes this far, there are too many by far
unfoldable pub room : ℕ
room = 9223372036854775808
