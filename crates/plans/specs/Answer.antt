-- The answers to a pick and their numbers (document 01, "One pick").
pub use Rattle.plans.specs.declared.answer.Answer.{Answer}
use Rattle.std.specs.Prelude.{ℕ}

-- the paper's number of an answer
unfoldable pub number_of : Answer → ℕ
number_of Answer.Performed = 0
number_of Answer.Ended = 1
number_of Answer.NoTuple = 2
number_of Answer.NoRoom = 3
number_of Answer.NoRight = 4
number_of Answer.NotWithin = 5
number_of Answer.NotSet = 6
number_of Answer.FreeSlot = 7
number_of Answer.NotInUse = 8
number_of Answer.Malformed = 9
number_of Answer.Unsound = 10
