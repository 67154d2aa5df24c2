-- What the engine's calls give (document 02, slip 12): the picks of a call are made one after another from the net that the engine
-- holds, where the lent buffer has room for their answers; else nothing changes. `LeanIsFirst` of `lean_first` says that this is
-- what the first engine gives.
use Rattle.std.specs.Prelude.{ℕ, Bool, List, leb, length}
use Rattle.net.specs.Choice.{choose}
use Rattle.text.specs.Buffer.{over}
use Rattle.step.specs.Ran.{numbers}
use Rattle.lean_step.specs.LeanStep.{lean_ran_from}
use Rattle.lean.specs.Types.{Net}

unfoldable pub room_for : List ℕ → List ℕ → Bool
room_for picks answers = leb (length picks) (length answers)

-- the net after a call's picks
unfoldable pub net_after : Net → List ℕ → List ℕ → Net
net_after s picks answers = choose (room_for picks answers) (lean_ran_from s picks).net s

-- the buffer after it: the answers' numbers in order, and its other bytes as they were
unfoldable pub answers_after : Net → List ℕ → List ℕ → List ℕ
answers_after s picks answers = choose (room_for picks answers) (over answers 0 (numbers (lean_ran_from s picks))) answers
