-- What the public calls give, and what they leave in the lent buffer, at every input.
pub use Rattle.run.specs.declared.run.Finish.{Finish}
pub use Rattle.run.specs.declared.run.Finished.{Finished}
use Rattle.std.specs.Prelude.{ℕ, List, length, leb}
use Rattle.net.specs.Choice.{choose}
use Rattle.net.specs.Records.{empty_net}
use Rattle.run.specs.Types.{Net}
use Rattle.run.specs.Run.{Outcome, refused, refused_text, ran, numbers}
use Rattle.text.specs.Buffer.{over}

-- the paper's number of how a run ended: that of the fault for a refused image (21 to 30) or text (22 to 33), 35 for a
-- buffer that is too short
unfoldable pub finish_number : Finish → ℕ
finish_number Finish.Complete = 0
finish_number (Finish.Refused f) = f.number
finish_number (Finish.RefusedText n) = n
finish_number Finish.NoRoom = 35

-- how a run ended, and its final net; the empty net where none was made
unfoldable pub finished : Finish → Net → Finished
finished finish net = record { finish = finish; net = net }

unfoldable pub finished_of : Outcome → ℕ → Finished
finished_of (refused f) room = finished (Finish.Refused f) empty_net
finished_of (refused_text n) room = finished (Finish.RefusedText n) empty_net
finished_of (ran r) room =
    choose (leb (length r.answers) room) (finished Finish.Complete r.net) (finished Finish.NoRoom empty_net)

-- the buffer after it: the answers' numbers in order, and its other bytes as they were; as it was where no run was made
unfoldable pub answers_in : Outcome → List ℕ → List ℕ
answers_in (refused f) buffer = buffer
answers_in (refused_text n) buffer = buffer
answers_in (ran r) buffer =
    choose (leb (length r.answers) (length buffer)) (over buffer 0 (numbers r)) buffer
