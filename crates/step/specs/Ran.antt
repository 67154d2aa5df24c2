-- Picks made one after another (demand 3; document 01, "The tenant rule"): each on the net that the last one left, whatever its
-- answer.
use Rattle.std.specs.Prelude.{ℕ, List, [], ◌∷◌, map}
use Rattle.plans.specs.Answer.{number_of}
use Rattle.step.specs.Types.{Net, Answer}
use Rattle.step.specs.Pick.{pick_of}

-- the answers in order, and the final net
pub record Ran : Type 0 where
  pub answers : List Answer
  pub net : Net

-- the answers as bytes, by the paper's numbers
unfoldable pub numbers : Ran → List ℕ
numbers r = map number_of r.answers

unfoldable pub answered : Answer → Ran → Ran
answered x r = record { answers = x ∷ r.answers; net = r.net }

unfoldable pub ran_from : Net → List ℕ → Ran
ran_from s [] = record { answers = []; net = s }
ran_from s (b ∷ bs) = answered (pick_of s b).answer (ran_from (pick_of s b).net bs)
