-- What is claimed of the lean engine's picks (document 02, slip 12).
use Rattle.std.specs.Prelude.{ℕ, ◌≡◌, List, [], ◌∷◌, ◌++◌}
use Rattle.net.specs.Records.{empty_net}
use Rattle.image.specs.Image.{opened_of}
use Rattle.notation.specs.Text.{read_of}
use Rattle.step.specs.Pick.{pick_of}
use Rattle.step.specs.Ran.{ran_from}
use Rattle.lean_step.specs.LeanStep.{lean_pick_of, lean_ran_from, lean_calls_from}
use Rattle.lean_first.specs.Types.{Net, Verdict, TextVerdict}

-- ---- "For every accepted net, in both formats, and every list of picks, prove its answers and net equal to the first engine's after
-- each pick"

-- the picks of several calls in order
unfoldable pub all_picks : List (List ℕ) → List ℕ
all_picks [] = []
all_picks (picks ∷ rest) = picks ++ all_picks rest

-- from the net s
pub record SameAsFirst (s : Net) : Type 0 where
  -- the picks of one call: the answers in order and the net after them, and so after each beginning of the list
  pub one_call : (picks : List ℕ) → lean_ran_from s picks ≡ ran_from s picks
  -- the picks of several calls, one after another
  pub calls : (calls : List (List ℕ)) → lean_calls_from s calls ≡ ran_from s (all_picks calls)
  -- after any picks the next one has the same answer and leaves the same net
  pub each_pick : (picks : List ℕ) (b : ℕ) → lean_pick_of (lean_ran_from s picks).net b ≡ pick_of (ran_from s picks).net b

-- the claim: of every accepted image, of either format, and of every accepted text; and of the empty net, which a refusal gives
pub record LeanIsFirst : Type 0 where
  pub of_image : (image : List ℕ) → (opened_of image).answer ≡ Verdict.Accepted → SameAsFirst (opened_of image).net
  pub of_text : (text : List ℕ) → (read_of text).answer ≡ TextVerdict.Accepted → SameAsFirst (read_of text).net
  pub of_empty : SameAsFirst empty_net
