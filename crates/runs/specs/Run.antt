-- A run (demand 3; document 01, "The tenant rule"): the net of an accepted image, then each pick on the net that the last one
-- left, whatever its answer.
pub use Rattle.step.specs.Ran.{Ran}
unfoldable pub use Rattle.step.specs.Ran.{numbers, answered, ran_from}
use Rattle.std.specs.Prelude.{ℕ, List}
use Rattle.image.specs.Image.{opened_of}
use Rattle.runs.specs.Types.{Net, Fault, Verdict}

-- what a run comes to: a refused image makes none, nor does a refused text (document 02, slip 3), of which the number is
-- known alone
pub data Outcome : Type 0 where
  refused : Fault → Outcome
  refused_text : ℕ → Outcome
  ran : Ran → Outcome

unfoldable pub run_in : Verdict → Net → List ℕ → Outcome
run_in Verdict.Accepted s picks = ran (ran_from s picks)
run_in (Verdict.Refused f) s picks = refused f

unfoldable pub run_of : List ℕ → List ℕ → Outcome
run_of image picks = run_in (opened_of image).answer (opened_of image).net picks
