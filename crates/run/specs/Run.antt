-- The run of an image, as the crate `runs` has it, and that of a text (document 02, slip 3): the net of an accepted text, then
-- each pick on the net that the last one left.
pub use Rattle.runs.specs.Run.{Ran, Outcome, refused, refused_text, ran}
unfoldable pub use Rattle.runs.specs.Run.{numbers, answered, ran_from, run_in, run_of}
use Rattle.std.specs.Prelude.{ℕ, List}
use Rattle.notation.specs.Text.{read_of}
use Rattle.run.specs.Types.{Net, TextVerdict}

unfoldable pub run_text_in : TextVerdict → Net → List ℕ → Outcome
run_text_in TextVerdict.Accepted s picks = ran (ran_from s picks)
run_text_in (TextVerdict.Refused n) s picks = refused_text n

unfoldable pub run_text_of : List ℕ → List ℕ → Outcome
run_text_of text picks = run_text_in (read_of text).answer (read_of text).net picks
