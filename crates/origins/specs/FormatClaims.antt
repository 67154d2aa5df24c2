-- The format of a net (document 02, slip 10: a node's rows are those of format 1 or of format 2, and "format 1 runs on
-- unchanged"): a net stays in the format that it was read in.
use Rattle.std.specs.Prelude.{ℕ, ◌≡◌, List}
use Rattle.step.specs.Pick.{pick_of}
use Rattle.runs.specs.Run.{ran_from}
use Rattle.origins.specs.Types.{Net}

pub record FormatStays : Type 0 where
  -- no pick changes it: of any net, sound or not, and any number, a byte or not
  pub pick : (s : Net) (b : ℕ) → (pick_of s b).net.format ≡ s.format
  -- so no list of picks does
  pub run : (s : Net) (picks : List ℕ) → (ran_from s picks).net.format ≡ s.format
