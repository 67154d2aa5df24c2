-- Describes the code, and is no part of what a reader has to believe: how the readers of `src/` keep to the definitions.
use Rattle.std.specs.Prelude.{ℕ, Bool}
use Rattle.instructions.specs.Types.{Place, Target, Instruction}
use Rattle.instructions.specs.Instruction.{target, template}
use Rattle.readers.specs.Reader.{Reader, pure, ◌>>=◌}
use Rattle.bitreader.specs.Fields.{place}

-- target, template and next place of an out, an in or a read
unfoldable pub parts : Bool → ℕ → ℕ → Reader (Target × Instruction × Place)
parts formals n k = do
  t ← target n
  c ← template formals n
  p ← place k
  pure (t, c, p)
