-- A record of a program has the lengths of its type. Assumes nothing.
use Rattle.std.proofs.Common.{◌∙◌}
use Rattle.net.proofs.Lengths.{instruction_shaped}
use Rattle.sound.proofs.ZeroTests.{zero_instruction_is}
use Rattle.sound.proofs.zeros.is_zero_instruction.Goals as goal

pub returns : goal.returns
returns c = (rw c.zero.ensures at c.eq.ensures) ∙ zero_instruction_is c.args.c (instruction_shaped _ _ c.well_formed.0).template_is
