use Rattle.net.specs.Records.{zero_instruction}
use Rattle.bitreader.specs.Progress.{Turned}
use Rattle.instructions.specs.Instruction.{templateField}
use Rattle.instructions.proofs.template.read_template.Given as goal

abbrev pub invariant-loop-i : goal.invariant-loop-i
invariant-loop-i l = Turned l.initial.r l.i-end (templateField l.formals l.n) zero_instruction l.r l.i l.template
