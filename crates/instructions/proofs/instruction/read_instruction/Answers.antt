use borrow.Author.Rules.{rules}
use Rattle.bitreader.proofs.ReadsLaws.{choosing}
use Rattle.instructions.specs.Instruction.{instruction}
use Rattle.instructions.proofs.InstructionLaws.{reads_action, reads_spoken, reads_stop_spoken}
use Rattle.instructions.proofs.instruction.read_instruction.Goals as goal

pub returns-in_err-take : goal.returns-in_err-take
unfolding instruction
returns-in_err-take c = search (rules, choosing, reads_action, reads_spoken, reads_stop_spoken)

pub returns-in_err-target-in-1 : goal.returns-in_err-target-in-1
unfolding instruction
returns-in_err-target-in-1 c = search (rules, choosing, reads_action, reads_spoken, reads_stop_spoken)

pub returns-in_err-target-in-2 : goal.returns-in_err-target-in-2
unfolding instruction
returns-in_err-target-in-2 c = search (rules, choosing, reads_action, reads_spoken, reads_stop_spoken)

pub returns-in_err-target-in-3 : goal.returns-in_err-target-in-3
unfolding instruction
returns-in_err-target-in-3 c = search (rules, choosing, reads_action, reads_spoken, reads_stop_spoken)

pub returns-in-0 : goal.returns-in-0
unfolding instruction
returns-in-0 c = search (rules, choosing, reads_action, reads_spoken, reads_stop_spoken)

pub returns-in_ok-target-in-1 : goal.returns-in_ok-target-in-1
unfolding instruction
returns-in_ok-target-in-1 c = search (rules, choosing, reads_action, reads_spoken, reads_stop_spoken)

pub returns-in_ok-target-in-2 : goal.returns-in_ok-target-in-2
unfolding instruction
returns-in_ok-target-in-2 c = search (rules, choosing, reads_action, reads_spoken, reads_stop_spoken)

pub returns-in_ok-target-in-3 : goal.returns-in_ok-target-in-3
unfolding instruction
returns-in_ok-target-in-3 c = search (rules, choosing, reads_action, reads_spoken, reads_stop_spoken)

pub returns-in-4 : goal.returns-in-4
unfolding instruction
returns-in-4 c = search (rules, choosing, reads_action, reads_spoken, reads_stop_spoken)

pub returns-in-5 : goal.returns-in-5
unfolding instruction
returns-in-5 c = search (rules, choosing, reads_action, reads_spoken, reads_stop_spoken)

pub returns-in-6 : goal.returns-in-6
unfolding instruction
returns-in-6 c = search (rules, choosing, reads_action, reads_spoken, reads_stop_spoken)

pub returns-in_default : goal.returns-in_default
unfolding instruction
returns-in_default c = search (rules, choosing, reads_action, reads_spoken, reads_stop_spoken)
