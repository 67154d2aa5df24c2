use borrow.Author.Rules.{rules}
use Rattle.bitreader.proofs.ReadsLaws.{choosing}
use Rattle.instructions.specs.Instruction.{target, written_target, held_target}
use Rattle.instructions.proofs.instruction.read_target.Goals as goal

pub returns-in_err-take : goal.returns-in_err-take
unfolding target written_target held_target
returns-in_err-take c = search (rules, choosing)

pub returns-in_err-address-in-0 : goal.returns-in_err-address-in-0
unfolding target written_target held_target
returns-in_err-address-in-0 c = search (rules, choosing)

pub returns-in_err-variable-in_default : goal.returns-in_err-variable-in_default
unfolding target written_target held_target
returns-in_err-variable-in_default c = search (rules, choosing)

pub returns-in_ok-address-in-0 : goal.returns-in_ok-address-in-0
unfolding target written_target held_target
returns-in_ok-address-in-0 c = search (rules, choosing)

pub returns-in-1 : goal.returns-in-1
unfolding target written_target held_target
returns-in-1 c = search (rules, choosing)

pub returns-in_ok-variable-in_default : goal.returns-in_ok-variable-in_default
unfolding target written_target held_target
returns-in_ok-variable-in_default c = search (rules, choosing)
