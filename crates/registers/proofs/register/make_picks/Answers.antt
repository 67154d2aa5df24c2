use Rattle.std.proofs.Common.{rules}
use Rattle.registers.proofs.RegisterLaws.{picks_net, picks_answers}
use Rattle.registers.proofs.register.make_picks.Goals as goal

pub returns-clause-value : goal.returns-clause-value
returns-clause-value c = search (rules, picks_net)

pub returns-clause-answers_after : goal.returns-clause-answers_after
returns-clause-answers_after c = search (rules, picks_answers)
