-- Assumes nothing.
use Rattle.std.proofs.Common.{rules}
use Rattle.lean.proofs.RoundLaws.{act_stop, act_out, act_take, act_read, act_eval, act_create, act_fork, act_out_all}
use Rattle.lean.proofs.rounds.act.Goals as goal

pub returns-in-0 : goal.returns-in-0
returns-in-0 c = search (rules, act_stop)

pub returns-in-1 : goal.returns-in-1
returns-in-1 c = search (rules, act_out)

pub returns-in-2 : goal.returns-in-2
returns-in-2 c = search (rules, act_take)

pub returns-in-3 : goal.returns-in-3
returns-in-3 c = search (rules, act_read)

pub returns-in-4 : goal.returns-in-4
returns-in-4 c = search (rules, act_eval)

pub returns-in-5 : goal.returns-in-5
returns-in-5 c = search (rules, act_create)

pub returns-in-6 : goal.returns-in-6
returns-in-6 c = search (rules, act_fork)

pub returns-in_default : goal.returns-in_default
returns-in_default c = search (rules, act_out_all)
