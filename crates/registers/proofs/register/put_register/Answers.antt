use Rattle.std.proofs.Common.{rules}
use Rattle.registers.proofs.RegisterLaws.{register_accepted, register_refused}
use Rattle.registers.proofs.register.put_register.Goals as goal

pub returns-in-Accepted : goal.returns-in-Accepted
returns-in-Accepted c = search (rules, register_accepted)

pub returns-in-Refused : goal.returns-in-Refused
returns-in-Refused c = search (rules, register_refused)
