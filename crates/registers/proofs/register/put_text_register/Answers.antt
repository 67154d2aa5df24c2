use Rattle.std.proofs.Common.{rules}
use Rattle.registers.proofs.RegisterLaws.{text_accepted, text_refused}
use Rattle.registers.proofs.register.put_text_register.Goals as goal

pub returns-in-Accepted : goal.returns-in-Accepted
returns-in-Accepted c = search (rules, text_accepted)

pub returns-in-Refused : goal.returns-in-Refused
returns-in-Refused c = search (rules, text_refused)
