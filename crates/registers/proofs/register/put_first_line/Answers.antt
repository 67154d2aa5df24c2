use Rattle.std.proofs.Common.{rules}
use Rattle.registers.proofs.RegisterLaws.{start_line}
use Rattle.registers.proofs.register.put_first_line.Goals as goal

pub returns : goal.returns
returns c = search (rules, start_line)
