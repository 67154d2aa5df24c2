use Rattle.std.proofs.Common.{rules}
use Rattle.registers.proofs.RegisterLaws.{register_run}
use Rattle.registers.proofs.register.put_run.Goals as goal

pub returns : goal.returns
returns c = search (rules, register_run)
