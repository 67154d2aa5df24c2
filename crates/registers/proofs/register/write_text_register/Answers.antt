use Rattle.std.proofs.Common.{rules}
use Rattle.text.proofs.WriterLaws.{started_written}
use Rattle.text.specs.Writer.{after}
use Rattle.registers.proofs.RegisterLaws.{written_as}
use Rattle.registers.proofs.register.write_text_register.Goals as goal

pub returns-clause-value : goal.returns-clause-value
returns-clause-value c = written_as _ _ _ (search (rules, started_written))

pub returns-clause-out_after : goal.returns-clause-out_after
unfolding after
returns-clause-out_after c = search rules
