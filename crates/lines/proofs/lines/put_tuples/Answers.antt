use Rattle.std.proofs.Common.{rules}
use Rattle.net.specs.Records.{tuple_at}
use Rattle.lines.specs.Lines.{tuple_lines}
use Rattle.text.proofs.WriterLaws.{joined_step}
use Rattle.lines.proofs.WordLaws.{lines_upto}
use Rattle.lines.proofs.lines.put_tuples.Goals as goal

pub loop-i-preserved : goal.loop-i-preserved
unfolding tuple_at
loop-i-preserved c = search (rules, joined_step)

pub returns : goal.returns
unfolding tuple_lines
returns c = search (rules, lines_upto)
