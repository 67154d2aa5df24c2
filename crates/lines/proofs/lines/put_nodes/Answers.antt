use Rattle.std.proofs.Common.{rules}
use Rattle.net.specs.Records.{node_at}
use Rattle.lines.specs.Lines.{address_lines, net_lines}
use Rattle.lines.specs.Shown.{named_after}
use Rattle.text.proofs.WriterLaws.{joined_step}
use Rattle.lines.proofs.WordLaws.{lines_upto}
use Rattle.lines.proofs.lines.put_nodes.Goals as goal

pub loop-i-preserved : goal.loop-i-preserved
unfolding address_lines node_at named_after
loop-i-preserved c = search (rules, joined_step)

pub returns : goal.returns
unfolding net_lines
returns c = search (rules, lines_upto)
