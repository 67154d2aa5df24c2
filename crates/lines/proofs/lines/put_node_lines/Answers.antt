use Rattle.std.proofs.Common.{rules}
use Rattle.lines.proofs.WordLaws.{node_lines_law}
use Rattle.lines.proofs.lines.put_node_lines.Goals as goal

pub returns : goal.returns
returns c = search (rules, node_lines_law)
