use Rattle.lines.proofs.WordLaws.{line_ends}
use Rattle.lines.proofs.words.put_line.Goals as goal

pub returns : goal.returns
returns c = line_ends _ _ _ _ _ c.put_start.ensures c.put.ensures
