use Rattle.std.proofs.Common.{rules}
use Rattle.text.specs.Bytes.{bytes}
use Rattle.lines.proofs.WordLaws.{mark_shown, mark_left}
use Rattle.lines.proofs.lines.put_mark.Goals as goal

pub returns-then-parts : goal.returns-then-parts
unfolding bytes
returns-then-parts c = search (rules, mark_shown)

pub returns-else-parts : goal.returns-else-parts
returns-else-parts c = search (rules, mark_left)
