use Rattle.std.proofs.Common.{rules}
use Rattle.text.specs.Bytes.{bytes}
use Rattle.lines.proofs.WordLaws.{closing_shown, closing_left}
use Rattle.lines.proofs.lines.put_closing.Goals as goal

pub returns-then-parts : goal.returns-then-parts
unfolding bytes
returns-then-parts c = search (rules, closing_shown)

pub returns-else-parts : goal.returns-else-parts
returns-else-parts c = search (rules, closing_left)
