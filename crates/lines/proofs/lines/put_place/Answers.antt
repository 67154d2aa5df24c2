use Rattle.std.proofs.Common.{rules}
use Rattle.text.specs.Bytes.{bytes}
use Rattle.lines.proofs.WordLaws.{place_shown, place_left}
use Rattle.lines.proofs.lines.put_place.Goals as goal

pub returns-then-parts : goal.returns-then-parts
unfolding bytes
returns-then-parts c = search (rules, place_shown)

pub returns-else-parts : goal.returns-else-parts
returns-else-parts c = search (rules, place_left)
