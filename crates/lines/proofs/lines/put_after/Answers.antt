use Rattle.std.proofs.Common.{rules}
use Rattle.lines.proofs.WordLaws.{after_law}
use Rattle.lines.proofs.lines.put_after.Goals as goal

pub returns : goal.returns
returns c = search (rules, after_law)
