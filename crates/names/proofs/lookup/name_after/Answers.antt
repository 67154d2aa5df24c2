use Rattle.std.proofs.Common.{rules}
use Rattle.names.proofs.LookupLaws.{named_picked, named_none}
use Rattle.names.proofs.lookup.name_after.Goals as goal

pub returns-then-number-eq0 : goal.returns-then-number-eq0
returns-then-number-eq0 c = search (rules, named_picked)

pub returns-else-number-eq0 : goal.returns-else-number-eq0
returns-else-number-eq0 c = search (rules, named_none)
