use Rattle.std.proofs.Common.{rules}
use Rattle.names.proofs.LookupLaws.{named_tested}
use Rattle.names.proofs.lookup.name.Goals as goal

pub returns : goal.returns
returns c = search (rules, named_tested)
