use Rattle.std.proofs.Common.{rules}
use Rattle.names.specs.Names.{size_at}
use Rattle.names.proofs.entries.end_of.Goals as goal

pub returns : goal.returns
unfolding size_at
returns c = search rules
