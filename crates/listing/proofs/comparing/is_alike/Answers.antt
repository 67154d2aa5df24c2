use Rattle.std.proofs.Common.{rules}
use Rattle.net.specs.Choice.{in_range}
use Rattle.net.proofs.AllLaws.{and_both}
use Rattle.listing.specs.Comparing.{alike}
use Rattle.listing.proofs.comparing.is_alike.Goals as goal

pub returns : goal.returns
unfolding alike in_range
returns c = search (rules, and_both)
