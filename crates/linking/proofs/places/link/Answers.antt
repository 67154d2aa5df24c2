use Rattle.std.proofs.Common.{rules}
use Rattle.net.specs.Records.{with_counts}
use Rattle.net.proofs.Lengths.{net_shaped}
use Rattle.linking.proofs.PlacingLaws.{linked_all}
use Rattle.linking.proofs.places.link.Goals as goal

pub returns : goal.returns
unfolding with_counts
returns c = search (rules, linked_all, net_shaped)
