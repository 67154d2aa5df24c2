use Rattle.std.proofs.Common.{rules}
use Rattle.plans.proofs.PlanLaws.{by}
use Rattle.listing.specs.Listing.{parts_for}
use Rattle.listing.proofs.checking.PartsFromAge.from.Goals as goal

pub returns-in-Old : goal.returns-in-Old
unfolding parts_for
returns-in-Old c = search (rules, by parts_for)

pub returns-in-New : goal.returns-in-New
unfolding parts_for
returns-in-New c = search (rules, by parts_for)
