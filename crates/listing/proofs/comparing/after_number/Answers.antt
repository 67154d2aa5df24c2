use Rattle.std.proofs.Common.{refl}
use Rattle.listing.specs.Comparing.{after_number}
use Rattle.listing.proofs.comparing.after_number.Goals as goal

pub returns : goal.returns
unfolding after_number
returns c = refl
