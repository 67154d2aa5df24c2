use Rattle.std.proofs.Common.{◌∙◌}
use Rattle.matching.specs.Matching.{fits_field}
use Rattle.matching.proofs.Fitting.{same_item_is}
use Rattle.matching.proofs.template.fits_field.Goals as goal

pub returns-in-Exactly : goal.returns-in-Exactly
unfolding fits_field
returns-in-Exactly c = rw c.in-Exactly.is (c.eq.ensures ∙ same_item_is c.args.x c.in-Exactly.y)
