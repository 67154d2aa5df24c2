-- Each field below i fits.
use Rattle.std.proofs.Common.{◌≡◌, true, ltb}
use Rattle.net.specs.Choice.{all, implies}
use Rattle.net.specs.Records.{field_at}
use Rattle.matching.specs.Matching.{fits_field, want_at}
use Rattle.matching.proofs.template.fits.Given as goal

abbrev pub invariant-loop-i : goal.invariant-loop-i
invariant-loop-i l = true ≡ all l.i (λ j. implies (ltb j l.e.count) (fits_field (field_at l.t j) (want_at l.e j)))
