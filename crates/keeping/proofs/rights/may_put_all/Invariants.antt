-- Each member below address l has the right.
use Rattle.std.proofs.Common.{◌≡◌, true}
use Rattle.net.specs.Choice.{all, implies}
use Rattle.net.specs.Groups.{member}
use Rattle.net.specs.Records.{address_of}
use Rattle.keeping.specs.Keeping.{may_put}
use Rattle.keeping.proofs.rights.may_put_all.Given as goal

abbrev pub invariant-loop-l : goal.invariant-loop-l
invariant-loop-l l = true ≡ all l.l (λ i. implies (member l.g (address_of i)) (may_put l.row (address_of i)))
