-- Each node in use below address i is judged, and keeps within its rows.
use Rattle.std.proofs.Common.{◌≡◌, true}
use Rattle.net.specs.Choice.{all}
use Rattle.net.specs.Records.{address_of}
use Rattle.keeping.specs.Admission.{admits_at}
use Rattle.keeping.proofs.admission.admitted.Given as goal

abbrev pub invariant-loop-i : goal.invariant-loop-i
invariant-loop-i l = true ≡ all l.i (λ j. admits_at l.net (address_of j))
