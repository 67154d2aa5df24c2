-- What is left to look at gives what the whole gives.
use Rattle.std.proofs.Common.{ltb, Some, None}
use Rattle.net.specs.Choice.{both}
use Rattle.net.specs.Records.{tuple_at}
use Rattle.net.proofs.FirstLaws.{Left}
use Rattle.matching.specs.Matching.{fits_of}
use Rattle.matching.proofs.template.oldest.Given as goal

abbrev pub invariant-loop-i : goal.invariant-loop-i
invariant-loop-i l = Left 16 (λ j. both (ltb j l.n.stored) (fits_of (tuple_at l.n j) l.e)) Some None l.i
