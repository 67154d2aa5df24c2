-- Each field below i is defined.
use Rattle.std.proofs.Common.{◌≡◌, true, ltb}
use Rattle.net.specs.Choice.{all, implies}
use Rattle.net.specs.Records.{pattern_at}
use Rattle.matching.specs.Matching.{defined_field}
use Rattle.matching.proofs.template.all_defined.Given as goal

abbrev pub invariant-loop-i : goal.invariant-loop-i
invariant-loop-i l = true ≡ all l.i (λ j. implies (ltb j l.c.count) (defined_field l.p (pattern_at l.c j)))
