-- The wants of the fields below i stand in their places.
use Rattle.std.proofs.Common.{◌≡◌, ltb, set, replicate}
use Rattle.net.specs.Choice.{choose, fold}
use Rattle.net.specs.Records.{pattern_at}
use Rattle.matching.specs.Matching.{want_of, zero_wanted}
use Rattle.matching.proofs.template.all_wants.Given as goal

abbrev pub invariant-loop-i : goal.invariant-loop-i
invariant-loop-i l =
    l.ws
    ≡ fold l.i (λ j ws. choose (ltb j l.c.count) (set ws j (record { want = want_of l.host l.p (pattern_at l.c j) })) ws)
    (replicate 4 zero_wanted)
