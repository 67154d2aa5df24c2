-- The fields of the template below i are in the tuple.
use Rattle.std.proofs.Common.{◌≡◌, ltb}
use Rattle.net.specs.Choice.{choose, fold}
use Rattle.net.specs.Records.{with_field, zero_tuple}
use Rattle.matching.specs.Matching.{want_at}
use Rattle.plans.specs.Additions.{item_of}
use Rattle.plans.proofs.plan.tuple_of.Given as goal

abbrev pub invariant-loop-i : goal.invariant-loop-i
invariant-loop-i l =
    l.t ≡ fold l.i (λ i t. choose (ltb i l.e.count) (with_field t (record { item = item_of (want_at l.e i) })) t) zero_tuple
