-- A record of a program has the lengths of its type. Assumes nothing.
use Rattle.std.proofs.Common.{◌∙◌}
use Rattle.net.proofs.Lengths.{tuple_shaped}
use Rattle.sound.proofs.ZeroTests.{zero_tuple_is}
use Rattle.sound.proofs.zeros.is_zero_tuple.Goals as goal

pub returns : goal.returns
returns c = (rw c.zero.ensures at c.eq.ensures) ∙ zero_tuple_is c.args.t (tuple_shaped _ _ c.well_formed.0).fields_are
