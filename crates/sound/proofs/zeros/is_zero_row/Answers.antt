-- A record of a program has the lengths of its type. Assumes nothing.
use Rattle.std.proofs.Common.{◌∙◌}
use Rattle.net.proofs.Lengths.{row_shaped}
use Rattle.sound.proofs.ZeroTests.{zero_row_is}
use Rattle.sound.proofs.zeros.is_zero_row.Goals as goal

pub returns : goal.returns
returns c = (rw c.zero.ensures at c.eq.ensures) ∙ zero_row_is c.args.row (row_shaped _ _ c.well_formed.0).rights_are
