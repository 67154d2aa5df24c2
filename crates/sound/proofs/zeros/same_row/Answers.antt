-- A record of a program has the lengths of its type. Assumes nothing.
use Rattle.std.proofs.Common.{◌∙◌}
use Rattle.net.proofs.Lengths.{row_shaped}
use Rattle.sound.proofs.ZeroTests.{same_row_is}
use Rattle.sound.proofs.zeros.same_row.Goals as goal

pub returns : goal.returns
returns c = c.eq.ensures ∙ same_row_is c.args.row c.args.other (row_shaped _ _ c.well_formed.0).rights_are (row_shaped _ _ c.well_formed.1.0).rights_are
