-- A record of a program has the lengths of its type. Assumes nothing.
use Rattle.std.proofs.Common.{◌∙◌}
use Rattle.net.proofs.Lengths.{process_shaped}
use Rattle.sound.proofs.ZeroTests.{free_is}
use Rattle.sound.proofs.zeros.is_free.Goals as goal

pub returns : goal.returns
returns c = (rw c.free.ensures at c.eq.ensures) ∙ free_is c.args.p (process_shaped _ _ c.well_formed.0).variables_are
