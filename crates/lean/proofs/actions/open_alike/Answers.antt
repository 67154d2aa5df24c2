-- Assumes nothing.
use Rattle.std.proofs.Common.{rules}
use Rattle.lean.proofs.OpenLaws.{alike_is}
use Rattle.lean.proofs.actions.open_alike.Goals as goal

pub returns : goal.returns
returns c = search (rules, alike_is)
