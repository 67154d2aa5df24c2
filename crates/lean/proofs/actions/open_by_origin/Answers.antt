-- Assumes nothing.
use Rattle.std.proofs.Common.{rules}
use Rattle.lean.proofs.OpenLaws.{by_origin_is}
use Rattle.lean.proofs.actions.open_by_origin.Goals as goal

pub returns : goal.returns
returns c = search (rules, by_origin_is)
