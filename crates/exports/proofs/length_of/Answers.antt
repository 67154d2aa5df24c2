use Rattle.exports.proofs.ExportLaws.{length_or_0}
use Rattle.exports.proofs.length_of.Goals as goal

pub returns : goal.returns
returns c = length_or_0 _ _ c.unwrap_or.ensures
