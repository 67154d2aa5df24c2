-- Assumes nothing.
use Rattle.std.proofs.Common.{rules}
use Rattle.net.proofs.AllLaws.{all_none, all_more}
use Rattle.lean_words.proofs.RightsLaws.{covered_at, admits_is}
use Rattle.lean_words.proofs.rights.admits.Goals as goal

pub loop-m-init : goal.loop-m-init
loop-m-init c = search (rules, all_none)

pub loop-m-preserved : goal.loop-m-preserved
loop-m-preserved c = search (rules, all_more, covered_at)

pub returns : goal.returns
returns c = search (rules, admits_is)
