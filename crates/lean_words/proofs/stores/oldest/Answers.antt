-- Assumes nothing.
use Rattle.std.proofs.Common.{rules}
use Rattle.net.proofs.AllLaws.{and_both}
use Rattle.net.proofs.FirstLaws.{first_start, first_again, first_here, first_none}
use Rattle.lean_words.specs.Stores.{oldest_in}
use Rattle.lean_words.proofs.stores.oldest.Goals as goal

pub loop-j-init : goal.loop-j-init
loop-j-init c = search (rules, first_start)

pub returns-then-fits-j : goal.returns-then-fits-j
unfolding oldest_in
returns-then-fits-j c = search (rules, first_here, and_both)

pub loop-j-preserved : goal.loop-j-preserved
loop-j-preserved c = search (rules, first_again, and_both)

pub returns : goal.returns
unfolding oldest_in
returns c = search (rules, first_none)
