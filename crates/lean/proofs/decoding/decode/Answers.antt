-- Assumes nothing.
use Rattle.std.proofs.Common.{rules}
use Rattle.lean.specs.Words.{node_in, net_in}
use Rattle.lean.proofs.CopyLaws.{decoding_none, decoding_more, decoding_all}
use Rattle.lean.proofs.decoding.decode.Goals as goal

pub loop-a-init : goal.loop-a-init
loop-a-init c = decoding_none _ _

pub loop-a-preserved : goal.loop-a-preserved
unfolding node_in
loop-a-preserved c = search (rules, decoding_more)

pub returns : goal.returns
unfolding net_in
returns c = search (rules, decoding_all)
