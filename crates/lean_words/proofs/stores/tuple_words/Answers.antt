-- Assumes nothing.
use Rattle.std.proofs.Common.{rules}
use Rattle.net.specs.Records.{field_at}
use Rattle.lean_words.proofs.FilledLaws.{filled_none, filled_more}
use Rattle.lean_words.proofs.StoreLaws.{words_tuple}
use Rattle.lean_words.proofs.stores.tuple_words.Goals as goal

pub loop-i-init : goal.loop-i-init
loop-i-init c = search (rules, filled_none)

pub loop-i-preserved : goal.loop-i-preserved
unfolding field_at
loop-i-preserved c = search (rules, filled_more)

pub returns : goal.returns
returns c = search (rules, words_tuple)
