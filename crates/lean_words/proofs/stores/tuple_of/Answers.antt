-- Assumes nothing.
use Rattle.std.proofs.Common.{rules}
use Rattle.lean_words.proofs.StoreLaws.{fields_none, fields_more, tuple_parts}
use Rattle.lean_words.proofs.stores.tuple_of.Goals as goal

pub loop-i-init : goal.loop-i-init
loop-i-init c = search (rules, fields_none)

pub loop-i-preserved : goal.loop-i-preserved
loop-i-preserved c = search (rules, fields_more)

pub returns : goal.returns
returns c = search (rules, tuple_parts)
