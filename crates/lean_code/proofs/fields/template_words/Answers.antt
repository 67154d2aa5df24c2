-- Assumes nothing.
use Rattle.std.proofs.Common.{rules}
use Rattle.net.specs.Records.{pattern_at}
use Rattle.lean_words.proofs.FilledLaws.{filled_none, filled_more, filled_end}
use Rattle.lean_code.specs.Fields.{template_words}
use Rattle.lean_code.proofs.fields.template_words.Goals as goal

pub loop-i-init : goal.loop-i-init
loop-i-init c = search (rules, filled_none)

pub loop-i-preserved : goal.loop-i-preserved
unfolding pattern_at
loop-i-preserved c = search (rules, filled_more)

pub returns : goal.returns
unfolding template_words
returns c = search (rules, filled_end)
