use Rattle.std.proofs.Common.{rules}
use Rattle.lines.specs.Words.{spaced}
use Rattle.text.proofs.WriterLaws.{after_none}
use Rattle.lines.proofs.WordLaws.{numbers_more}
use Rattle.std.proofs.Common.{sym}
use Rattle.lines.proofs.words.put_numbers.Goals as goal

pub loop-n-init : goal.loop-n-init
unfolding spaced
loop-n-init c = sym (after_none _)

pub loop-n-preserved : goal.loop-n-preserved
loop-n-preserved c = search (rules, numbers_more)
