use Rattle.std.proofs.Common.{rules}
use Rattle.net.specs.Records.{field_at}
use Rattle.lines.specs.Lines.{field_words}
use Rattle.text.proofs.WriterLaws.{joined_step}
use Rattle.lines.proofs.WordLaws.{words_upto}
use Rattle.lines.proofs.lines.put_fields.Goals as goal

pub loop-i-preserved : goal.loop-i-preserved
unfolding field_at
loop-i-preserved c = search (rules, joined_step)

pub returns : goal.returns
unfolding field_words
returns c = search (rules, words_upto)
