use Rattle.text.proofs.WriterLaws.{after_then}
use Rattle.lines.specs.Words.{name, word_text}
use Rattle.lines.proofs.WordLaws.{spaced_is}
use Rattle.lines.proofs.words.put_name.Goals as goal

pub returns : goal.returns
unfolding word_text
returns c = spaced_is _ _ (name c.args.text.now) (after_then _ _ _ _ _ c.put.ensures c.put_all.ensures)
