use Rattle.text_writer.proofs.LoopLaws.{given_shown, given_left}
use Rattle.text.specs.Bytes.{bytes}
use Rattle.text.proofs.WriterLaws.{after_then}
use Rattle.text_writer.proofs.code.put_member.Goals as goal

pub returns-then-has : goal.returns-then-has
unfolding bytes
returns-then-has c =
    given_shown _ _ _ _ c.if-has.true (after_then _ _ _ _ _ c.put_given.ensures c.decimal.ensures)

pub returns-else-has : goal.returns-else-has
returns-else-has c =
    given_left _ _ _ c.if-has.false
