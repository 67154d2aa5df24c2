use Rattle.std.proofs.Common.{rules, ◌∙◌, ap, sym, not}
use Rattle.text_writer.proofs.LoopLaws.{given_shown, given_left}
use Rattle.sources.specs.Printed.{grant_text}
use Rattle.text.specs.Bytes.{bytes}
use Rattle.text.proofs.WriterLaws.{writing}
use Rattle.text_writer.proofs.policies.put_grant.Goals as goal

pub returns-then-not-is_none : goal.returns-then-not-is_none
unfolding grant_text bytes
returns-then-not-is_none c =
    given_shown _ _ _ _ (ap not (sym c.is_none.ensures ∙ c.if-not-is_none.true)) (search (rules, writing))

pub returns-else-not-is_none : goal.returns-else-not-is_none
unfolding grant_text
returns-else-not-is_none c =
    given_left _ _ _ (ap not (sym c.is_none.ensures ∙ c.if-not-is_none.false))
