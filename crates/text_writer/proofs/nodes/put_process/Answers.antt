use Rattle.std.proofs.Common.{rules}
use Rattle.text_writer.proofs.LoopLaws.{line_shown, line_left}
use Rattle.sources.specs.Printed.{address_text, line_text, newline}
use Rattle.text.specs.Bytes.{bytes}
use Rattle.text.proofs.WriterLaws.{writing}
use Rattle.text_writer.proofs.nodes.put_process.Goals as goal

pub returns-then-p : goal.returns-then-p
unfolding line_text address_text newline bytes
returns-then-p c =
    line_shown _ _ _ _ c.if-p.true (search (rules, writing))

pub returns-else-p : goal.returns-else-p
returns-else-p c =
    line_left _ _ _ c.if-p.false
