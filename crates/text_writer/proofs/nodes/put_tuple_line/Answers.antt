use Rattle.std.proofs.Common.{rules}
use Rattle.text_writer.proofs.LoopLaws.{line_alone}
use Rattle.sources.specs.Printed.{address_text, line_text, newline}
use Rattle.text.specs.Bytes.{bytes}
use Rattle.text.proofs.WriterLaws.{writing}
use Rattle.text_writer.proofs.nodes.put_tuple_line.Goals as goal

pub returns : goal.returns
unfolding line_text address_text newline bytes
returns c =
    line_alone _ _ _ (search (rules, writing))
