use Rattle.std.proofs.Common.{rules}
use Rattle.text_writer.proofs.LoopLaws.{line_alone}
use Rattle.read_back.specs.NetSource.{body_of}
use Rattle.sources.specs.Printed.{line_text, newline}
use Rattle.text.specs.Bytes.{bytes}
use Rattle.text.proofs.WriterLaws.{writing}
use Rattle.text_writer.proofs.code.put_definition.Goals as goal

pub returns : goal.returns
unfolding line_text newline body_of bytes
returns c =
    line_alone _ _ _ (search (rules, writing))
