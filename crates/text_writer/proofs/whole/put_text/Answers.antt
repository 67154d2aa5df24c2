use Rattle.text_writer.proofs.LoopLaws.{both_lines}
use Rattle.read_back.specs.NetSource.{lines_of, source_of, text_of}
use Rattle.sources.specs.Printed.{printed}
use Rattle.text.proofs.WriterLaws.{after_then}
use Rattle.text_writer.proofs.whole.put_text.Goals as goal

pub returns : goal.returns
unfolding text_of printed source_of lines_of
returns c =
    after_then _ _ _ _ _ c.put_policy.ensures (both_lines _ _ _ _ _ c.put_definitions.ensures c.put_nodes.ensures)
