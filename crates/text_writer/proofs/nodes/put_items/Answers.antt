use Rattle.std.proofs.Common.{sym}
use Rattle.text_writer.proofs.LoopLaws.{separated_step}
use Rattle.sources.specs.Printed.{item_text, separated}
use Rattle.text.specs.Bytes.{bytes}
use Rattle.text.proofs.WriterLaws.{after_none}
use Rattle.net.specs.declared.tuple.Field.{Field}
use Rattle.text_writer.proofs.nodes.put_items.Goals as goal

pub loop-i-init : goal.loop-i-init
unfolding separated
loop-i-init c =
    sym (after_none _)

pub loop-i-preserved : goal.loop-i-preserved
unfolding bytes
loop-i-preserved c =
    separated_step (λ (f : Field). item_text f.item) c.args.t.now.fields c.loop-i.i c.args.t.now.count c.loop-i-test.true _ _ _ _ c.loop-i.invariant c.put_item.ensures
