use Rattle.std.proofs.Common.{◌≡◌, map, take}
use Rattle.sources.specs.Printed.{separated, item_text}
use Rattle.text.specs.Writer.{after}
use Rattle.text_writer.proofs.nodes.put_items.Given as goal

abbrev pub invariant-loop-i : goal.invariant-loop-i
invariant-loop-i l = (l.out ≡ after l.fn.out (separated (map (λ f. item_text f.item) (take l.i l.t.fields))))
