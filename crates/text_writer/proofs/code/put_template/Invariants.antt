use Rattle.std.proofs.Common.{◌≡◌, map, take}
use Rattle.sources.specs.Printed.{separated, pattern_text}
use Rattle.text.specs.Writer.{after}
use Rattle.text_writer.proofs.code.put_template.Given as goal

abbrev pub invariant-loop-i : goal.invariant-loop-i
invariant-loop-i l = (l.out ≡ after l.fn.out (separated (map (λ f. pattern_text f.pattern) (take l.i l.c.template))))
