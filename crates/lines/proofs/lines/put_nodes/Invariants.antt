use Rattle.std.proofs.Common.{◌≡◌}
use Rattle.lines.specs.Words.{printed}
use Rattle.lines.specs.Lines.{address_lines}
use Rattle.names.specs.Faults.{number_of}
use Rattle.lines.specs.Shown.{named_after}
use Rattle.net.specs.Records.{address_of}
use Rattle.text.specs.Joined.{joined}
use Rattle.text.specs.Writer.{after}
use Rattle.lines.proofs.lines.put_nodes.Given as goal

abbrev pub invariant-loop-i : goal.invariant-loop-i
invariant-loop-i l = l.out ≡ after l.fn.out (joined l.i (λ j. printed (address_lines (named_after (number_of l.tested) l.shown.parts l.shown.site.now l.shown.office.now) l.net (address_of j))))
