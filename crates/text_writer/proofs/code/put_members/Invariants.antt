use Rattle.std.proofs.Common.{◌≡◌, map, ltb, length}
use Rattle.sources.specs.Printed.{separated, address_text}
use Rattle.net.specs.Groups.{members_below}
use Rattle.text.specs.Writer.{after}
use Rattle.text_writer.proofs.code.put_members.Given as goal

abbrev pub invariant-loop-l : goal.invariant-loop-l
invariant-loop-l l = (l.some ≡ ltb 0 (length (members_below l.l l.g))) × (l.out ≡ after l.fn.out (separated (map address_text (members_below l.l l.g))))
