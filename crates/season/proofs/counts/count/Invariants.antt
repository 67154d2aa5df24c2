use Rattle.season.proofs.CountLaws.{Counting}
use Rattle.season.proofs.counts.count.Given as goal

abbrev pub invariant-loop-i : goal.invariant-loop-i
invariant-loop-i l = Counting l.fn.picks l.fn.answers l.performed l.named l.i
