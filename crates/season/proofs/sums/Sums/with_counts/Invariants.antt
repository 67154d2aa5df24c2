use Rattle.std.proofs.Common.{◌+◌}
use Rattle.season.proofs.CountLaws.{Tallying}
use Rattle.season.proofs.sums.Sums.with_counts.Given as goal

abbrev pub invariant-loop-a : goal.invariant-loop-a
invariant-loop-a l = Tallying l.fn.self l.fn.counts l.fn.net (l.fn.self.runs + 1) l.self l.a
