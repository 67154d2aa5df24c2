use Rattle.std.proofs.Common.{◌-◌}
use Rattle.lexemes.specs.Progress.{Resumes}
use Rattle.fields.specs.Sets.{members, no_members}
use Rattle.fields.proofs.sets.read_members.Given as goal

abbrev pub invariant-loop-i : goal.invariant-loop-i
invariant-loop-i l = Resumes l.initial.r (members 16 l.n 0 no_members) l.r (members (16 - l.i) l.n l.low l.marks)
