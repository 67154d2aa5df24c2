-- Assumes nothing.
use Rattle.lean.specs.Words.{words_with}
use Rattle.lean.proofs.CopyLaws.{Decoding}
use Rattle.lean.proofs.decoding.decode.Given as goal

abbrev pub invariant-loop-a : goal.invariant-loop-a
invariant-loop-a l = Decoding l.fn.start (words_with l.n l.procs l.stored l.tuples l.rows) l.net l.a
