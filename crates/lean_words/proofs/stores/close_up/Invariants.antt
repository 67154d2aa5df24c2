-- Assumes nothing.
use Rattle.lean_words.proofs.StoreLaws.{Closing}
use Rattle.lean_words.proofs.stores.close_up.Given as goal

abbrev pub invariant-loop-j : goal.invariant-loop-j
invariant-loop-j l = Closing l.fn.ts l.i l.ts l.j
