-- Assumes nothing.
use Rattle.std.proofs.Common.{rules}
use Rattle.net.proofs.Laws.{branches}
use Rattle.lean.specs.Words.{slot_at}
use Rattle.lean.specs.Rounds.{step_at, step_words}
use Rattle.lean.proofs.rounds.step.Goals as goal

pub returns-then-b-ne0 : goal.returns-then-b-ne0
unfolding step_words step_at slot_at
returns-then-b-ne0 c = search (rules, branches)

pub returns-then-n-a : goal.returns-then-n-a
unfolding step_words step_at slot_at
returns-then-n-a c = search (rules, branches)

pub returns-then-at-ge512 : goal.returns-then-at-ge512
unfolding step_words step_at slot_at
returns-then-at-ge512 c = search (rules, branches)

pub returns-else-at-ge512 : goal.returns-else-at-ge512
unfolding step_words step_at slot_at
returns-else-at-ge512 c = search (rules, branches)
