-- Assumes nothing.
use Rattle.std.proofs.Common.{rules}
use Rattle.net.specs.Records.{instruction_at}
use Rattle.lean.proofs.NeedsLoaded.{needs_none, needs_sent, needs_unsent, needs_end}
use Rattle.lean.proofs.loading.load_needs.Goals.{then-sent-lt512, else-sent-lt512}
use Rattle.lean.proofs.loading.load_needs.Goals as goal

pub loop-q-init : goal.loop-q-init
loop-q-init c = search (rules, needs_none)

pub loop-q-preserved : goal.loop-q-preserved
unfolding instruction_at
loop-q-preserved c =
    elim c.if-sent-lt512.branch [
      | then-sent-lt512 w ↦ search (rules, needs_sent)
      | else-sent-lt512 w ↦ search (rules, needs_unsent)
    ]

pub returns : goal.returns
returns c = search (rules, needs_end)
