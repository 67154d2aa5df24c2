use Rattle.std.proofs.Common.{◌*◌, ◌+◌, ◌-◌, length}
use Rattle.processes.specs.Progress.{Chained, Lent}
use Rattle.processes.specs.Reading.{process_at}
use Rattle.processes.proofs.processes.+process_text.Given as goal

abbrev pub invariant-read_chain-loop-i : goal.invariant-read_chain-loop-i
invariant-read_chain-loop-i l =
    Chained (process_at l.d l.scope) l.scope l.initial.r (length l.initial.r.text.now) l.initial.code l.r (length l.initial.r.text.now - l.i) l.code
    × Lent l.initial.code l.code

abbrev pub decreases-read_started : goal.decreases-read_started
decreases-read_started l = 6 * l.d

abbrev pub decreases-read_fork : goal.decreases-read_fork
decreases-read_fork l = 6 * l.d + 1

abbrev pub decreases-read_eval : goal.decreases-read_eval
decreases-read_eval l = 6 * l.d + 1

abbrev pub decreases-read_end : goal.decreases-read_end
decreases-read_end l = 6 * l.d + 2

abbrev pub decreases-read_act : goal.decreases-read_act
decreases-read_act l = 6 * l.d + 2

abbrev pub decreases-read_action : goal.decreases-read_action
decreases-read_action l = 6 * l.d + 3

abbrev pub decreases-read_chain : goal.decreases-read_chain
decreases-read_chain l = 6 * l.d + 4
