use Rattle.std.proofs.Common.{arith, sym, ◌∙◌}
use Rattle.processes.specs.Room.{room}
use Rattle.processes.proofs.ChainLaws.{begins_answer, begins_here}
use Rattle.processes.proofs.names.start_here.Goals as goal

pub overflow_add-result : goal.overflow_add-result
unfolding room
overflow_add-result c = omega arith

pub returns-then-peek-eq65 : goal.returns-then-peek-eq65
returns-then-peek-eq65 c =
    rw (c.unwrap_or.ensures) (begins_answer c.args.r.now c.args.n c.read_name.result c.read_name.new.r (sym c.peek.ensures ∙ c.if-peek-eq65.true) c.read_name.ensures.read)

pub returns-else-peek-eq65 : goal.returns-else-peek-eq65
returns-else-peek-eq65 c = begins_here _ c.args.n _ c.peek.ensures c.if-peek-eq65.false
