use lib.Dec.{eqb}
use borrow.Author.Tests.{eq-eqb, ne_eqb}
use Rattle.processes.proofs.Keeping.{keeps_look, keeps_true, keeps_false}
use Rattle.notation.specs.Lines.{line}
use Rattle.notation.proofs.lines.read_line.Goals as goal

pub returns-then-peek-eq65 : goal.returns-then-peek-eq65
unfolding line
returns-then-peek-eq65 c ls h =
    keeps_look _ _ _ _ _ _ c.peek.ensures (keeps_true _ _ _ (eqb c.peek.result 65) _ _ _ (eq-eqb _ _ c.if-peek-eq65.true) c.read_definition.ensures)

pub returns-else-peek-eq65 : goal.returns-else-peek-eq65
unfolding line
returns-else-peek-eq65 c ls h =
    keeps_look _ _ _ _ _ _ c.peek.ensures (keeps_false _ _ _ (eqb c.peek.result 65) _ _ _ (ne_eqb _ _ c.if-peek-eq65.false) (c.read_located.ensures ls h))
