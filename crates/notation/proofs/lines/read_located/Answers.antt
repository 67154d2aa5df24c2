use lib.Dec.{eqb}
use borrow.Author.Tests.{eq-eqb, ne_eqb}
use Rattle.text.specs.Bytes.{bytes}
use Rattle.processes.proofs.Keeping.{keeps_look, keeps_true, keeps_false, keeps_then, keeps_fault, keeps_next, keeps_next_fault}
use Rattle.notation.specs.Lines.{located_line, placed_line}
use Rattle.notation.proofs.lines.read_located.Goals as goal

pub returns-in_err-a : goal.returns-in_err-a
unfolding located_line
returns-in_err-a c ls h = keeps_fault _ _ _ _ _ _ _ c.in_err-a.ensures.read c.from_residual.ensures.1

pub returns-in_err-word : goal.returns-in_err-word
unfolding located_line bytes
returns-in_err-word c ls h =
    keeps_then _ _ _ _ _ _ _ _ c.in_ok-a.ensures.read (keeps_next_fault _ _ _ _ _ _ _ c.in_err-word.ensures c.from_residual-in_err-word.ensures.1)

pub returns-then-peek-eq60 : goal.returns-then-peek-eq60
unfolding located_line placed_line bytes
returns-then-peek-eq60 c ls h =
    keeps_then _ _ _ _ _ _ _ _ c.in_ok-a.ensures.read
    (keeps_next _ _ _ _ _ _ _ _ c.in_ok-word.ensures
    (keeps_look _ _ _ _ _ _ c.peek.ensures
    (keeps_true _ _ _ (eqb c.peek.result 60) _ _ _ (eq-eqb _ _ c.if-peek-eq60.true) (c.read_tuple_line.ensures ls h))))

pub returns-else-peek-eq60 : goal.returns-else-peek-eq60
unfolding located_line placed_line bytes
returns-else-peek-eq60 c ls h =
    keeps_then _ _ _ _ _ _ _ _ c.in_ok-a.ensures.read
    (keeps_next _ _ _ _ _ _ _ _ c.in_ok-word.ensures
    (keeps_look _ _ _ _ _ _ c.peek.ensures
    (keeps_false _ _ _ (eqb c.peek.result 60) _ _ _ (ne_eqb _ _ c.if-peek-eq60.false) (c.read_process_line.ensures ls h))))
