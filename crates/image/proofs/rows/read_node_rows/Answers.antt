use borrow.Author.Rules.{rules}
use native.Mathlib.Omega.{arith}
use Rattle.bitreader.proofs.ReadsLaws.{turning}
use Rattle.bitreader.proofs.ReadsLaws.{turned_more}
use Rattle.image.proofs.ImageLaws.{turns, row_turn}
use Rattle.image.proofs.rows.read_node_rows.Goals as goal

pub returns-in_err-read_row : goal.returns-in_err-read_row
returns-in_err-read_row c = search (rules, turns)

pub returns-then-format-eq1 : goal.returns-then-format-eq1
returns-then-format-eq1 c = search (rules, turns)

pub loop-o-init : goal.loop-o-init
loop-o-init c = search (rules, turning)

pub loop-o-preserved : goal.loop-o-preserved
loop-o-preserved c = turned_more _ _ _ _ _ _ _ _ _ (omega arith) c.loop-o.invariant (row_turn _ _ c.args.n _ _ _ c.in_ok-node.ensures)

pub returns-in_err-node : goal.returns-in_err-node
returns-in_err-node c = search (rules, turning, turns)

pub returns : goal.returns
returns c = search (rules, turning, turns)
