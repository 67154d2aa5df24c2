use native.Mathlib.Omega.{arith}
use borrow.Author.Rules.{rules}
use Rattle.bitreader.proofs.ReadsLaws.{reading, turning, turned_more}
use Rattle.image.specs.Image.{each_address}
use Rattle.image.proofs.entries.read_entries.Goals as goal

pub loop-a-init : goal.loop-a-init
loop-a-init c = search (rules, turning)

pub loop-a-preserved : goal.loop-a-preserved
loop-a-preserved c =
    turned_more _ _ _ _ _ _ _ _ _ (omega arith) c.loop-a.invariant c.in_ok-read_node_entries.ensures

pub returns-in_err-read_node_entries : goal.returns-in_err-read_node_entries
unfolding each_address
returns-in_err-read_node_entries c = search (rules, reading, turning)

pub returns : goal.returns
unfolding each_address
returns c = search (rules, reading, turning)
