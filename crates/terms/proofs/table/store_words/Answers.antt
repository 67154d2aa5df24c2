use Rattle.std.proofs.Common.{◌*◌, refl, arith}
use Rattle.text.specs.Buffer.{over}
use Rattle.text.specs.Joined.{joined}
use Rattle.net.specs.Records.{pattern_at}
use Rattle.terms.specs.Table.{instruction_words, template_words}
use Rattle.terms.proofs.TableLaws.{over_past, over_more, over_whole}
use Rattle.terms.proofs.table.store_words.Goals as goal

pub returns-then-n-table : goal.returns-then-n-table
returns-then-n-table c = over_past c.args.table.now (9 * c.args.n) _ (omega arith)

pub loop-i-init : goal.loop-i-init
unfolding over
loop-i-init c = refl

pub loop-i-preserved : goal.loop-i-preserved
loop-i-preserved c =
    rw (c.put.ensures, c.loop-i.invariant) (over_more c.args.table.now (9 * c.args.n) _ c.loop-i.i 0 (omega arith))

pub returns : goal.returns
unfolding instruction_words template_words joined pattern_at
returns c =
    rw (← c.pattern_word.ensures, ← c.pattern_word-2.ensures, ← c.pattern_word-3.ensures, ← c.pattern_word-4.ensures)
    (over_whole c.args.table.now (9 * c.args.n) _ c.loop-i.table c.loop-i.i (omega arith) c.loop-i.invariant)
