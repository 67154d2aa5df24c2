use Rattle.std.proofs.Common.{sym, ◌∙◌}
use Rattle.text.proofs.WriterLaws.{after_none, after_more}
use Rattle.text.proofs.writer.Writer.put_all.Goals as goal

pub loop-x-init : goal.loop-x-init
loop-x-init g c = sym (after_none c.args.self.now)

pub loop-x-preserved : goal.loop-x-preserved
loop-x-preserved g c =
    c.put.ensures ∙ after_more c.args.self.now c.loop-x.self c.loop-x.x-index c.args.xs.now c.x-item.result c.loop-x.invariant c.loop-x-test.true c.x-item.is
