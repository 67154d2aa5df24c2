use Rattle.std.proofs.Common.{arith}
use Rattle.text_writer.proofs.ListLaws.{some_none, some_more, members_start, members_step, members_end}
use Rattle.text.specs.Bytes.{bytes}
use Rattle.text_writer.proofs.code.put_members.Goals as goal

pub loop-l-init : goal.loop-l-init
loop-l-init c =
    (some_none c.args.g, members_start c.args.g _)

pub loop-l-preserved : goal.loop-l-preserved
unfolding bytes
loop-l-preserved c = (
  some_more c.args.g _ _ _ c.has-has.ensures c.loop-l.invariant.0,
  members_step c.args.g _ _ _ c.loop-l.l _ _ c.has-has.ensures c.loop-l.invariant.0 c.loop-l.invariant.1 (rw c.from.ensures at c.put_member.ensures),
)

pub returns : goal.returns
returns c = members_end c.args.g _ _ c.loop-l.l c.loop-l.invariant.1 (omega (arith, c.loop-l-test.false, c.loop-l.auto.l-end))
