use Rattle.std.proofs.Common.{arith}
use Rattle.writer.proofs.ByteLaws.{number_start, number_next, number_within}
use Rattle.writer.proofs.bytes.byte_at.Goals as goal

pub loop-w-init : goal.loop-w-init
loop-w-init c = (number_start c.args.bits.now c.args.at, omega arith)

pub loop-w-preserved : goal.loop-w-preserved
loop-w-preserved c = (
  number_next c.args.bits.now c.args.at _ _ c.loop-w.w c.loop-w.invariant.0 c.bit_at.ensures.0,
  number_within c.args.bits.now c.args.at _ _ c.loop-w.w c.loop-w.invariant.0 c.bit_at.ensures.0 c.loop-w-test.true,
)
