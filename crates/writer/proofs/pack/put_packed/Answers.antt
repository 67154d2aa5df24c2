use Rattle.std.proofs.Common.{rules, ◌+◌, ◌/◌}
use Rattle.text.specs.Writer.{after}
use Rattle.writer.proofs.ByteLaws.{packed_cut, packed_whole, placed_cut, placed_whole}
use Rattle.writer.proofs.pack.put_packed.Goals as goal

pub returns-then-n-out-clause-value : goal.returns-then-n-out-clause-value
returns-then-n-out-clause-value c = packed_cut c.args.bits.now _ _ c.if-n-out.true

pub returns-then-n-out-clause-out_after : goal.returns-then-n-out-clause-out_after
returns-then-n-out-clause-out_after c = placed_cut c.args.bits.now _ _ c.if-n-out.true

pub returns-clause-value : goal.returns-clause-value
returns-clause-value c = packed_whole c.args.bits.now _ _ c.if-n-out.false

pub returns-clause-out_after : goal.returns-clause-out_after
unfolding after
returns-clause-out_after c =
    placed_whole c.args.bits.now ((c.args.end + 7) / 8) c.args.out.now _ c.if-n-out.false (search rules)
