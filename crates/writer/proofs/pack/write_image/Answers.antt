use Rattle.writer.proofs.PackLaws.{image_packed, image_placed, image_none, image_kept}
use Rattle.writer.proofs.pack.write_image.Goals as goal

pub returns-then-is_fresh-clause-value : goal.returns-then-is_fresh-clause-value
returns-then-is_fresh-clause-value c =
    image_packed c.args.net c.is_fresh.result c.is_fresh.ensures _ _ c.if-is_fresh.true c.write_fresh.ensures.value

pub returns-then-is_fresh-clause-out_after : goal.returns-then-is_fresh-clause-out_after
returns-then-is_fresh-clause-out_after c =
    image_placed c.args.net c.is_fresh.result c.is_fresh.ensures _ _ c.if-is_fresh.true c.write_fresh.ensures.out_after

pub returns-else-is_fresh-clause-value : goal.returns-else-is_fresh-clause-value
returns-else-is_fresh-clause-value c =
    image_none c.args.net c.is_fresh.result c.is_fresh.ensures _ c.if-is_fresh.false

pub returns-else-is_fresh-clause-out_after : goal.returns-else-is_fresh-clause-out_after
returns-else-is_fresh-clause-out_after c =
    image_kept c.args.net c.is_fresh.result c.is_fresh.ensures _ c.if-is_fresh.false
