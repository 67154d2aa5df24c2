use Rattle.text_writer.proofs.TextLaws.{net_texted, net_placed, net_refused, net_kept}
use Rattle.text_writer.proofs.whole.write_text.Goals as goal

pub returns-then-is_fresh-clause-value : goal.returns-then-is_fresh-clause-value
returns-then-is_fresh-clause-value c =
    net_texted c.args.net c.is_fresh.result c.is_fresh.ensures _ _ c.if-is_fresh.true c.write_fresh.ensures.value

pub returns-then-is_fresh-clause-out_after : goal.returns-then-is_fresh-clause-out_after
returns-then-is_fresh-clause-out_after c =
    net_placed c.args.net c.is_fresh.result c.is_fresh.ensures _ _ c.if-is_fresh.true c.write_fresh.ensures.out_after

pub returns-else-is_fresh-clause-value : goal.returns-else-is_fresh-clause-value
returns-else-is_fresh-clause-value c =
    net_refused c.args.net c.is_fresh.result c.is_fresh.ensures _ c.if-is_fresh.false

pub returns-else-is_fresh-clause-out_after : goal.returns-else-is_fresh-clause-out_after
returns-else-is_fresh-clause-out_after c =
    net_kept c.args.net c.is_fresh.result c.is_fresh.ensures _ c.if-is_fresh.false
