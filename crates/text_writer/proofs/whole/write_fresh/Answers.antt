use Rattle.std.proofs.Common.{refl}
use Rattle.writer.proofs.PackLaws.{fresh_counts}
use Rattle.text_writer.proofs.TextLaws.{text_fits, text_end, text_fit, text_count, text_packed, text_placed}
use Rattle.text_writer.proofs.whole.write_fresh.Goals as goal

pub text_in_full-requires : goal.text_in_full-requires
text_in_full-requires c =
    fresh_counts c.args.net.now c.requires

pub unwrap-n-requires : goal.unwrap-n-requires
unwrap-n-requires c =
    rw (text_fits c.args.net.now c.requires _ c.room-text.ensures _ c.text_in_full.ensures.value) refl

pub slice_bounds-text-end : goal.slice_bounds-text-end
slice_bounds-text-end c =
    text_fit c.args.net.now c.requires _ c.room-text.ensures _ _ c.text_in_full.ensures.out_after (text_end c.args.net.now c.requires _ c.room-text.ensures _ _ c.text_in_full.ensures.value c.unwrap-n.ensures)

pub slice_bounds-copy_text-end : goal.slice_bounds-copy_text-end
slice_bounds-copy_text-end c =
    text_count c.args.net.now c.requires _ c.room-text.ensures _ _ c.text_in_full.ensures.out_after (text_end c.args.net.now c.requires _ c.room-text.ensures _ _ c.text_in_full.ensures.value c.unwrap-n.ensures)

pub returns-clause-value : goal.returns-clause-value
returns-clause-value c =
    text_packed c.args.net.now c.requires _ c.room-text.ensures _ _ c.text_in_full.ensures.out_after (text_end c.args.net.now c.requires _ c.room-text.ensures _ _ c.text_in_full.ensures.value c.unwrap-n.ensures) _ _ c.copy_text.ensures.value

pub returns-clause-out_after : goal.returns-clause-out_after
returns-clause-out_after c =
    text_placed c.args.net.now c.requires _ c.room-text.ensures _ _ c.text_in_full.ensures.out_after (text_end c.args.net.now c.requires _ c.room-text.ensures _ _ c.text_in_full.ensures.value c.unwrap-n.ensures) _ _ c.copy_text.ensures.out_after
