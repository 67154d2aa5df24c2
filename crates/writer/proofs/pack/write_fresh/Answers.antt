use Rattle.std.proofs.Common.{refl}
use Rattle.writer.proofs.PackLaws.{fresh_counts, bits_fit, bits_end, bits_few, fresh_packed, fresh_placed}
use Rattle.writer.proofs.pack.write_fresh.Goals as goal

pub write_bits-requires : goal.write_bits-requires
write_bits-requires c = fresh_counts c.args.net.now c.requires

pub unwrap-end-requires : goal.unwrap-end-requires
unwrap-end-requires c = rw (bits_fit c.args.net.now _ c.requires c.write_bits.ensures.value) refl

pub put_packed-requires : goal.put_packed-requires
put_packed-requires c =
    bits_few c.args.net.now _ c.requires
    (bits_end c.args.net.now _ _ c.requires c.write_bits.ensures.value c.unwrap-end.ensures)

pub returns-clause-value : goal.returns-clause-value
returns-clause-value c =
    fresh_packed c.args.net.now c.requires _ _ c.write_bits.ensures.bits_after
    (bits_end c.args.net.now _ _ c.requires c.write_bits.ensures.value c.unwrap-end.ensures)
    _ _ c.put_packed.ensures.value

pub returns-clause-out_after : goal.returns-clause-out_after
returns-clause-out_after c =
    fresh_placed c.args.net.now c.requires _ _ c.write_bits.ensures.bits_after
    (bits_end c.args.net.now _ _ c.requires c.write_bits.ensures.value c.unwrap-end.ensures)
    _ _ c.put_packed.ensures.out_after
