use Rattle.layout.proofs.PartLaws.{part_more}
use Rattle.net.specs.Records.{instruction_at}
use Rattle.written.specs.ImageOf.{instruction_bits}
use Rattle.layout.proofs.CountLaws.{first_code}
use Rattle.layout.proofs.code.put_code.Goals as goal

pub loop-c-preserved : goal.loop-c-preserved
unfolding instruction_at
loop-c-preserved c =
    part_more c.args.net.now.code c.loop-c.c-index c.args.net.now.length c.loop-c-test.true (instruction_bits) _ _ _ _ _ c.loop-c.invariant c.put_instruction.ensures

pub put_instruction-requires : goal.put_instruction-requires
put_instruction-requires c = first_code c.args.net.now c.loop-c.c-index _ c.requires c.loop-c-test.true
