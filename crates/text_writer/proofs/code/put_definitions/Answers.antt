use Rattle.std.proofs.Common.{rules, ℕ, [], ◌∷◌}
use Rattle.text_writer.proofs.LoopLaws.{part_next, lines_end}
use Rattle.layout.proofs.CountLaws.{first_code}
use Rattle.net.specs.Records.{instruction_at}
use Rattle.net.specs.declared.instruction.Instruction.{Instruction}
use Rattle.read_back.specs.NetSource.{definition_at, definitions_of, listed}
use Rattle.sources.specs.Printed.{lines_text}
use Rattle.text_writer.proofs.code.put_definitions.Goals as goal

pub put_definition-requires : goal.put_definition-requires
put_definition-requires c =
    first_code c.args.net.now c.loop-i.i _ c.requires c.loop-i-test.true

pub loop-i-preserved : goal.loop-i-preserved
unfolding instruction_at
loop-i-preserved c =
    part_next c.args.net.now.code c.loop-i.i c.args.net.now.length c.loop-i-test.true (λ (j : ℕ) (x : Instruction). lines_text (definition_at j x ∷ [])) _ _ _ _ _ c.loop-i.invariant c.put_definition.ensures

pub returns : goal.returns
unfolding definitions_of listed
returns c =
    lines_end _ _ _ _ _ c.loop-i.invariant (search rules)
