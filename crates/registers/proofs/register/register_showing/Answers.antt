use Rattle.registers.proofs.RegisterLaws.{same_value, same_number, same_out, unnamed_is}
use Rattle.registers.proofs.register.register_showing.Goals as goal

pub returns-clause-value : goal.returns-clause-value
returns-clause-value c = same_value _ _ (unnamed_is _ _ _ _ _ _ c.unnamed.ensures.parts c.unnamed.ensures.site c.unnamed.ensures.office) _ _ c.write_register.ensures.value

pub returns-clause-result_value : goal.returns-clause-result_value
returns-clause-result_value c = same_number _ _ (unnamed_is _ _ _ _ _ _ c.unnamed.ensures.parts c.unnamed.ensures.site c.unnamed.ensures.office) _ _ c.write_register.ensures.value

pub returns-clause-out_after : goal.returns-clause-out_after
returns-clause-out_after c = same_out _ _ (unnamed_is _ _ _ _ _ _ c.unnamed.ensures.parts c.unnamed.ensures.site c.unnamed.ensures.office) _ _ c.write_register.ensures.out_after
