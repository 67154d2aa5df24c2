use Rattle.registers.proofs.RegisterLaws.{same_value, same_number, same_out, current_text_is}
use Rattle.registers.proofs.register.register_text.Goals as goal

pub returns-clause-value : goal.returns-clause-value
returns-clause-value c = same_value _ _ (current_text_is _ _ _ _ _ _ c.all_parts.ensures c.unnamed.ensures.parts c.unnamed.ensures.site c.unnamed.ensures.office) _ _ c.write_text_register.ensures.value

pub returns-clause-result_value : goal.returns-clause-result_value
returns-clause-result_value c = same_number _ _ (current_text_is _ _ _ _ _ _ c.all_parts.ensures c.unnamed.ensures.parts c.unnamed.ensures.site c.unnamed.ensures.office) _ _ c.write_text_register.ensures.value

pub returns-clause-out_after : goal.returns-clause-out_after
returns-clause-out_after c = same_out _ _ (current_text_is _ _ _ _ _ _ c.all_parts.ensures c.unnamed.ensures.parts c.unnamed.ensures.site c.unnamed.ensures.office) _ _ c.write_text_register.ensures.out_after
