use Rattle.registers.proofs.RegisterLaws.{same_value, same_number, same_out, named_is}
use Rattle.registers.proofs.register.named_register.Goals as goal

pub returns-clause-value : goal.returns-clause-value
returns-clause-value c = same_value _ _ (named_is _ _ _ _ _ c.all_parts.ensures) _ _ c.write_register.ensures.value

pub returns-clause-result_value : goal.returns-clause-result_value
returns-clause-result_value c = same_number _ _ (named_is _ _ _ _ _ c.all_parts.ensures) _ _ c.write_register.ensures.value

pub returns-clause-out_after : goal.returns-clause-out_after
returns-clause-out_after c = same_out _ _ (named_is _ _ _ _ _ c.all_parts.ensures) _ _ c.write_register.ensures.out_after
