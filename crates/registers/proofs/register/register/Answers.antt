use Rattle.registers.proofs.RegisterLaws.{same_value, same_number, same_out, current_is}
use Rattle.registers.proofs.register.register.Goals as goal

pub returns-clause-value : goal.returns-clause-value
returns-clause-value c = same_value _ _ (current_is _ _ _ c.all_parts.ensures) _ _ c.register_showing.ensures.value

pub returns-clause-result_value : goal.returns-clause-result_value
returns-clause-result_value c = same_number _ _ (current_is _ _ _ c.all_parts.ensures) _ _ c.register_showing.ensures.value

pub returns-clause-out_after : goal.returns-clause-out_after
returns-clause-out_after c = same_out _ _ (current_is _ _ _ c.all_parts.ensures) _ _ c.register_showing.ensures.out_after
