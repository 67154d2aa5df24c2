use Rattle.text_writer.proofs.PartLaws.{policy_plain, policy_by_origin}
use Rattle.text_writer.proofs.policies.put_policy.Goals as goal

pub returns-then-net-eq1 : goal.returns-then-net-eq1
returns-then-net-eq1 c =
    policy_plain _ _ c.args.net.now c.if-net-eq1.true c.put_rows.ensures

pub returns-else-net-eq1 : goal.returns-else-net-eq1
returns-else-net-eq1 c =
    policy_by_origin _ _ c.args.net.now c.if-net-eq1.false c.put_all_origins.ensures
