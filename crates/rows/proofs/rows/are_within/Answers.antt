use Rattle.net.specs.Records.{row_at, node_at}
use Rattle.rows.proofs.RuledLaws.{all_stop}
use Rattle.rows.proofs.rows.are_within.Goals as goal

pub returns-then-not-is_within : goal.returns-then-not-is_within
unfolding row_at node_at
returns-then-not-is_within c = all_stop _ c.loop-i.i _ c.is_within.result c.is_within.ensures c.if-not-is_within.true c.loop-i-test.true
