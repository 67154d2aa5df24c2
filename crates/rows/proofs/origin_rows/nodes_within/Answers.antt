use Rattle.net.specs.Records.{node_at}
use Rattle.rows.proofs.RuledLaws.{all_stop}
use Rattle.rows.proofs.origin_rows.nodes_within.Goals as goal

pub returns-then-not-rows_within : goal.returns-then-not-rows_within
unfolding node_at
returns-then-not-rows_within c =
    all_stop _ c.loop-i.i _ c.rows_within.result c.rows_within.ensures c.if-not-rows_within.true c.loop-i-test.true
