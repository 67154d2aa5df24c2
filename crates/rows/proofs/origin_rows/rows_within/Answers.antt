use Rattle.net.specs.Records.{row_at}
use Rattle.rows.proofs.RuledLaws.{all_stop}
use Rattle.rows.proofs.origin_rows.rows_within.Goals as goal

pub returns-then-not-is_within : goal.returns-then-not-is_within
unfolding row_at
returns-then-not-is_within c = all_stop _ c.loop-j.j _ c.is_within.result c.is_within.ensures c.if-not-is_within.true c.loop-j-test.true
