use Rattle.rows.proofs.AllRowsLaws.{judged_fault}
use Rattle.rows.proofs.rows.read_rows.Goals as goal

pub returns-in_err-net : goal.returns-in_err-net
returns-in_err-net c = judged_fault _ _ _ c.from_residual.ensures.1 _ c.in_err-net.ensures.told
