use Rattle.rows.proofs.OriginLaws.{node_fault, node_over, node_all}
use Rattle.rows.proofs.origin_rows.read_node_rows.Goals as goal

pub returns-in_err-rows : goal.returns-in_err-rows
returns-in_err-rows c =
    node_fault _ _ _ _ _ _ c.loop-j.invariant _ _ _ c.loop-j-test.true c.in_err-rows.ensures c.from_residual.ensures.1

pub returns-in_err-require : goal.returns-in_err-require
returns-in_err-require c =
    node_over _ _ _ _ _ _ c.loop-j.invariant _ c.is_seventeenth.ensures _ _ _ c.loop-j-test.false c.in_err-require.ensures.read
    c.from_residual-in_err-require.ensures.1

pub returns : goal.returns
returns c = record {
  told = node_all _ _ _ _ _ _ c.loop-j.invariant _ c.is_seventeenth.ensures _ _ c.loop-j-test.false c.in_ok-require.ensures.read;
}
