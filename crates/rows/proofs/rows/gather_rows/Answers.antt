use Rattle.rows.proofs.AllRowsLaws.{ruling_fault, ruling_over}
use Rattle.rows.proofs.rows.gather_rows.Goals as goal

pub returns-in_err-row : goal.returns-in_err-row
returns-in_err-row c =
    ruling_fault _ _ _ _ c.loop-n.invariant _ c.is_row.ensures _ _ _ c.if-not-is_row.false c.loop-n-test.true c.in_err-row.ensures
    c.from_residual.ensures.1

pub returns-in_err-require : goal.returns-in_err-require
returns-in_err-require c =
    ruling_over _ _ _ _ c.loop-n.invariant _ c.is_row-2.ensures _ _ _ c.loop-n-test.false c.in_err-require.ensures.read
    c.from_residual-in_err-require.ensures.1
