use Rattle.rows.proofs.OriginLaws.{first_fault, first_over}
use Rattle.rows.proofs.origin_rows.read_first_rows.Goals as goal

pub returns-in_err-rows-2-clause-rowed : goal.returns-in_err-rows-2-clause-rowed
returns-in_err-rows-2-clause-rowed c =
    first_fault _ _ _ _ c.loop-n.invariant _ c.names_node.ensures _ _ _ c.if-not-names_node.false c.loop-n-test.true c.in_err-rows-2.ensures
    c.from_residual-in_err-rows-2.ensures.1

pub returns-in_err-require-clause-rowed : goal.returns-in_err-require-clause-rowed
returns-in_err-require-clause-rowed c =
    first_over _ _ _ _ c.loop-n.invariant _ c.names_node-2.ensures _ _ _ c.loop-n-test.false c.in_err-require.ensures.read
    c.from_residual-in_err-require.ensures.1
