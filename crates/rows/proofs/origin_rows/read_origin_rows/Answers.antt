use Rattle.rows.proofs.OriginLaws.{judged_first, judged_nodes, few_nodes, judged_over, judged_within, judged_all}
use Rattle.rows.proofs.origin_rows.read_origin_rows.Goals as goal

pub returns-in_err-first : goal.returns-in_err-first
returns-in_err-first c = judged_first _ _ _ c.from_residual.ensures.1 _ c.in_err-first.ensures.rowed.told

pub returns-in_err-net : goal.returns-in_err-net
returns-in_err-net c =
    let g = c.in_ok-first.ensures.rowed.told in
    judged_nodes _ _ _ _ g _ _ (c.in_err-net.ensures g.read g.stands).told c.from_residual-in_err-net.ensures.1

pub returns-in_err-require : goal.returns-in_err-require
returns-in_err-require c =
    let g = c.in_ok-first.ensures.rowed.told in
    judged_over _ _ _ _ g _ (c.in_ok-net.ensures g.read g.stands).told _ c.is_origin_row.ensures _ _ _
    (rw c.number_over.ensures at c.in_err-require.ensures.read) c.from_residual-in_err-require.ensures.1

pub nodes_within-requires : goal.nodes_within-requires
nodes_within-requires c = let g = c.in_ok-first.ensures.rowed.told in few_nodes _ _ _ _ g _ (c.in_ok-net.ensures g.read g.stands).told

pub returns-in_err-require-2 : goal.returns-in_err-require-2
returns-in_err-require-2 c =
    let g = c.in_ok-first.ensures.rowed.told in
    judged_within _ _ _ _ g _ (c.in_ok-net.ensures g.read g.stands).told _ c.is_origin_row.ensures _ _
    (rw c.number_over.ensures at c.in_ok-require.ensures.read) _ c.nodes_within.ensures _ _ _ c.in_err-require-2.ensures.read
    c.from_residual-in_err-require-2.ensures.1

pub returns : goal.returns
returns c =
    let g = c.in_ok-first.ensures.rowed.told in
    record {
      told =
          judged_all _ _ _ _ g _ (c.in_ok-net.ensures g.read g.stands).told _ c.is_origin_row.ensures _ _
          (rw c.number_over.ensures at c.in_ok-require.ensures.read) _ c.nodes_within.ensures _ _ c.in_ok-require-2.ensures.read;
    }
