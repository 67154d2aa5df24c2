use Rattle.std.proofs.Common.{refl}
use Rattle.net.specs.Records.{with_counts, with_format}
use Rattle.rows.proofs.OriginLaws.{nodes_begin, nodes_on, nodes_fault, nodes_all}
use Rattle.rows.proofs.origin_rows.gather_nodes.Goals as goal

pub loop-i-init : goal.loop-i-init
unfolding with_format
loop-i-init c = λ rs g. nodes_begin _ rs _ _ c.empty-net.result c.put_rows.new.net g refl c.requires.0 c.empty-net.ensures c.put_rows.ensures

pub returns-in_err-rows : goal.returns-in_err-rows
returns-in_err-rows c =
    λ rs g. nodes_fault _ rs _ _ _ _ (c.loop-i.invariant rs g) _ _ _ c.loop-i-test.true c.in_err-rows.ensures.told c.from_residual.ensures.1

pub loop-i-preserved : goal.loop-i-preserved
loop-i-preserved c =
    λ rs g. nodes_on _ rs _ _ _ _ (c.loop-i.invariant rs g) _ _ _ c.loop-i-test.true c.in_ok-rows.ensures.told c.put_rows-in-loop-i.ensures

pub returns : goal.returns
unfolding with_counts
returns c = λ rs g. record { told = nodes_all _ rs _ _ _ _ (c.loop-i.invariant rs g) c.loop-i-test.false c.requires.1 }
