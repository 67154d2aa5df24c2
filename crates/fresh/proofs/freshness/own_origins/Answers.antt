-- The chain judges each process. Assumes nothing.
use Rattle.std.proofs.Common.{rules, tests, ltb, eqb, not, arith}
use Rattle.std.proofs.lemmas.Iterator.{YieldsList-from_slice}
use Rattle.net.specs.Choice.{implies}
use Rattle.net.specs.Records.{process_at}
use Rattle.fresh.specs.Fresh.{own_origin, own_origins}
use Rattle.net.proofs.AllLaws.{conditions}
use Rattle.net.proofs.AllOver.{all_of}
use Rattle.fresh.proofs.freshness.own_origins.Goals as goal

pub returns : goal.returns
unfolding own_origins own_origin process_at
returns c =
    all_of _ 4 (λ p. implies p.busy (eqb p.origin.0 c.args.a)) _ _ c.all.result c.all.ensures.ran
    (YieldsList-from_slice c.args.x.now.processes cc) (λ x b q k. search (rules, tests, conditions)) (omega arith)
