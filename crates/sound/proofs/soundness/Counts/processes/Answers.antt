-- The chain judges each process. Assumes nothing.
use Rattle.std.proofs.Common.{rules, tests, arith}
use Rattle.std.proofs.lemmas.Iterator.{YieldsList-from_slice}
use Rattle.net.specs.Records.{process_at}
use Rattle.sound.specs.Soundness.{process_sound}
use Rattle.net.proofs.AllOver.{all_of}
use Rattle.sound.proofs.soundness.Counts.processes.Goals as goal

pub returns : goal.returns
unfolding process_at
returns c =
    all_of _ 4 (process_sound c.args.self.addresses c.args.self.length) _ _ c.all.result c.all.ensures.ran
    (YieldsList-from_slice c.args.node.now.processes cc) (λ x b q k. search (rules, tests)) (omega arith)
