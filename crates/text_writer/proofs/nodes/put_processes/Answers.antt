use Rattle.std.proofs.Common.{ℕ, [], ◌∷◌, arith}
use Rattle.text_writer.proofs.LoopLaws.{lines_end}
use Rattle.text.proofs.WriterLaws.{joined_step}
use Rattle.linking.specs.Source.{process}
use Rattle.net.specs.Choice.{choose}
use Rattle.net.specs.Records.{process_at}
use Rattle.read_back.specs.NetSource.{named, process_lines}
use Rattle.sources.specs.Printed.{lines_text}
use Rattle.text_writer.proofs.nodes.put_processes.Goals as goal

pub loop-p-preserved : goal.loop-p-preserved
unfolding process_at
loop-p-preserved c =
    joined_step _ (λ (j : ℕ). lines_text (choose (process_at c.args.x.now j).busy (process c.args.a (named (process_at c.args.x.now j).at) ∷ []) [])) _ _ c.loop-p.p-index c.loop-p.invariant c.put_process.ensures

pub returns : goal.returns
unfolding process_lines
returns c =
    lines_end _ _ (λ (j : ℕ). choose (process_at c.args.x.now j).busy (process c.args.a (named (process_at c.args.x.now j).at) ∷ []) []) _ 4 c.loop-p.invariant (omega (arith, c.loop-p-test.false, c.loop-p.auto.p-index-end))
