use Rattle.std.proofs.Common.{◌≡◌, [], ◌∷◌}
use Rattle.sources.specs.Printed.{lines_text}
use Rattle.net.specs.Records.{process_at}
use Rattle.read_back.specs.NetSource.{named}
use Rattle.net.specs.Choice.{choose}
use Rattle.linking.specs.Source.{process}
use Rattle.text.specs.Joined.{joined}
use Rattle.text.specs.Writer.{after}
use Rattle.text_writer.proofs.nodes.put_processes.Given as goal

abbrev pub invariant-loop-p : goal.invariant-loop-p
invariant-loop-p l = (l.out ≡ after l.fn.out (joined l.p-index (λ j. lines_text (choose (process_at l.x j).busy (process l.a (named (process_at l.x j).at) ∷ []) []))))
