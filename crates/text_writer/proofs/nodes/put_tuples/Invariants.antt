use Rattle.std.proofs.Common.{◌≡◌, [], ◌∷◌}
use Rattle.sources.specs.Printed.{lines_text}
use Rattle.net.specs.Records.{tuple_at, marked, zero_tuple}
use Rattle.linking.specs.Source.{tuple}
use Rattle.text.specs.Joined.{joined}
use Rattle.text.specs.Writer.{after}
use Rattle.text_writer.proofs.nodes.put_tuples.Given as goal

abbrev pub invariant-loop-t : goal.invariant-loop-t
invariant-loop-t l = (l.out ≡ after l.fn.out (joined l.t-index (λ j. lines_text (tuple l.a (marked zero_tuple.mark (tuple_at l.x j)) ∷ []))))
