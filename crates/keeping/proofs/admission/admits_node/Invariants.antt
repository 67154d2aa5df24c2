-- Each process below slot i keeps within its row.
use Rattle.std.proofs.Common.{◌≡◌, true}
use Rattle.net.specs.Choice.{all}
use Rattle.net.specs.Records.{process_at}
use Rattle.keeping.specs.Admission.{admits_process}
use Rattle.keeping.proofs.admission.admits_node.Given as goal

abbrev pub invariant-loop-i : goal.invariant-loop-i
invariant-loop-i l = true ≡ all l.i (λ j. admits_process l.code l.x l.a (process_at l.x j))
