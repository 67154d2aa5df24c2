use Rattle.net.specs.Records.{place_of}
use Rattle.bitreader.specs.Progress.{Turned}
use Rattle.image.specs.Image.{instruction_of}
use Rattle.image.specs.Progress.{Counted}
use Rattle.image.proofs.layout.read_code.Given as goal

abbrev pub invariant-loop-p : goal.invariant-loop-p
invariant-loop-p l = Turned l.initial.r l.p-end (λ i. instruction_of (place_of i)) l.initial.net l.r l.p l.net × Counted l.initial.net l.net
