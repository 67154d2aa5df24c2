use Rattle.net.specs.Records.{address_of}
use Rattle.bitreader.specs.Progress.{Turned}
use Rattle.image.specs.Image.{rows_of}
use Rattle.image.specs.Progress.{Counted}
use Rattle.image.proofs.rows.read_rows.Given as goal

abbrev pub invariant-loop-a : goal.invariant-loop-a
invariant-loop-a l = Turned l.initial.r l.a-end (λ i. rows_of (address_of i)) l.initial.net l.r l.a l.net × Counted l.initial.net l.net
