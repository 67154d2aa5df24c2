use Rattle.net.specs.Records.{address_of}
use Rattle.bitreader.specs.Progress.{Turned}
use Rattle.image.specs.Image.{rights}
use Rattle.image.proofs.rows.read_row.Given as goal

abbrev pub invariant-loop-i : goal.invariant-loop-i
invariant-loop-i l = Turned l.initial.r l.n (λ i. rights (address_of i)) l.initial.row l.r l.i l.row
