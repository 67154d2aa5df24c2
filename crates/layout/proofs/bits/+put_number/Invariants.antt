-- The cycle of calls {put_number}: the measure is the width. Assumes nothing.
use Rattle.layout.proofs.bits.+put_number.Given as goal

abbrev pub decreases-put_number : goal.decreases-put_number
decreases-put_number l = l.width
