use Rattle.std.proofs.Common.{refl}
use borrow.Author.Tests.{le-leb, lt-leb}
use Rattle.net.specs.Choice.{choose, both}
use Rattle.listing.specs.Comparing.{parted_from}
use Rattle.listing.proofs.comparing.parted.Goals.{else-at-via-then-at+else-theirs-at, else-at-via-else-at}
use Rattle.listing.proofs.comparing.parted.Goals as goal

pub returns-then-theirs-at : goal.returns-then-theirs-at
unfolding parted_from choose both
returns-then-theirs-at c = rw (c.if-at.true, le-leb _ _ c.if-theirs-at.true) refl

pub returns-else-at : goal.returns-else-at
unfolding parted_from choose both
returns-else-at c =
    elim c.else-at.branch [
      | else-at-via-then-at+else-theirs-at w ↦ rw (w.if-at.true, lt-leb _ _ w.if-theirs-at.false) refl
      | else-at-via-else-at w ↦ rw w.if-at.false refl
    ]
