use Rattle.listing.proofs.CursorLaws.{compared_begin, compared_end}
use Rattle.listing.proofs.comparing.compare.Goals as goal

pub loop-at-init : goal.loop-at-init
loop-at-init c = compared_begin c.args.ours.now c.args.theirs.now

pub returns : goal.returns
returns c =
    compared_end c.args.ours.now c.args.theirs.now c.loop-at.at c.ended.result c.loop-at.invariant c.loop-at-test.false c.ended.ensures
