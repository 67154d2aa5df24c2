use Rattle.run.proofs.FirstPicks.{first_count}
use Rattle.listing.proofs.WrittenLaws.{written_inside}
use Rattle.listing.proofs.checking.compare_written.Goals as goal

pub slice_bounds-compare-end : goal.slice_bounds-compare-end
slice_bounds-compare-end c =
    first_count c.args.out.now c.in-Some.n
    (written_inside c.args.out.now c.args.written c.in-Some.n c.in-Some.is c.requires)
