use Rattle.std.proofs.Common.{rules}
use Rattle.listing.proofs.WrittenLaws.{written_fits, age_checked}
use Rattle.listing.proofs.checking.check_in.Goals as goal

pub compare_written-requires : goal.compare_written-requires
compare_written-requires c = search (rules, written_fits)

pub returns : goal.returns
returns c = search (rules, age_checked, c.type_inv.picks)
