use Rattle.std.proofs.Common.{rules}
use Rattle.listing.proofs.NumberLaws.{number_past}
use Rattle.listing.proofs.CursorLaws.{number_on, number_parts}
use Rattle.listing.proofs.comparing.number_turn.Goals as goal

pub is_alike-requires : goal.is_alike-requires
is_alike-requires c = number_past c.args.theirs.now c.args.at.theirs _ c.number_at-other.ensures

pub returns-then-is_alike : goal.returns-then-is_alike
returns-then-is_alike c = search (rules, number_on)

pub returns-else-is_alike : goal.returns-else-is_alike
returns-else-is_alike c = search (rules, number_parts)
