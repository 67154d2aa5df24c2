use Rattle.std.proofs.Common.{rules}
use Rattle.listing.proofs.CursorLaws.{byte_fits, byte_on, byte_parts}
use Rattle.listing.proofs.comparing.byte_turn.Goals as goal

pub after_byte-requires : goal.after_byte-requires
after_byte-requires c = search (rules, byte_fits)

pub returns-then-stands : goal.returns-then-stands
returns-then-stands c = search (rules, byte_on)

pub returns-else-stands : goal.returns-else-stands
returns-else-stands c = search (rules, byte_parts)
