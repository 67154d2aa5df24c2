use Rattle.listing.proofs.CursorLaws.{byte_cursor}
use Rattle.listing.proofs.comparing.after_byte.Goals as goal

pub returns : goal.returns
returns c = byte_cursor c.args.at c.args.b c.line_after.result c.line_after.ensures
