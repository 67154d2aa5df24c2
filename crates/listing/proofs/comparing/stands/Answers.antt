use Rattle.std.proofs.Common.{◌∙◌, length}
use borrow.Author.Tests.{le-ltb}
use Rattle.listing.proofs.CursorLaws.{stands_here, stands_nowhere}
use Rattle.listing.proofs.comparing.stands.Goals as goal

pub returns-then-p-s : goal.returns-then-p-s
returns-then-p-s c = stands_here c.args.s.now c.args.p c.args.b c.if-p-s.true

pub returns-else-p-s : goal.returns-else-p-s
returns-else-p-s c =
    le-ltb c.args.p (length c.args.s.now) c.if-p-s.false ∙ stands_nowhere c.args.s.now c.args.p c.args.b c.if-p-s.false
