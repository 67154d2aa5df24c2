-- `net::reading::same_reading` meets its contract: the bits of two readings that fit are compared. Assumes nothing.
use borrow.Author.Rules.{rules}
use Rattle.net.proofs.ReadingLaws.{same_bits}
use Rattle.net.proofs.reading.same_reading.Statement.{statement}
use Rattle.net.proofs.reading.same_reading.Tie as tie

pub same_reading_spec : {M : Type 1} → statement M
same_reading_spec =
    tie.close
    (tie.spec
    (λ c. search (rules, same_bits)))
