-- `lean_code::heads::alone` meets its contract. Assumes nothing.
use Rattle.lean_code.proofs.HeadLaws.{alone_is}
use borrow.Author.Rules.{rules}
use Rattle.lean_code.proofs.heads.alone.Statement.{statement}
use Rattle.lean_code.proofs.heads.alone.Tie as tie

pub alone_spec : {M : Type 1} → statement M
alone_spec =
    tie.close
    (tie.spec
    (λ c κs. search rules)
    (λ c. search (rules, alone_is)))
