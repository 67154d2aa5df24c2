-- `text::signed::magnitude` meets its contract. Assumes nothing.
use Rattle.text.proofs.SignedLaws.{cast_up, above_fits, cast_above, above_more, magnitude_below}
use borrow.Author.Rules.{rules}
use Rattle.text.proofs.signed.magnitude.Statement.{statement}
use Rattle.text.proofs.signed.magnitude.Tie as tie

pub magnitude_spec : {M : Type 1} → statement M
magnitude_spec =
    tie.close
    (tie.spec
    (λ c. cast_up _ c.before.ranges.x c.if-x-ge0.true)
    (λ c. above_fits _ c.before.ranges.x c.if-x-ge0.false)
    (λ c. cast_above _ c.before.ranges.x c.if-x-ge0.false)
    (λ c. above_more _ c.before.ranges.x c.if-x-ge0.false)
    (λ c. search rules)
    (λ c. magnitude_below _ c.before.ranges.x c.if-x-ge0.false))
