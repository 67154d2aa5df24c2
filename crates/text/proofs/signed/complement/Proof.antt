-- `text::signed::complement` meets its contract. Assumes nothing.
use Rattle.text.proofs.SignedLaws.{above_fits, above_within, cast_above, cast_up, complement_below, complement_up}
use Rattle.text.proofs.signed.complement.Statement.{statement}
use Rattle.text.proofs.signed.complement.Tie as tie

pub complement_spec : {M : Type 1} → statement M
complement_spec =
    tie.close
    (tie.spec
    (λ c. cast_up _ c.before.ranges.x c.if-x-ge0.true)
    (λ c. above_fits _ c.before.ranges.x c.if-x-ge0.false)
    (λ c. cast_above _ c.before.ranges.x c.if-x-ge0.false)
    (λ c. above_within _ c.before.ranges.x c.if-x-ge0.false)
    (λ c. complement_up _ c.before.ranges.x c.if-x-ge0.true)
    (λ c. complement_below _ c.before.ranges.x c.if-x-ge0.false))
