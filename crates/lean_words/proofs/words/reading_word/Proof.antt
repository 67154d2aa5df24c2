-- `lean_words::words::reading_word` meets its contract: a reading from 0 on, and one below. Assumes nothing.
use Rattle.lean_words.proofs.ItemLaws.{up_cast, up_doubled, up_fits, up_is, down_cast, down_doubled, down_fits, down_is}
use Rattle.text.proofs.SignedLaws.{above_fits}
use Rattle.lean_words.proofs.words.reading_word.Statement.{statement}
use Rattle.lean_words.proofs.words.reading_word.Tie as tie

pub reading_word_spec : {M : Type 1} → statement M
reading_word_spec =
    tie.close
    (tie.spec
    (λ c. up_cast _ c.before.ranges.x c.if-x-ge0.true)
    (λ c. up_doubled _ c.before.ranges.x c.if-x-ge0.true)
    (λ c. up_fits _ c.before.ranges.x c.if-x-ge0.true)
    (λ c. above_fits _ c.before.ranges.x c.if-x-ge0.false)
    (λ c. down_cast _ c.before.ranges.x c.if-x-ge0.false)
    (λ c. down_doubled _ c.before.ranges.x c.if-x-ge0.false)
    (λ c. down_fits _ c.before.ranges.x c.if-x-ge0.false)
    (λ c. up_is _ c.before.ranges.x c.if-x-ge0.true)
    (λ c. down_is _ c.before.ranges.x c.if-x-ge0.false))
