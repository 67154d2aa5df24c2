use Rattle.std.proofs.Common.{rules, ◌∙◌, ap, sym, refl, ◌≡◌, ◌<◌, ℕ, List, [], ◌∷◌, ◌++◌, arith, length, Bool, true, false}
use Rattle.lines.proofs.WordLaws.{words_then}
use Rattle.season.specs.Sums.{tally_words}
use Rattle.season.proofs.figures.put_tally.Goals as goal

pub returns : goal.returns
unfolding tally_words
returns c =
    words_then _ _ _ (_ ∷ []) (_ ∷ _ ∷ []) c.put_share.ensures (words_then _ _ _ (_ ∷ []) (_ ∷ []) (rw c.lowest.ensures at c.put_fraction.ensures) c.put_best.ensures)
