use Rattle.std.proofs.Common.{rules, ◌∙◌, ap, sym, refl, ◌≡◌, ◌<◌, ℕ, List, [], ◌∷◌, ◌++◌, arith, length, Bool, true, false}
use Rattle.season.specs.Fractions.{Best}
use Rattle.season.specs.Season.{best_word}
use Rattle.lines.specs.Words.{spaced}
use Rattle.text.specs.Writer.{after}
use Rattle.season.proofs.figures.put_best.Goals as goal

pub returns-in-None : goal.returns-in-None
unfolding best_word
returns-in-None c =
    c.put_none.ensures ∙ ap (λ (b : Best). after c.args.out.now (spaced (best_word b ∷ []))) (sym c.in-None.is)

pub returns-in-Some : goal.returns-in-Some
unfolding best_word
returns-in-Some c =
    c.put_number.ensures ∙ ap (λ (b : Best). after c.args.out.now (spaced (best_word b ∷ []))) (sym c.in-Some.is)
