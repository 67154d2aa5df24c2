use Rattle.std.proofs.Common.{rules, ◌∙◌, ap, sym, refl, ◌≡◌, ◌<◌, ℕ, List, [], ◌∷◌, ◌++◌, arith, length, Bool, true, false}
use Rattle.lines.specs.Words.{word_text}
use Rattle.season.specs.Season.{fraction_word}
use Rattle.lines.proofs.WordLaws.{spaced_is}
use Rattle.text.proofs.WriterLaws.{writing}
use Rattle.season.proofs.figures.put_fraction.Goals as goal

pub returns : goal.returns
unfolding word_text fraction_word
returns c =
    spaced_is _ _ (fraction_word c.args.x) (search (rules, writing))
