use Rattle.std.proofs.Common.{rules, ◌∙◌, ap, sym, refl, ◌≡◌, ◌<◌, ℕ, List, [], ◌∷◌, ◌++◌, arith, length, Bool, true, false}
use Rattle.lines.specs.Words.{number, word_text}
use Rattle.lines.proofs.WordLaws.{spaced_is}
use Rattle.text.proofs.WriterLaws.{after_then}
use Rattle.season.proofs.figures.put_number.Goals as goal

pub returns : goal.returns
unfolding word_text
returns c =
    spaced_is _ _ (number c.args.n) (after_then _ _ _ _ _ c.put.ensures c.decimal.ensures)
