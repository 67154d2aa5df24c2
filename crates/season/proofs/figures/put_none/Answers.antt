use Rattle.std.proofs.Common.{rules, ◌∙◌, ap, sym, refl, ◌≡◌, ◌<◌, ℕ, List, [], ◌∷◌, ◌++◌, arith, length, Bool, true, false}
use Rattle.text.specs.Bytes.{bytes}
use Rattle.lines.specs.Words.{word_text, spaced}
use Rattle.season.proofs.figures.put_none.Goals as goal

pub returns : goal.returns
unfolding bytes word_text spaced
returns c =
    c.put_all.ensures
