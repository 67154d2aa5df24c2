use Rattle.std.proofs.Common.{rules, ◌∙◌, ap, sym, refl, ◌≡◌, ◌<◌, ℕ, List, [], ◌∷◌, ◌++◌, arith, length, Bool, true, false}
use Rattle.text.specs.Bytes.{bytes}
use Rattle.lines.specs.Words.{number}
use Rattle.lines.proofs.WordLaws.{line_is}
use Rattle.text.proofs.WriterLaws.{after_then}
use Rattle.net.specs.Records.{address_of}
use Rattle.season.specs.Sums.{tally_words, tally_line}
use Rattle.season.proofs.figures.put_line.Goals as goal

pub returns : goal.returns
unfolding bytes tally_line
returns c =
    line_is _ _ _ _ (bytes "share") (c.args.a ∷ []) (tally_words c.args.made c.args.t) (after_then _ _ _ _ _ c.put_all.ensures c.put_number.ensures) c.put_tally.ensures c.put.ensures
