use Rattle.std.proofs.Common.{[], ◌∷◌}
use Rattle.lines.specs.Lines.{tuple_line}
use Rattle.text.specs.Bytes.{bytes}
use Rattle.lines.proofs.WordLaws.{line_is, words_then}
use Rattle.lines.proofs.lines.put_tuple.Goals as goal

pub returns : goal.returns
unfolding tuple_line bytes
returns c = line_is _ _ _ _ _ (c.args.a.0 ∷ []) _ c.put_start.ensures (words_then _ _ _ _ _ c.put_fields.ensures c.put_mark.ensures) c.put.ensures
