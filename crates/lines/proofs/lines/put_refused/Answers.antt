use Rattle.std.proofs.Common.{[], ◌∷◌}
use Rattle.lines.specs.Lines.{refused_line}
use Rattle.text.specs.Bytes.{bytes}
use Rattle.lines.proofs.WordLaws.{line_is}
use Rattle.lines.proofs.lines.put_refused.Goals as goal

pub returns : goal.returns
unfolding refused_line bytes
returns c = line_is _ _ _ _ _ (c.args.fault.number ∷ []) _ c.put_start.ensures c.put_place.ensures c.put.ensures
