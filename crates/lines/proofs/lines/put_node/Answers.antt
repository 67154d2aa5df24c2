use Rattle.std.proofs.Common.{[], ◌∷◌}
use Rattle.lines.specs.Lines.{node_line}
use Rattle.text.specs.Bytes.{bytes}
use Rattle.lines.proofs.WordLaws.{line_is}
use Rattle.lines.proofs.lines.put_node.Goals as goal

pub returns : goal.returns
unfolding node_line bytes
returns c = line_is _ _ _ _ _ (c.args.a.0 ∷ c.args.stored ∷ c.args.busy ∷ []) _ c.put_start.ensures c.put_station.ensures c.put.ensures
