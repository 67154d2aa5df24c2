use Rattle.text.specs.Bytes.{bytes}
use Rattle.lines.specs.Lines.{pick_line, made_line}
use Rattle.lines.proofs.lines.put_pick.Goals as goal

pub returns : goal.returns
unfolding made_line pick_line bytes
returns c = cc
