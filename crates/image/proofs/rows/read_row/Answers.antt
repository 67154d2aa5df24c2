use borrow.Author.Rules.{rules}
use Rattle.bitreader.proofs.ReadsLaws.{reading, turning}
use Rattle.bitreader.specs.BitReader.{bits}
use Rattle.image.specs.Image.{row, each_address}
use Rattle.image.proofs.ImageLaws.{turns}
use Rattle.image.proofs.rows.read_row.Goals as goal

pub returns-in_err-take : goal.returns-in_err-take
unfolding row bits
returns-in_err-take c = search (rules, reading)

pub loop-i-init : goal.loop-i-init
loop-i-init c = search (rules, turning)

pub loop-i-preserved : goal.loop-i-preserved
loop-i-preserved c = search (rules, turning, turns)

pub returns-in_err-take-2 : goal.returns-in_err-take-2
unfolding row bits each_address
returns-in_err-take-2 c = search (rules, reading, turning, turns)

pub returns : goal.returns
unfolding row bits each_address
returns c = search (rules, reading, turning)
