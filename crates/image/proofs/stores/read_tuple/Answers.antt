use borrow.Author.Rules.{rules}
use Rattle.bitreader.proofs.ReadsLaws.{reading, turning}
use Rattle.bitreader.specs.BitReader.{bits}
use Rattle.image.specs.Image.{tuple, tupleField}
use Rattle.image.proofs.stores.read_tuple.Goals as goal

pub returns-in_err-less : goal.returns-in_err-less
unfolding tuple bits
returns-in_err-less c = search (rules, reading)

pub loop-i-init : goal.loop-i-init
loop-i-init c = search (rules, turning)

pub loop-i-preserved : goal.loop-i-preserved
unfolding tupleField
loop-i-preserved c = search (rules, reading, turning)

pub returns-in_err-item : goal.returns-in_err-item
unfolding tuple bits tupleField
returns-in_err-item c = search (rules, reading, turning)

pub returns : goal.returns
unfolding tuple bits
returns c = search (rules, reading, turning)
