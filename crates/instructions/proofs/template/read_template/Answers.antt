use borrow.Author.Rules.{rules}
use Rattle.bitreader.specs.BitReader.{bits}
use Rattle.bitreader.proofs.ReadsLaws.{reading, turning}
use Rattle.instructions.specs.Instruction.{template, templateField}
use Rattle.instructions.proofs.template.read_template.Goals as goal

pub returns-in_err-less : goal.returns-in_err-less
unfolding template bits
returns-in_err-less c = search (rules, reading)

pub loop-i-init : goal.loop-i-init
loop-i-init c = search (rules, turning)

pub loop-i-preserved : goal.loop-i-preserved
unfolding templateField
loop-i-preserved c = search (rules, reading, turning)

pub returns-in_err-pattern : goal.returns-in_err-pattern
unfolding template bits templateField
returns-in_err-pattern c = search (rules, reading, turning)

pub returns : goal.returns
unfolding template bits
returns c = search (rules, reading, turning)
