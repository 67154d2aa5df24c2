use borrow.Author.Rules.{rules}
use native.Mathlib.Omega.{arith}
use Rattle.bitreader.proofs.ReadsLaws.{reading}
use Rattle.image.specs.Image.{header}
use Rattle.image.proofs.ImageLaws.{header_net, blank_net, not_placed}
use Rattle.image.proofs.header.read_header.Goals as goal

pub returns-in_err-net-clause-reads : goal.returns-in_err-net-clause-reads
unfolding header
returns-in_err-net-clause-reads c = search (rules, reading, not_placed)

pub returns-in_err-net-2-clause-reads : goal.returns-in_err-net-2-clause-reads
unfolding header
returns-in_err-net-2-clause-reads c = search (rules, reading, not_placed)

pub returns-in_err-net-3-clause-reads : goal.returns-in_err-net-3-clause-reads
unfolding header
returns-in_err-net-3-clause-reads c = search (rules, reading, not_placed)

pub returns-in_err-net-clause-sized : goal.returns-in_err-net-clause-sized
returns-in_err-net-clause-sized c = let b = blank_net _ c.requires in record { few = omega arith; short = omega arith }

pub returns-in_err-net-2-clause-sized : goal.returns-in_err-net-2-clause-sized
returns-in_err-net-2-clause-sized c = let b = blank_net _ c.requires in record { few = omega arith; short = omega arith }

pub returns-in_err-net-3-clause-sized : goal.returns-in_err-net-3-clause-sized
returns-in_err-net-3-clause-sized c =
    let b = blank_net _ c.requires in let n = c.in_ok-net-2.ensures.range in record { few = omega arith; short = omega arith }

pub returns-clause-reads : goal.returns-clause-reads
unfolding header
returns-clause-reads c = search (rules, reading, header_net)
