use Rattle.std.proofs.Common.{rules, arith, ◌≡◌}
use Rattle.listing.proofs.NumberLaws.{reading_begin, reading_more, reading_stop, reading_end}
use Rattle.listing.proofs.comparing.number_at.Goals as goal

pub loop-i-init : goal.loop-i-init
loop-i-init c = (reading_begin c.args.s.now c.args.from, omega arith)

pub loop-i-preserved : goal.loop-i-preserved
loop-i-preserved c = (search (rules, reading_more), omega arith)

pub returns-then-not-is_digit : goal.returns-then-not-is_digit
returns-then-not-is_digit c = search (rules, reading_stop)

pub returns : goal.returns
returns c =
    let e : c.max.result ≡ c.loop-i.i = omega (arith, c.max.ensures) in
    rw e (reading_end c.args.s.now c.args.from _ _ c.loop-i.invariant.0 c.loop-i-test.false)
