use Rattle.std.proofs.Common.{rules, ◌∙◌, ap, sym, refl, ◌≡◌, ◌<◌, ℕ, List, [], ◌∷◌, ◌++◌, arith, length, Bool, true, false}
use Rattle.season.specs.Counting.{no_counts}
use Rattle.season.proofs.CountLaws.{counting_begin, counting_turn, counting_end}
use Rattle.season.proofs.counts.count.Goals as goal

pub loop-i-init : goal.loop-i-init
unfolding no_counts
loop-i-init c = counting_begin c.args.picks.now c.args.answers.now

pub loop-i-preserved : goal.loop-i-preserved
unfolding no_counts
loop-i-preserved c =
    counting_turn _ _ _ _ _ c.loop-i.invariant _ _ c.loop-i-test.true c.requires c.count_pick.ensures

pub returns : goal.returns
unfolding no_counts
returns c = counting_end _ _ _ _ _ c.loop-i.invariant c.loop-i-test.false
