use Rattle.std.proofs.Common.{rules, ◌∙◌, ap, sym, refl, ◌≡◌, ◌<◌, ℕ, List, [], ◌∷◌, ◌++◌, arith, length, Bool, true, false}
use Rattle.net.specs.Records.{node_at}
use Rattle.season.specs.Season.{left_in}
use Rattle.season.specs.Sums.{no_tally, tally_at}
use Rattle.season.proofs.CountLaws.{tallying_begin, tallying_turn, tallying_end}
use Rattle.season.proofs.sums.Sums.with_counts.Goals as goal

pub loop-a-init : goal.loop-a-init
loop-a-init c = tallying_begin _ _ _ _

pub loop-a-preserved : goal.loop-a-preserved
unfolding node_at left_in tally_at no_tally
loop-a-preserved c =
    tallying_turn _ _ _ _ _ _ c.loop-a.invariant _ _ _ c.loop-a-test.true c.left_in-left.ensures c.with_counts.ensures

pub returns : goal.returns
returns c = tallying_end _ _ _ _ _ _ c.loop-a.invariant c.loop-a-test.false refl c.requires
