use Rattle.std.proofs.Common.{rules, refl}
use Rattle.net.specs.Records.{instruction_at}
use Rattle.keeping.proofs.VisitLaws.{none_reached, underway_first, turned, top_in, top_scaled, place_low, all_judged}
use Rattle.keeping.proofs.ReachLaws.{none_marked, way_first, way_top, way_on, all_marked}
use Rattle.keeping.proofs.reaching.search.Goals as goal

pub returns-then-start-ge512-clause-marks : goal.returns-then-start-ge512-clause-marks
returns-then-start-ge512-clause-marks g c = search (rules, none_marked)

pub returns-then-start-ge512-clause-good : goal.returns-then-start-ge512-clause-good
returns-then-start-ge512-clause-good g c = λ h e. none_reached _ _ h (search rules)

pub loop-count-init : goal.loop-count-init
loop-count-init g c = (search (rules, way_first), refl, λ h e. underway_first _ _ h _ (search rules) (search rules))

pub offset_bounds-waiting-count : goal.offset_bounds-waiting-count
offset_bounds-waiting-count g c = search (rules, top_scaled)

pub bounds-waiting-count : goal.bounds-waiting-count
bounds-waiting-count g c = search (rules, top_in)

pub bounds-code-at : goal.bounds-code-at
bounds-code-at g c = search (rules, place_low)

pub visit-count-requires : goal.visit-count-requires
visit-count-requires g c = search (rules, way_top)

pub loop-count-preserved : goal.loop-count-preserved
unfolding instruction_at
loop-count-preserved g c = (
  search (rules, way_on),
  search rules,
  λ h e.
      turned _ _ h _ _ _ _ (c.loop-count.invariant.2 h e) (search rules) _ _ _ _ (e _ _ c.judge-good.ensures) c.visit-count.ensures,
)

pub returns-clause-marks : goal.returns-clause-marks
returns-clause-marks g c = search (rules, all_marked)

pub returns-clause-good : goal.returns-clause-good
returns-clause-good g c = λ h e. all_judged _ _ h _ _ _ _ (c.loop-count.invariant.2 h e) (search rules)
