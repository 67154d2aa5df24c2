-- The locals stand for the search after some visits, and `good` for what is judged on them, whatever is judged good.
use Rattle.std.proofs.Common.{◌≡◌, ◌+◌, length}
use Rattle.net.specs.Records.{place_of}
use Rattle.keeping.specs.Worklist.{unmarked, search_of}
use Rattle.keeping.proofs.ReachLaws.{Way}
use Rattle.keeping.proofs.VisitLaws.{Underway}
use Rattle.keeping.proofs.reaching.search.Given as goal

abbrev pub invariant-loop-count : goal.invariant-loop-count
invariant-loop-count g l =
    Way l.code (place_of l.start) (search_of l.marks l.waiting l.count) × (length l.waiting ≡ length l.initial.waiting)
    × ((h : _ → _) → ((x : _) (y : _) → goal.F-post g l.judge x y → y ≡ h x) → Underway l.code (place_of l.start) h (search_of l.marks l.waiting l.count) l.good)

abbrev pub decreases-loop-count : goal.decreases-loop-count
decreases-loop-count g l = l.count + unmarked l.marks
