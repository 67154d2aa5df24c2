-- Assumes nothing.
use Rattle.std.proofs.Common.{◌≡◌, get_or}
use Rattle.lean_words.specs.Filled.{filled}
use Rattle.lean.proofs.filling.fill.Given as goal

abbrev pub invariant-loop-i : goal.invariant-loop-i
invariant-loop-i g l =
    (d : _) (h : _ → _) → ((x : _) (y : _) → goal.F-post g l.f x y → y ≡ h x) → l.to ≡ filled l.i (λ i. h (get_or l.from i d)) l.fn.to
