use Rattle.std.proofs.Common.{◌≡◌, ◌-◌, length}
use Rattle.rows.specs.Progress.{Digits}
use Rattle.rows.proofs.rows.after_digits.Given as goal

abbrev pub invariant-loop-ahead : goal.invariant-loop-ahead
invariant-loop-ahead l = (l.ahead.text ≡ l.r.text) × Digits l.r.text.now l.r.at l.ahead.at

abbrev pub decreases-loop-ahead : goal.decreases-loop-ahead
decreases-loop-ahead l = length l.ahead.text.now - l.ahead.at
