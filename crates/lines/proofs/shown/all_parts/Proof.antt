-- `lines::shown::all_parts` meets its contract. Assumes nothing.
use mathlib.Core.Path.{refl}
use Rattle.lines.specs.Shown.{all_parts}
use Rattle.lines.proofs.shown.all_parts.Statement.{statement}
use Rattle.lines.proofs.shown.all_parts.Tie as tie

pub all_parts_spec : {M : Type 1} → statement M
unfolding all_parts
all_parts_spec =
    tie.close
    (tie.spec
    (λ c. refl))
