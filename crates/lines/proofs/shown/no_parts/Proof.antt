-- `lines::shown::no_parts` meets its contract. Assumes nothing.
use mathlib.Core.Path.{refl}
use Rattle.lines.specs.Shown.{no_parts}
use Rattle.lines.proofs.shown.no_parts.Statement.{statement}
use Rattle.lines.proofs.shown.no_parts.Tie as tie

pub no_parts_spec : {M : Type 1} → statement M
unfolding no_parts
no_parts_spec =
    tie.close
    (tie.spec
    (λ c. refl))
