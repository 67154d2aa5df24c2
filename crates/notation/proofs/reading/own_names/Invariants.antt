use Rattle.std.proofs.Common.{◌≡◌, ◌≤◌, ℕ, List, set, replicate}
use Rattle.net.specs.Choice.{fold}
use Rattle.notation.proofs.reading.own_names.Given as goal

abbrev pub invariant-loop-k : goal.invariant-loop-k
invariant-loop-k l = l.names ≡ fold l.k (λ (j : ℕ) (xs : List ℕ). set xs j j) (replicate 512 0)
