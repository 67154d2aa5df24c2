-- Assumes nothing.
use Rattle.std.proofs.Common.{◌≡◌}
use Rattle.lean.specs.Loading.{loaded_needs}
use Rattle.lean.proofs.loading.load_needs.Given as goal

abbrev pub invariant-loop-q : goal.invariant-loop-q
invariant-loop-q l = l.needs ≡ loaded_needs l.fn.code l.q l.fn.needs
