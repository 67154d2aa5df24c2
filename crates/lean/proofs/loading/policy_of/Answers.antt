-- Assumes nothing.
use Rattle.net.specs.Records.{row_at}
use Rattle.lean_words.specs.Rights.{row_flags}
use Rattle.lean.specs.Loading.{policy_of}
use Rattle.lean.proofs.loading.policy_of.Goals as goal

pub returns : goal.returns
unfolding policy_of row_at
returns c = c.fill.ensures _ row_flags (λ x y p. p)
