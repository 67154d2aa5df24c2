-- Assumes nothing.
use Rattle.net.specs.Records.{process_at}
use Rattle.lean_words.specs.Processes.{process_words}
use Rattle.lean.specs.Loading.{slots_of}
use Rattle.lean.proofs.CopyLaws.{four_filled}
use Rattle.lean.proofs.loading.slots_of.Goals as goal

pub returns : goal.returns
unfolding slots_of process_at
returns c = four_filled _ _ _ c.free_words-slots.ensures _ (c.fill.ensures _ process_words (λ x y p. p))
