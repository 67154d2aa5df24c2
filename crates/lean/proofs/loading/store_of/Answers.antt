-- Assumes nothing.
use Rattle.net.specs.Records.{tuple_at}
use Rattle.lean_words.specs.Stores.{tuple_words}
use Rattle.lean.specs.Loading.{store_of}
use Rattle.lean.proofs.CopyLaws.{sixteen_filled}
use Rattle.lean.proofs.loading.store_of.Goals as goal

pub returns : goal.returns
unfolding store_of tuple_at
returns c = sixteen_filled _ _ _ c.no_tuple-store.ensures _ (c.fill.ensures _ tuple_words (λ x y p. p))
