-- Assumes nothing.
use Rattle.std.proofs.Common.{◌≡◌, ◌≤◌, ◌<◌, ltb, leb, get_or, replicate, [], false, true}
use Rattle.net.specs.Choice.{both}
use Rattle.net.proofs.FirstLaws.{Left}
use Rattle.lean_words.specs.Stores.{fits_words}
use Rattle.lean_words.proofs.stores.oldest.Given as goal

abbrev pub invariant-loop-j : goal.invariant-loop-j
invariant-loop-j l = Left 16 (λ i. both (fits_words (get_or l.ts i []) l.want) (ltb i l.stored)) (λ i. i) 16 l.j
