-- In a sound net the computed keeping of sent code is a right for each instruction reached: no place past the code length
-- is reached.
-- Assumes nothing.
use Prim.Native.Nat.{◌<◌}
use mathlib.Core.Path.{◌≡◌}
use mathlib.Core.Bool.{true}
use Rattle.net.specs.Records.{instruction_at}
use Rattle.keeping.specs.Reaching.{Follows}
use Rattle.keeping.specs.Keeping.{keeps_of}
use Rattle.rules.specs.Types.{Locality, Place, Row, Net}
use Rattle.rules.specs.Rules.{KeepsWithin}
use Rattle.keeping.proofs.KeepingPromise.{keeping_promise as promise}
use Rattle.rules.proofs.StepFacts.{Facts, follow_low}

module _ (s : Net) (ok : Facts s) (sent : Place) (low : sent.0 < s.length) (l : Locality) (row : Row) where
  closed : (p q : Place) → p.0 < s.length → Follows q (instruction_at s.code p).action → q.0 < s.length
  closed p q h f = follow_low s.format s.addresses s.length q _ f (ok.actions p h)

  pub keeps_within : keeps_of s.code sent l row ≡ true → KeepsWithin s.code sent l row
  keeps_within h = record { permitted = (promise.keeps s.code s.length ok.short closed sent l row low).0 h }

  pub within_keeps : KeepsWithin s.code sent l row → keeps_of s.code sent l row ≡ true
  within_keeps h = (promise.keeps s.code s.length ok.short closed sent l row low).1 h.permitted
