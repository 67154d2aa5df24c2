-- Nets whose rights are settled: "Most targets are written in the code, their rights settled at admission" (document 02, slip 12).
use Rattle.std.specs.Prelude.{ℕ, ◌≡◌, true}
use Rattle.net.specs.Shape.{Shaped}
use Rattle.keeping.specs.Admission.{admits}
use Rattle.sound.specs.Soundness.{sound_of}
use Rattle.step.specs.Pick.{pick_of}
use Rattle.lean_step.specs.Types.{Net}
use Rattle.lean_step.specs.LeanStep.{lean_pick_of}

-- sound, and every process keeps within its node's row for its origin, as the starting processes do on admission. `Shaped` is
-- asked because a list has any length; the arrays of a program have these (`proofs/Lengths.antt` of `net`)
pub record Settled (s : Net) : Type 0 where
  pub shaped : Shaped s
  pub sound : sound_of s ≡ true
  pub within : admits s ≡ true

-- "Accepted nets are sound and steps keep them so" (document 01, "One pick"), and within their rows too: a pick leaves a settled net
-- settled, whatever its answer
unfoldable pub SettledStays : Type 0
SettledStays = (s : Net) (b : ℕ) → Settled s → Settled (pick_of s b).net

-- in a settled net the lean pick is the pick
unfoldable pub SettledIsLean : Type 0
SettledIsLean = (s : Net) (b : ℕ) → Settled s → lean_pick_of s b ≡ pick_of s b
