-- What every pick keeps (document 01, "One pick").
use Rattle.std.specs.Prelude.{ℕ, ◌≡◌, true}
use Rattle.sound.specs.Soundness.{sound_of}
use Rattle.step.specs.Pick.{pick_of}
use Rattle.net.specs.Shape.{Shaped}
use Rattle.step.specs.Types.{Net}

-- "Accepted nets are sound and steps keep them so": whatever the byte, the net after a pick on a sound net is sound.
-- `Shaped` is asked because a list has any length, and soundness does not tell it: with fewer than 16 places for tuples
-- an out could raise the count and store nothing. The arrays of a program have these lengths (`proofs/Lengths.antt` of
-- `net`), so the contract of `pick` says the same of them with no such premise. Serves demands 1 and 2.
unfoldable pub SoundKept : Type 0
SoundKept =
    (s : Net) (b : ℕ)
    → Shaped s
    → sound_of s ≡ true
    → (sound_of (pick_of s b).net ≡ true) × Shaped (pick_of s b).net
