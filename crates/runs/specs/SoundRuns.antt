-- Document 01, "One pick": "Accepted nets are sound and steps keep them so", of a list of picks.
use Rattle.std.specs.Prelude.{ℕ, ◌≡◌, true, List}
use Rattle.net.specs.Shape.{Shaped}
use Rattle.sound.specs.Soundness.{sound_of}
use Rattle.runs.specs.Types.{Net}
use Rattle.runs.specs.Run.{ran_from}

-- a net of a running program's lengths that is sound is so after any picks
unfoldable pub SoundRuns : Type 0
SoundRuns =
    (s : Net) (picks : List ℕ) → Shaped s → sound_of s ≡ true
    → (sound_of (ran_from s picks).net ≡ true) × Shaped (ran_from s picks).net
