-- The claim of `specs/SoundRuns.antt`: picks keep a net sound, and its arrays their lengths. Assumes nothing.
use Prim.Native.Nat.{ℕ}
use mathlib.Core.Path.{◌≡◌}
use mathlib.Core.Bool.{true}
use mathlib.Core.List.{List, [], ◌∷◌}
use Rattle.net.specs.Shape.{Shaped}
use Rattle.sound.specs.Soundness.{sound_of}
use Rattle.sound.proofs.NetFacts.{NetOk, sound_apart}
use Rattle.step.specs.Pick.{pick_of}
use Rattle.step.specs.SoundKept.{SoundKept}
use Rattle.step.proofs.SoundKept.{sound_kept}
use Rattle.runs.specs.Types.{Net}
use Rattle.runs.specs.Run.{ran_from, answered}
use Rattle.runs.specs.SoundRuns.{SoundRuns}

pub ran_kept :
    (s : Net) (picks : List ℕ) → Shaped s → sound_of s ≡ true
    → (sound_of (ran_from s picks).net ≡ true) × Shaped (ran_from s picks).net
unfolding ran_from answered SoundKept
ran_kept s [] shaped sound = (sound, shaped)
ran_kept s (b ∷ bs) shaped sound =
    let kept = sound_kept s b shaped sound in
    ran_kept (pick_of s b).net bs kept.1 kept.0

-- the claim
pub sound_runs : SoundRuns
unfolding SoundRuns
sound_runs = ran_kept

-- the facts about its records
pub ran_sound : (s : Net) (picks : List ℕ) → Shaped s → sound_of s ≡ true → NetOk (ran_from s picks).net
ran_sound s picks shaped sound =
    let kept = ran_kept s picks shaped sound in
    sound_apart (ran_from s picks).net kept.1 kept.0
