-- What is claimed of an opened image (document 01, "Numbers for an image", "One pick").
use Rattle.std.specs.Prelude.{ℕ, ◌≤◌, ◌≡◌, ◌↔◌, true, List}
use Rattle.net.specs.Records.{empty_net}
use Rattle.sound.specs.Soundness.{sound_of}
use Rattle.accepted.specs.Types.{Fault, Verdict}
use Rattle.image.specs.Image.{opened_of, number_of}

-- document 01, "One pick": accepted nets are sound
unfoldable pub AcceptedIsSound : Type 0
AcceptedIsSound = (s : List ℕ) → (opened_of s).answer ≡ Verdict.Accepted → sound_of (opened_of s).net ≡ true

-- document 01, "Numbers for an image": each refusal returns the empty net
unfoldable pub RefusedIsEmpty : Type 0
RefusedIsEmpty = (s : List ℕ) (f : Fault) → (opened_of s).answer ≡ Verdict.Refused f → (opened_of s).net ≡ empty_net

-- the number of a verdict is 0 exactly when the image is accepted, and that of a refusal is one of the table, 21 to 30
pub record Numbered (x : Verdict) : Type 0 where
  pub when_accepted : (number_of x ≡ 0) ↔ (x ≡ Verdict.Accepted)
  pub when_refused : (f : Fault) → x ≡ Verdict.Refused f → (21 ≤ number_of x) × (number_of x ≤ 30)

-- document 01, "Numbers for an image": the number that each image is answered with
unfoldable pub RefusedIsNumbered : Type 0
RefusedIsNumbered = (s : List ℕ) → Numbered (opened_of s).answer
