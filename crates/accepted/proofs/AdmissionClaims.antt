-- The claims of `specs/AdmissionClaims.antt`: an image is answered 30 exactly where it is the check of starting processes
-- that fails. Assumes nothing.
use Prim.Native.Nat.{ℕ}
use mathlib.Core.Path.{◌≡◌, refl, subst}
use mathlib.Core.Bool.{Bool, true, false}
use mathlib.Core.List.{List}
use native.Mathlib.Omega.{arith}
use Rattle.net.specs.Choice.{choose}
use Rattle.keeping.specs.Admission.{admits}
use Rattle.keeping.specs.AdmissionClaims.{StartsWithin, AdmitsIsWithin}
use Rattle.net.proofs.Laws.{choose_true}
use Rattle.keeping.proofs.AdmissionClaims.{admits_is_within}
use Rattle.accepted.specs.Types.{Fault, Net}
use Rattle.readers.specs.Reader.{Parsed, got, fault_at}
use Rattle.image.specs.Image.{layout, beyond_row, refused, accepted, judged_net}
use Rattle.image.specs.Image.{opened_of, number_of}
use Rattle.accepted.specs.AdmissionClaims.{AcceptedIsWithin, Beyond, beyond}
use Rattle.accepted.specs.AdmissionClaims.{ThirtyIsBeyond}
use Rattle.accepted.proofs.Gives.{Fine, value, stopped}
use Rattle.accepted.proofs.AcceptedSound.{Laid, gives_layout, never}

-- ---- of a net that the layout gives
judged : (image : List ℕ) (s : Net) (p : ℕ) → judged_net image (got s p) ≡ choose (admits s) (accepted s) (refused (beyond_row image s))
unfolding judged_net
judged image s p = refl

module _ (s : Net) (laid : Laid s) where
  within : admits s ≡ true → StartsWithin s
  unfolding AdmitsIsWithin
  within = (admits_is_within s laid.few laid.short).0

  admitted : StartsWithin s → admits s ≡ true
  unfolding AdmitsIsWithin
  admitted = (admits_is_within s laid.few laid.short).1

  accepted_within : (f : Fault) (b : Bool) → admits s ≡ b → choose b (accepted s) (refused f) ≡ accepted s → StartsWithin s
  unfolding choose accepted refused
  accepted_within f true e h = within e
  accepted_within f false e h = never f (λ d. (h d).answer)

  -- 30 is the number of what is not admitted
  thirty_beyond :
      (f : Fault) (b : Bool) → admits s ≡ b → number_of (choose b (accepted s) (refused f)).answer ≡ 30 → StartsWithin s → ⊥
  unfolding choose accepted refused number_of
  thirty_beyond f true e h w = omega arith
  thirty_beyond f false e h w = let z : ◌≡◌ {A = ℕ} 0 1 = cc (admitted w) in omega arith

  beyond_thirty :
      (image : List ℕ) (b : Bool) → admits s ≡ b → (StartsWithin s → ⊥)
      → number_of (choose b (accepted s) (refused (beyond_row image s))).answer ≡ 30
  unfolding choose refused beyond_row fault_at number_of
  beyond_thirty image true e n = absurd (n (within e))
  beyond_thirty image false e n = refl

laid_at : (o : Parsed Net) (s : Net) (p : ℕ) → Fine Laid o → o ≡ got s p → Laid s
laid_at _ s p (value {a = t} h) e = let same : t ≡ s = cc in subst Laid same h
laid_at _ s p (stopped l) e = let z : ◌≡◌ {A = ℕ} 0 1 = cc in absurd (omega arith)

pub accepted_is_within : AcceptedIsWithin
unfolding AcceptedIsWithin opened_of
accepted_is_within image s p e =
    let laid = laid_at (layout image 0) s p (gives_layout.run image 0) e in (
      λ h. accepted_within s laid (beyond_row image s) (admits s) refl (rw (e, judged) at h),
      λ w. rw (e, judged) (choose_true _ _ _ (admitted s laid w)),
    )

thirty_is : (image : List ℕ) (o : Parsed Net) → Fine Laid o → layout image 0 ≡ o → number_of (judged_net image o).answer ≡ 30 → Beyond image
unfolding judged_net refused number_of
thirty_is image _ (value {a = s} laid) e h = beyond e (thirty_beyond s laid (beyond_row image s) (admits s) refl h)
thirty_is image _ (stopped {f} l) e h = absurd (omega (arith, l.most))

pub thirty_is_beyond : ThirtyIsBeyond
unfolding ThirtyIsBeyond opened_of
thirty_is_beyond image = (
  thirty_is image (layout image 0) (gives_layout.run image 0) refl,
  beyond_is,
)
  where
    beyond_is : Beyond image → number_of (judged_net image (layout image 0)).answer ≡ 30
    beyond_is (beyond {s} {p} e n) =
        rw (e, judged) (beyond_thirty s (laid_at _ s p (gives_layout.run image 0) e) image (admits s) refl n)
