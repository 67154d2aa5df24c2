-- An image is accepted with a net exactly when the net is fresh and the image is what is written for it: the claims of
-- `specs/WrittenClaims.antt`. Assumes nothing.
use Prim.Native.Nat.{ℕ, ◌+◌}
use mathlib.Core.Path.{◌≡◌, refl, sym, ap, subst, ◌∙◌}
use mathlib.Core.Bool.{Bool, true, false}
use mathlib.Core.List.{List}
use mathlib.Core.Logic.{◌⊎◌, inl, inr}
use native.Mathlib.Omega.{arith}
use lib.ListN.{length}
use Rattle.net.specs.Choice.{choose}
use Rattle.net.specs.Records.{empty_net}
use Rattle.sound.specs.Soundness.{sound_of}
use Rattle.written.specs.Types.{Net}
use Rattle.readers.specs.Reader.{Parsed, got, fault, Reader, pure, and_then, require_in, require, fault_at, ◌>>=◌, ◌>>◌}
use Rattle.written.specs.Types.{Fault}
use Rattle.image.specs.Image.{header, rows, all_processes, all_tuples, code, layout}
use Rattle.bitreader.specs.Ending.{ends_at, ending}
use Rattle.written.specs.Types.{Verdict, Opened}
use Rattle.keeping.specs.Admission.{admits}
use Rattle.image.specs.Image.{beyond_row, refused, accepted, judged_net, opened_of}
use Rattle.accepted.specs.ImageClaims.{AcceptedIsSound}
use Rattle.written.specs.ImageOf.{net_bits, image_of}
use Rattle.fresh.specs.Fresh.{fresh_of}
use Rattle.written.specs.WrittenClaims.{Bytes, AcceptedIsWritten, WrittenIsBytes, OneImage, OneNet}
use Rattle.net.proofs.Laws.{both_i, choose_true}
use Rattle.accepted.proofs.AcceptedSound.{accepted_is_sound}
use Rattle.readers.proofs.ReaderLaws.{no_fault}
use Rattle.written.proofs.BitsAt.{BitsAt}
use Rattle.written.proofs.WrittenNet.{body}
use Rattle.written.proofs.WrittenWhole.{NetOk, reads_body}
use Rattle.written.proofs.WrittenBytes.{bytes_small, stands_bytes, bytes_stand, bytes_end}
use Rattle.written.proofs.FreshFits.{fresh_apart}
use Rattle.written.proofs.FreshNet.{net_fits_law, net_starts, fresh_ok}

-- ---- the layout is its body, and then its end
module _ {A B C : Type 0} (m : Reader A) (f : A → Reader B) (g : B → Reader C) (h : A → Reader C) where
  regroup : ((a : A) (s : List ℕ) (p : ℕ) → h a s p ≡ (f a >>= g) s p)
      → (s : List ℕ) (p : ℕ) → (m >>= h) s p ≡ ((m >>= f) >>= g) s p
  unfolding ◌>>=◌ and_then
  regroup e s p = go (m s p)
    where
      go : (o : Parsed A) → and_then o s h ≡ and_then (and_then o s f) s g
      go (got a q) = e a s q
      go (fault n) = refl

closing : Net → Reader Net
closing s = ending >> pure s

layout_is : (s : List ℕ) (p : ℕ) → layout s p ≡ (body >>= closing) s p
unfolding layout body closing
layout_is =
    regroup header _ closing _ (λ s₁. regroup (rows s₁) _ closing _ (λ s₂. regroup (all_processes s₂) _ closing _ (λ s₃.
    regroup (all_tuples s₃) code closing _ (λ s₄ s p. refl))))

-- ---- what the layout gives
record Laid (s : List ℕ) (net : Net) : Type 0 where
  net_ok : NetOk net
  stands : BitsAt s 0 (net_bits net)
  ends : ends_at s (length (net_bits net)) ≡ true

closing_only : (s : List ℕ) (p : ℕ) (x net : Net) (q : ℕ) → closing x s p ≡ got net q → (ends_at s p ≡ true) × (x ≡ net)
unfolding closing ending ◌>>◌ ◌>>=◌ require require_in and_then pure choose
closing_only s p x net q = go (ends_at s p)
  where
    go : (b : Bool) → and_then (choose b (got tt p) (fault (fault_at 29 p 0))) s (λ (u : Unit {0}). pure x) ≡ got net q
        → (b ≡ true) × (x ≡ net)
    go true e = (refl, cc)
    go false e = no_fault e

closing_back : (s : List ℕ) (p : ℕ) (net : Net) → ends_at s p ≡ true → closing net s p ≡ got net p
unfolding closing ending ◌>>◌ ◌>>=◌ require require_in and_then pure
closing_back s p net e = ap (λ o. and_then o s (λ (u : Unit {0}). pure net)) (choose_true (ends_at s p) _ _ e)

layout_only : (s : List ℕ) (net : Net) (q : ℕ) → layout s 0 ≡ got net q → Laid s net
unfolding ◌>>=◌ and_then
layout_only s net q e = go (body s 0) refl (sym (layout_is s 0) ∙ e)
  where
    go : (o : Parsed Net) → body s 0 ≡ o → and_then o s closing ≡ got net q → Laid s net
    go (fault n) d f = no_fault f
    go (got x p) d f =
        let w = reads_body.only s 0 x p (omega arith) d in
        let (g, i) = closing_only s p x net q f in
        let at : p ≡ length (net_bits x) = omega (arith, w.ends) in
        subst (Laid s) i
        (record { net_ok = w.holds; stands = w.stands; ends = ap (ends_at s) (sym at) ∙ g })

layout_back : (s : List ℕ) (net : Net) → Laid s net → layout s 0 ≡ got net (length (net_bits net))
unfolding ◌>>=◌ and_then
layout_back s net l =
    let at : 0 + length (net_bits net) ≡ length (net_bits net) = omega arith in
    layout_is s 0
    ∙ ap (λ o. and_then o s closing) (reads_body.back s 0 net l.net_ok l.stands ∙ ap (got net) at)
    ∙ closing_back s (length (net_bits net)) net l.ends

-- ---- what is accepted
refused_not : {C : Type 0} (f : Fault) (net : Net) → refused f ≡ accepted net → C
unfolding refused accepted
refused_not f net e =
    let d : Verdict.Refused f ≡ Verdict.Accepted = ap (λ (r : Opened). r.answer) e in
    let z : ◌≡◌ {A = ℕ} 0 1 = cc d in absurd (omega arith)

same_net : (x net : Net) → accepted x ≡ accepted net → x ≡ net
unfolding accepted
same_net x net e = ap (λ (r : Opened). r.net) e

judged_only : (s : List ℕ) (net : Net) (o : Parsed Net) → layout s 0 ≡ o → judged_net s o ≡ accepted net
    → Laid s net × (admits net ≡ true)
unfolding judged_net choose
judged_only s net (fault f) d e = refused_not f net e
judged_only s net (got x q) d e = go (admits x) refl e
  where
    go : (b : Bool) → admits x ≡ b → choose b (accepted x) (refused (beyond_row s x)) ≡ accepted net
        → Laid s net × (admits net ≡ true)
    go true a f = subst (λ (y : Net). Laid s y × (admits y ≡ true)) (same_net x net f) (layout_only s x q d, a)
    go false a f = refused_not _ net f

-- the net that is opened, whether accepted or not
judged_ok : (s : List ℕ) (o : Parsed Net) → layout s 0 ≡ o → NetOk (judged_net s o).net ⊎ (empty_net ≡ (judged_net s o).net)
unfolding judged_net choose accepted refused
judged_ok s (fault f) d = inr refl
judged_ok s (got x q) d = go (admits x)
  where
    go : (b : Bool) → NetOk (choose b (accepted x) (refused (beyond_row s x))).net
        ⊎ (empty_net ≡ (choose b (accepted x) (refused (beyond_row s x))).net)
    go true = inl (layout_only s x q d).net_ok
    go false = inr refl

pub opened_ok : (s : List ℕ) → NetOk (opened_of s).net ⊎ (empty_net ≡ (opened_of s).net)
unfolding opened_of
opened_ok s = judged_ok s (layout s 0) refl

-- a fresh net, in its parts
fresh_all : (net : Net) → NetOk net → sound_of net ≡ true → admits net ≡ true → fresh_of net ≡ true
unfolding fresh_of
fresh_all net ok h a = both_i _ _ (net_fits_law net ok) (both_i _ _ h (both_i _ _ (net_starts net ok) a))

fresh_only : (net : Net) → fresh_of net ≡ true → NetOk net × (admits net ≡ true)
fresh_only net h = let g = fresh_apart net h in (fresh_ok net g.fits g.sound g.starts, g.admitted)

-- the net of an accepted image is fresh, whether the image is one of bytes or not
pub accepted_fresh : (s : List ℕ) → (opened_of s).answer ≡ Verdict.Accepted → fresh_of (opened_of s).net ≡ true
unfolding opened_of accepted AcceptedIsSound
accepted_fresh s e =
    let (l, a) = judged_only s _ (layout s 0) refl (λ i. record { answer = e i; net = (opened_of s).net }) in
    fresh_all _ l.net_ok (accepted_is_sound s e) a

only : (s : List ℕ) (net : Net) → Bytes s → opened_of s ≡ accepted net → (fresh_of net ≡ true) × (s ≡ image_of net)
unfolding opened_of image_of accepted
only s net b e =
    let (l, _) = judged_only s net (layout s 0) refl e in (
      ap fresh_of (sym (ap (λ (r : Opened). r.net) e)) ∙ accepted_fresh s (ap (λ (r : Opened). r.answer) e),
      stands_bytes s (net_bits net) l.stands l.ends b,
    )

pub fresh_accepted : (net : Net) → fresh_of net ≡ true → opened_of (image_of net) ≡ accepted net
unfolding opened_of image_of judged_net
fresh_accepted net h =
    let (ok, a) = fresh_only net h in
    ap (judged_net (image_of net))
    (layout_back (image_of net) net
    (record { net_ok = ok; stands = bytes_stand (net_bits net); ends = bytes_end (net_bits net) }))
    ∙ choose_true (admits net) _ _ a

-- ---- the claims
pub accepted_is_written : AcceptedIsWritten
unfolding AcceptedIsWritten
accepted_is_written s net b = (only s net b, λ h. ap opened_of h.1 ∙ fresh_accepted net h.0)

pub written_is_bytes : WrittenIsBytes
unfolding WrittenIsBytes image_of
written_is_bytes net = bytes_small (net_bits net)

pub one_image : OneImage
unfolding OneImage
one_image s t net b c e f = (only s net b e).1 ∙ sym (only t net c f).1

pub one_net : OneNet
unfolding OneNet
one_net x y h g e = same_net x y (sym (fresh_accepted x h) ∙ ap opened_of e ∙ fresh_accepted y g)
