-- What the number and the buffer of a written net mean (`specs/PackedClaims.antt`). Assumes nothing.
use Prim.Native.Nat.{ℕ, ◌+◌, ◌≤◌}
use mathlib.Core.Path.{◌≡◌, refl, sym, ap, ◌∙◌}
use mathlib.Core.Bool.{Bool, true, false}
use mathlib.Core.List.{List, ◌++◌}
use native.Mathlib.Omega.{arith}
use lib.Dec.{leb}
use lib.ListN.{length, take, drop}
use lib.Seq.{sets-eq, take-append_seam, drop-append_seam}
use borrow.Author.Tests.{leb-true}
use Rattle.std.specs.Prelude.{Ok, Err}
use Rattle.net.proofs.Laws.{choose_true, choose_false}
use Rattle.image.specs.Image.{opened_of, accepted}
use Rattle.writer.specs.Types.{Net}
use Rattle.text.specs.Buffer.{over}
use Rattle.writer.specs.Calls.{Packed, Unwritten, placed_of, packed_of, packed_number, packed_length, placed_in, image_in}
use Rattle.fresh.specs.Fresh.{fresh_of}
use Rattle.written.specs.ImageOf.{image_of}
use Rattle.written.specs.WrittenClaims.{Bytes, AcceptedIsWritten, WrittenIsBytes}
use Rattle.writer.specs.PackedClaims.{PackedIsAccepted, NotFreshIsUngiven, RefusalKeepsBuffer}
use Rattle.written.proofs.AcceptedWritten.{fresh_accepted, accepted_is_written, written_is_bytes}

-- ---- the three cases of a call
data Case (net : Net) (buffer : List ℕ) : Type 0 where
  whole :
      fresh_of net ≡ true → length (image_of net) ≤ length buffer
      → packed_of net (length buffer) ≡ Ok (length (image_of net))
      → image_in net buffer ≡ over buffer 0 (image_of net) → Case net buffer
  short : fresh_of net ≡ true → packed_of net (length buffer) ≡ Err Unwritten.NoRoom → image_in net buffer ≡ buffer → Case net buffer
  stale :
      fresh_of net ≡ false → packed_of net (length buffer) ≡ Err Unwritten.NotFresh → image_in net buffer ≡ buffer → Case net buffer

module _ (net : Net) (buffer : List ℕ) where
  placed : (b : Bool) → leb (length (image_of net)) (length buffer) ≡ b → fresh_of net ≡ true → Case net buffer
  unfolding packed_of placed_of image_in placed_in
  placed true e h =
      whole h (leb-true _ _ e) (choose_true _ _ (Err Unwritten.NotFresh) h ∙ choose_true _ _ (Err Unwritten.NoRoom) e)
      (choose_true _ _ buffer h ∙ choose_true _ _ buffer e)
  placed false e h =
      short h (choose_true _ _ (Err Unwritten.NotFresh) h ∙ choose_false _ (Ok (length (image_of net))) _ e)
      (choose_true _ _ buffer h ∙ choose_false _ (over buffer 0 (image_of net)) _ e)

  tested : (b : Bool) → fresh_of net ≡ b → Case net buffer
  unfolding packed_of image_in
  tested true h = placed (leb (length (image_of net)) (length buffer)) refl h
  tested false h =
      stale h (choose_false _ (placed_of (length (image_of net)) (length buffer)) _ h)
      (choose_false _ (placed_in (image_of net) buffer) _ h)

  -- two answers that differ by their numbers
  apart : (x y : Packed) → packed_of net (length buffer) ≡ x → packed_of net (length buffer) ≡ y → packed_number x ≡ packed_number y
  apart x y e d = ap packed_number (sym e ∙ d)

  -- the image, and what stands behind it
  laid : length (image_of net) ≤ length buffer → over buffer 0 (image_of net) ≡ image_of net ++ drop (length (image_of net)) buffer
  unfolding over
  laid l =
      let e : 0 + length (image_of net) ≡ length (image_of net) = omega arith in
      sets-eq (image_of net) buffer 0 (omega arith) ∙ ap (λ (j : ℕ). image_of net ++ drop j buffer) e

  accepts : (n : ℕ) → Case net buffer → packed_of net (length buffer) ≡ Ok n
      → (opened_of (take n (image_in net buffer)) ≡ accepted net) × (drop n (image_in net buffer) ≡ drop n buffer)
  unfolding packed_number packed_length
  accepts n (whole h l e d) w =
      let size : length (image_of net) ≡ n = ap packed_length (sym e ∙ w) in
      let is : image_in net buffer ≡ image_of net ++ drop (length (image_of net)) buffer = d ∙ laid l in (
        ap (λ (j : ℕ). opened_of (take j (image_in net buffer))) (sym size)
            ∙ ap (λ (xs : List ℕ). opened_of (take (length (image_of net)) xs)) is
            ∙ ap opened_of (take-append_seam (image_of net) _)
            ∙ fresh_accepted net h,
        ap (λ (j : ℕ). drop j (image_in net buffer)) (sym size)
            ∙ ap (λ (xs : List ℕ). drop (length (image_of net)) xs) is
            ∙ drop-append_seam (image_of net) _
            ∙ ap (λ (j : ℕ). drop j buffer) size,
      )
  accepts n (short h e d) w = absurd (let z = apart _ _ e w in omega arith)
  accepts n (stale h e d) w = absurd (let z = apart _ _ e w in omega arith)

  keeps : Case net buffer → (packed_number (packed_of net (length buffer)) ≡ 0 → ⊥) → image_in net buffer ≡ buffer
  unfolding packed_number
  keeps (whole h l e d) f = absurd (f (ap packed_number e))
  keeps (short h e d) f = d
  keeps (stale h e d) f = d

pub packed_is_accepted : PackedIsAccepted
unfolding PackedIsAccepted
packed_is_accepted net buffer n w = accepts net buffer n (tested net buffer (fresh_of net) refl) w

pub refusal_keeps_buffer : RefusalKeepsBuffer
unfolding RefusalKeepsBuffer
refusal_keeps_buffer net buffer f = keeps net buffer (tested net buffer (fresh_of net) refl) f

-- ---- 36
module _ (size room : ℕ) where
  placed_number : (b : Bool) → leb size room ≡ b → packed_number (placed_of size room) ≡ 36 → ⊥
  unfolding placed_of packed_number
  placed_number true e f =
      let z : ◌≡◌ {A = ℕ} 0 36 = sym (ap packed_number (choose_true _ (Ok size) (Err Unwritten.NoRoom) e)) ∙ f in omega arith
  placed_number false e f =
      let z : ◌≡◌ {A = ℕ} 35 36 = sym (ap packed_number (choose_false _ (Ok size) (Err Unwritten.NoRoom) e)) ∙ f in omega arith

module _ (net : Net) (room : ℕ) where
  fresh_number : fresh_of net ≡ true → packed_of net room ≡ Err Unwritten.NotFresh → ⊥
  unfolding packed_of packed_number
  fresh_number h e =
      placed_number (length (image_of net)) room (leb (length (image_of net)) room) refl
      (ap packed_number (sym (choose_true _ (placed_of (length (image_of net)) room) (Err Unwritten.NotFresh) h) ∙ e))

  stale_answer : fresh_of net ≡ false → packed_of net room ≡ Err Unwritten.NotFresh
  unfolding packed_of
  stale_answer h = choose_false _ (placed_of (length (image_of net)) room) _ h

  only : (b : Bool) → fresh_of net ≡ b → ((s : List ℕ) → Bytes s → opened_of s ≡ accepted net → ⊥)
      → packed_of net room ≡ Err Unwritten.NotFresh
  unfolding WrittenIsBytes
  only true h f = absurd (f (image_of net) (written_is_bytes net) (fresh_accepted net h))
  only false h f = stale_answer h

pub not_fresh_is_ungiven : NotFreshIsUngiven
unfolding NotFreshIsUngiven AcceptedIsWritten
not_fresh_is_ungiven net room =
    (λ e s b a. fresh_number net room ((accepted_is_written s net b).0 a).0 e, only net room (fresh_of net) refl)
