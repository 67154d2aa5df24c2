-- What the writer of images gives, from what its parts give. Assumes nothing.
use Prim.Native.Nat.{ℕ, zero, suc, ◌+◌, ◌-◌, ◌*◌, ◌/◌, ◌≤◌}
use mathlib.Core.Path.{◌≡◌, refl, sym, ap, ◌∙◌}
use mathlib.Core.Bool.{Bool, true, false}
use mathlib.Core.List.{List, [], ◌∷◌, ◌++◌}
use native.Mathlib.Omega.{arith}
use native.Mathlib.Decide.{dec_le}
use lib.Dec.{eqb}
use lib.ListN.{length, get_or, replicate, length-replicate, get_or-replicate, get_or-append, get_or-eq_default, drop}
use lib.Seq.{sets-eq, get_or-append-add, get_or-drop}
use Rattle.std.specs.Prelude.{Err}
use Rattle.std.specs.Prelude.{Option, Some, None, if◌then◌else◌}
use borrow.Author.Tests.{le-leb}
use Rattle.text.specs.Writer.{fitted}
use Rattle.sound.specs.Soundness.{sound_of}
use Rattle.net.proofs.Every.{chosen}
use Rattle.net.proofs.Laws.{both_l, both_r, choose_true, choose_false}
use Rattle.image.specs.Image.{opened_of, accepted}
use Rattle.accepted.specs.LengthClaims.{longest_in, longest_image, LongestAccepted}
use Rattle.accepted.proofs.LengthClaims.{longest_accepted}
use Rattle.writer.specs.Types.{Net}
use Rattle.text.specs.Buffer.{over}
use Rattle.writer.specs.Calls.{Packed, Unwritten, placed_of, placed_in, packed_of, image_in}
use Rattle.fresh.specs.Fresh.{net_fits, fresh_of}
use Rattle.written.specs.ImageOf.{digit, number_in, bytes_of, net_bits, image_of}
use Rattle.text.specs.Joined.{joined}
use Rattle.layout.specs.Counts.{Counts}
use Rattle.writer.specs.Packing.{bytes_in}
use Rattle.written.proofs.AcceptedWritten.{fresh_accepted}
use Rattle.written.proofs.FreshFits.{net_fit}
use Rattle.layout.proofs.CountLaws.{counts_of}
use Rattle.written.proofs.WrittenBytes.{bytes_length}

-- ---- a fresh net
pub fresh_counts : (net : Net) → fresh_of net ≡ true → Counts net
unfolding fresh_of
fresh_counts net h =
    counts_of net (net_fit net (both_l _ _ h)).shaped (both_l (sound_of net) _ (both_r (net_fits net) _ h))

-- no image of either format is longer than the buffer
either_fits : (f : ℕ) → longest_in f ≤ longest_image
unfolding longest_in
either_fits f = chosen (λ (n : ℕ). n ≤ longest_image) (eqb f 1) _ _ (λ _. omega arith) (λ _. omega arith)

fresh_room : (net : Net) → fresh_of net ≡ true → length (net_bits net) ≤ 8 * longest_image
unfolding image_of LongestAccepted accepted
fresh_room net h =
    let most = either_fits (opened_of (image_of net)).net.format in
    let short = longest_accepted (image_of net) (ap (λ o. o.answer) (fresh_accepted net h)) in
    let size = bytes_length (net_bits net) in
    omega arith

-- ---- the bits in their buffer
module _ (room : ℕ) (bits : List Bool) (h : length bits ≤ room) where
  laid_is : over (replicate room false) 0 bits ≡ bits ++ drop (length bits) (replicate room false)
  unfolding over
  laid_is =
      let e : 0 + length bits ≡ length bits = omega arith in
      sets-eq bits (replicate room false) 0 (let l = length-replicate room false in omega arith)
      ∙ ap (λ (j : ℕ). bits ++ drop j (replicate room false)) e

  blank : (i : ℕ) → get_or (replicate room false) i false ≡ false
  blank i = go (dec_le room i)
    where
      go : Dec (room ≤ i) → get_or (replicate room false) i false ≡ false
      go (yes l) = get_or-eq_default (replicate room false) false (rw (length-replicate room false) l)
      go (no l) = get_or-replicate room i false false (omega arith)

  bit_same : (i : ℕ) → get_or (over (replicate room false) 0 bits) i false ≡ get_or bits i false
  bit_same i = ap (λ (xs : List Bool). get_or xs i false) laid_is ∙ go (dec_le (length bits) i)
    where
      go : Dec (length bits ≤ i) → get_or (bits ++ drop (length bits) (replicate room false)) i false ≡ get_or bits i false
      go (yes l) =
          let e : length bits + (i - length bits) ≡ i = omega arith in
          ap (λ (j : ℕ). get_or (bits ++ drop (length bits) (replicate room false)) j false) (sym e)
          ∙ get_or-append-add bits (drop (length bits) (replicate room false)) (i - length bits) false
          ∙ get_or-drop (length bits) (replicate room false) (i - length bits) false
          ∙ blank (length bits + (i - length bits))
          ∙ sym (get_or-eq_default bits false l)
      go (no l) = get_or-append bits _ false i (omega arith)

  number_same : (p w : ℕ) → number_in (over (replicate room false) 0 bits) p w ≡ number_in bits p w
  unfolding number_in
  number_same p zero = refl
  number_same p (suc w) =
      ap (λ (n : ℕ). n * 2 + digit (get_or (over (replicate room false) 0 bits) (p + w) false)) (number_same p w)
      ∙ ap (λ (b : Bool). number_in bits p w * 2 + digit b) (bit_same (p + w))

  joined_same : (n : ℕ) → bytes_in (over (replicate room false) 0 bits) n ≡ bytes_in bits n
  unfolding bytes_in joined
  joined_same zero = refl
  joined_same (suc n) =
      ap (λ (xs : List ℕ). xs ++ (number_in (over (replicate room false) 0 bits) (8 * n) 8 ∷ [])) (joined_same n)
      ∙ ap (λ (b : ℕ). bytes_in bits n ++ (b ∷ [])) (number_same (8 * n) 8)

  bytes_are : bytes_in (over (replicate room false) 0 bits) ((length bits + 7) / 8) ≡ bytes_of bits
  unfolding bytes_of bytes_in
  bytes_are = joined_same ((length bits + 7) / 8)

  -- as a writer leaves them
  laid_bytes :
      (ys : List Bool) (end : ℕ) → ys ≡ over (replicate room false) 0 bits → end ≡ length bits
      → bytes_in ys ((end + 7) / 8) ≡ bytes_of bits
  laid_bytes ys end i e =
      ap (λ (n : ℕ). bytes_in ys ((n + 7) / 8)) e
      ∙ ap (λ (xs : List Bool). bytes_in xs ((length bits + 7) / 8)) i
      ∙ bytes_are

-- all bits of a fresh net fit
pub bits_fit :
    (net : Net) (r : Option ℕ) → fresh_of net ≡ true
    → r ≡ fitted (net_bits net) (length (replicate (8 * longest_image) false)) → r ≡ Some (length (net_bits net))
unfolding fitted
bits_fit net r h e =
    let few = fresh_room net h in
    let room = length-replicate (8 * longest_image) false in
    let inside : length (net_bits net) ≤ length (replicate (8 * longest_image) false) = omega arith in
    e ∙ ap (λ (b : Bool). if b then Some (length (net_bits net)) else None) (le-leb _ _ inside)

pub bits_end :
    (net : Net) (r : Option ℕ) (end : ℕ) → fresh_of net ≡ true
    → r ≡ fitted (net_bits net) (length (replicate (8 * longest_image) false)) → r ≡ Some end → end ≡ length (net_bits net)
bits_end net r end h e u = let k = bits_fit net r h e in cc

pub bits_few : (net : Net) (end : ℕ) → fresh_of net ≡ true → end ≡ length (net_bits net) → end ≤ 8 * longest_image
bits_few net end h e = omega (arith, fresh_room net h)

-- ---- what a fresh net's writer gives
module _
    (net : Net) (h : fresh_of net ≡ true) (ys : List Bool) (end : ℕ)
    (i : ys ≡ over (replicate (8 * longest_image) false) 0 (net_bits net)) (e : end ≡ length (net_bits net)) where
  image_is : bytes_in ys ((end + 7) / 8) ≡ image_of net
  unfolding image_of
  image_is = laid_bytes (8 * longest_image) (net_bits net) (fresh_room net h) ys end i e

  pub fresh_packed :
      (r : Packed) (room : ℕ) → r ≡ placed_of (length (bytes_in ys ((end + 7) / 8))) room
      → r ≡ placed_of (length (image_of net)) room
  fresh_packed r room d = d ∙ ap (λ (xs : List ℕ). placed_of (length xs) room) image_is

  pub fresh_placed :
      (before after : List ℕ) → after ≡ placed_in (bytes_in ys ((end + 7) / 8)) before
      → after ≡ placed_in (image_of net) before
  fresh_placed before after d = d ∙ ap (λ (xs : List ℕ). placed_in xs before) image_is

-- ---- every net
module _ (net : Net) (answer : Bool) (e : answer ≡ fresh_of net) where
  pub fresh_known : answer ≡ true → fresh_of net ≡ true
  fresh_known p = sym e ∙ p

  pub image_packed :
      (r : Packed) (room : ℕ) → answer ≡ true → r ≡ placed_of (length (image_of net)) room → r ≡ packed_of net room
  unfolding packed_of
  image_packed r room p q = q ∙ sym (choose_true (fresh_of net) _ (Err Unwritten.NotFresh) (fresh_known p))

  pub image_placed :
      (before after : List ℕ) → answer ≡ true → after ≡ placed_in (image_of net) before → after ≡ image_in net before
  unfolding image_in
  image_placed before after p q = q ∙ sym (choose_true (fresh_of net) _ before (fresh_known p))

  pub image_none : (room : ℕ) → answer ≡ false → Err Unwritten.NotFresh ≡ packed_of net room
  unfolding packed_of
  image_none room p = sym (choose_false (fresh_of net) (placed_of (length (image_of net)) room) (Err Unwritten.NotFresh) (sym e ∙ p))

  pub image_kept : (before : List ℕ) → answer ≡ false → before ≡ image_in net before
  unfolding image_in
  image_kept before p = sym (choose_false (fresh_of net) (placed_in (image_of net) before) before (sym e ∙ p))
