-- Bits and the bytes that hold them (`bytes_of` of `specs/ImageOf.antt`): an image in which the bits stand, and which ends
-- with them, is the bytes that are written for them. Assumes nothing.
use Prim.Native.Nat.{ℕ, zero, suc, ◌+◌, ◌-◌, ◌*◌, ◌/◌, ◌%◌, ◌^◌, ◌<◌, ◌≤◌}
use mathlib.Core.Path.{◌≡◌, refl, sym, ap, ◌∙◌}
use mathlib.Core.Bool.{Bool, true, false}
use mathlib.Core.List.{List, [], ◌∷◌, ◌++◌}
use mathlib.Core.Logic.{◌⊎◌, inl, inr}
use native.Mathlib.Omega.{arith}
use native.Mathlib.Decide.{dec_le}
use lib.ListN.{length, get_or, length-append, get_or-append, get_or-eq_default}
use lib.Seq.{ext_get_or, get_or_at}
use lib.Pow.{shr-shr}
use lib.Dec.{eqb}
use borrow.Author.Tests.{eqb-true, eq-eqb}
use Rattle.bitreader.specs.BitReader.{bit_at, number_at}
use Rattle.bitreader.specs.Ending.{padding, ends_at}
use Rattle.written.specs.ImageOf.{digit, number_in, bytes_of}
use Rattle.text.specs.Joined.{joined}
use Rattle.written.specs.WrittenClaims.{Bytes}
use Rattle.net.proofs.Laws.{both_i, both_l, both_r, split}
use Rattle.written.proofs.BitsAt.{BitsAt}
use Rattle.written.proofs.WrittenFields.{digit_small}

-- ---- a byte and its bits
bit_in_byte : (s : List ℕ) (i j : ℕ) → j < 8 → bit_at s (8 * i + j) ≡ get_or s i 0 / 2 ^ (7 - j) % 2
unfolding bit_at
bit_in_byte s i j h =
    let e : (8 * i + j) / 8 ≡ i = omega arith in
    let f : (8 * i + j) % 8 ≡ j = omega arith in
    ap (λ (x : ℕ). get_or s x 0 / 2 ^ (7 - (8 * i + j) % 8) % 2) e ∙ ap (λ (x : ℕ). get_or s i 0 / 2 ^ (7 - x) % 2) f

-- half of what a shift leaves is what one more bit of shift leaves
shift : (b i j : ℕ) → j ≡ suc i → b / 2 ^ j ≡ b / 2 ^ i / 2
shift b i j e =
    let f : j ≡ i + 1 = omega arith in
    ap (λ (x : ℕ). b / 2 ^ x) f ∙ sym (shr-shr b i 1)

-- a byte is the number of its bits: the first w of them
byte_start : (s : List ℕ) (i w : ℕ) → get_or s i 0 < 256 → w ≤ 8 → number_at s (8 * i) w ≡ get_or s i 0 / 2 ^ (8 - w)
unfolding number_at
byte_start s i zero h l = omega arith
byte_start s i (suc w) h l =
    let b : ℕ = get_or s i 0 in
    let e = byte_start s i w h (omega arith) in
    let f = bit_in_byte s i w (omega arith) in
    let g = shift b (7 - w) (8 - w) (omega arith) in
    let x : ℕ = b / 2 ^ (7 - w) in
    let k : 8 - suc w ≡ 7 - w = omega arith in
    let m : number_at s (8 * i) w * 2 + bit_at s (8 * i + w) ≡ x = omega arith in
    m ∙ ap (λ (y : ℕ). b / 2 ^ y) (sym k)

byte_number : (s : List ℕ) (i : ℕ) → get_or s i 0 < 256 → number_at s (8 * i) 8 ≡ get_or s i 0
byte_number s i h =
    let e : get_or s i 0 / 1 ≡ get_or s i 0 = omega arith in
    byte_start s i 8 h (omega arith) ∙ e

-- a number written in bits, and each of them
module _ (bits : List Bool) (p : ℕ) where
  abbrev bit : ℕ → ℕ
  bit j = digit (get_or bits (p + j) false)

  bit_below : (j : ℕ) → bit j < 2
  bit_below j = digit_small (get_or bits (p + j) false)

  pub number_small : (w : ℕ) → number_in bits p w < 2 ^ w
  unfolding number_in
  number_small zero = omega arith
  number_small (suc w) = let h = number_small w in let g = bit_below w in omega arith

  bit_of_number : (w j k : ℕ) → j + suc k ≡ w → number_in bits p w / 2 ^ k % 2 ≡ bit j
  unfolding number_in
  bit_of_number zero j k e = absurd (omega arith)
  bit_of_number (suc w) j zero e =
      let g = bit_below w in
      let f : j ≡ w = omega arith in
      let d : (number_in bits p w * 2 + bit w) / 1 % 2 ≡ bit w = omega arith in
      d ∙ ap bit (sym f)
  bit_of_number (suc w) j (suc k) e =
      let g = bit_below w in
      let n : ℕ = number_in bits p w in
      let f : (n * 2 + bit w) / 2 ≡ n = omega arith in
      let d : suc k ≡ 1 + k = omega arith in
      ap (λ (x : ℕ). (n * 2 + bit w) / 2 ^ x % 2) d
      ∙ ap (λ (x : ℕ). x % 2) (sym (shr-shr (n * 2 + bit w) 1 k))
      ∙ ap (λ (x : ℕ). x / 2 ^ k % 2) f
      ∙ bit_of_number w j k (omega arith)

-- ---- one record, one byte, after another
module _ {A : Type 0} (f : ℕ → A) where
  abbrev pub listed : ℕ → List A
  listed n = joined n (λ i. f i ∷ [])

  pub listed_length : (n : ℕ) → length (listed n) ≡ n
  unfolding joined
  listed_length zero = refl
  listed_length (suc n) =
      let e = length-append (listed n) (f n ∷ []) in let g = listed_length n in omega arith

  pub listed_at : (d : A) (n i : ℕ) → i < n → get_or (listed n) i d ≡ f i
  unfolding joined
  listed_at d zero i h = absurd (omega arith)
  listed_at d (suc n) i h = go (listed_at d n i) (split i n h)
    where
      go : (i < n → get_or (listed n) i d ≡ f i) → (i < n) ⊎ (i ≡ n) → get_or (listed n ++ (f n ∷ [])) i d ≡ f i
      go g (inl l) = get_or-append (listed n) (f n ∷ []) d i (omega (arith, listed_length n)) ∙ g l
      go g (inr e) = get_or_at (listed n) (f n) [] d i (listed_length n ∙ sym e) ∙ ap f (sym e)

-- ---- the bytes of bits
pub bytes_length : (bits : List Bool) → length (bytes_of bits) ≡ (length bits + 7) / 8
unfolding bytes_of
bytes_length bits = listed_length (λ i. number_in bits (8 * i) 8) ((length bits + 7) / 8)

bytes_at : (bits : List Bool) (i : ℕ) → i < length (bytes_of bits) → get_or (bytes_of bits) i 0 ≡ number_in bits (8 * i) 8
unfolding bytes_of
bytes_at bits i h =
    listed_at (λ j. number_in bits (8 * j) 8) 0 ((length bits + 7) / 8) i (omega (arith, bytes_length bits))

pub bytes_small : (bits : List Bool) → Bytes (bytes_of bits)
bytes_small bits = record {
  small = λ i h. let e = bytes_at bits i h in let g = number_small bits (8 * i) 8 in omega arith;
}

-- their bits: the ones that are written, and zero bits behind them
bytes_bit : (bits : List Bool) (p : ℕ) → p < 8 * length (bytes_of bits)
    → bit_at (bytes_of bits) p ≡ digit (get_or bits p false)
bytes_bit bits p h =
    let i : ℕ = p / 8 in
    let j : ℕ = p % 8 in
    let e : p ≡ 8 * i + j = omega arith in
    ap (bit_at (bytes_of bits)) e
    ∙ bit_in_byte (bytes_of bits) i j (omega arith)
    ∙ ap (λ (b : ℕ). b / 2 ^ (7 - j) % 2) (bytes_at bits i (omega arith))
    ∙ bit_of_number bits (8 * i) 8 j (7 - j) (omega arith)
    ∙ ap (λ (x : ℕ). digit (get_or bits x false)) (sym e)

-- ---- numbers of equal bits, and of zero bits
number_as : (s : List ℕ) (bits : List Bool) (p w : ℕ)
    → ((j : ℕ) → j < w → bit_at s (p + j) ≡ digit (get_or bits (p + j) false)) → number_at s p w ≡ number_in bits p w
unfolding number_at number_in
number_as s bits p zero f = refl
number_as s bits p (suc w) f =
    let e = number_as s bits p w (λ j h. f j (omega arith)) in let g = f w (omega arith) in omega arith

zero_number : (s : List ℕ) (p w : ℕ) → ((j : ℕ) → j < w → bit_at s (p + j) ≡ 0) → number_at s p w ≡ 0
unfolding number_at
zero_number s p zero f = refl
zero_number s p (suc w) f =
    let e = zero_number s p w (λ j h. f j (omega arith)) in let g = f w (omega arith) in omega arith

number_zero : (s : List ℕ) (p w : ℕ) → number_at s p w ≡ 0 → (j : ℕ) → j < w → bit_at s (p + j) ≡ 0
unfolding number_at
number_zero s p zero e j h = absurd (omega arith)
number_zero s p (suc w) e j h = go (number_zero s p w (omega arith) j) (split j w h)
  where
    go : (j < w → bit_at s (p + j) ≡ 0) → (j < w) ⊎ (j ≡ w) → bit_at s (p + j) ≡ 0
    go f (inl l) = f l
    go f (inr d) = ap (λ (x : ℕ). bit_at s (p + x)) d ∙ omega arith

-- a bit past the last one
past_digit : (bits : List Bool) (p : ℕ) → length bits ≤ p → digit (get_or bits p false) ≡ 0
unfolding digit
past_digit bits p h = ap digit (get_or-eq_default bits false h)

-- ---- an image that ends with the bits that stand in it
module _ (s : List ℕ) (bits : List Bool) (f : BitsAt s 0 bits) (e : ends_at s (length bits) ≡ true) where
  size : length s ≡ (length bits + 7) / 8
  unfolding ends_at
  size = eqb-true _ _ (both_l _ _ e)

  bit_is : (p : ℕ) → p < 8 * length s → bit_at s p ≡ digit (get_or bits p false)
  unfolding ends_at padding
  bit_is p h = go (dec_le (length bits) p)
    where
      go : Dec (length bits ≤ p) → bit_at s p ≡ digit (get_or bits p false)
      go (yes l) =
          let n : ℕ = length bits in
          let z = eqb-true (number_at s n ((8 - n % 8) % 8)) 0 (both_r (eqb (length s) ((n + 7) / 8)) _ e) in
          let k = size in
          let d : p ≡ n + (p - n) = omega arith in
          ap (bit_at s) d ∙ number_zero s n ((8 - n % 8) % 8) z (p - n) (omega arith) ∙ sym (past_digit bits p l)
      go (no l) =
          let d : p ≡ 0 + p = omega arith in
          ap (bit_at s) d ∙ f.each p (omega arith)

  pub stands_bytes : Bytes s → s ≡ bytes_of bits
  stands_bytes b =
      ext_get_or 0 s (bytes_of bits) (size ∙ sym (bytes_length bits))
      (λ i h.
      sym (byte_number s i (b.small i h))
      ∙ number_as s bits (8 * i) 8 (λ j l. bit_is (8 * i + j) (omega arith))
      ∙ sym (bytes_at bits i (omega (arith, size, bytes_length bits))))

-- the bytes of bits end with them
pub bytes_stand : (bits : List Bool) → BitsAt (bytes_of bits) 0 bits
bytes_stand bits =
    let l = bytes_length bits in
    record {
      room = omega arith;
      each = λ i h. let d : 0 + i ≡ i = omega arith in ap (bit_at (bytes_of bits)) d ∙ bytes_bit bits i (omega arith);
    }

pub bytes_end : (bits : List Bool) → ends_at (bytes_of bits) (length bits) ≡ true
unfolding ends_at padding
bytes_end bits =
    let l = bytes_length bits in
    let n : ℕ = length bits in
    both_i _ _ (eq-eqb _ _ l)
    (eq-eqb _ _ (zero_number (bytes_of bits) n ((8 - n % 8) % 8)
    (λ j h. bytes_bit bits (n + j) (omega arith) ∙ past_digit bits (n + j) (omega arith))))
