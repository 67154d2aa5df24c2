-- The fields of an image that stand in several places (`specs/Fields.antt`, `specs/ImageOf.antt`): what is read there is
-- what is written there. In what follows n is the address count and k the code length.
-- Assumes nothing.
use Prim.Native.Nat.{ℕ, ◌+◌, ◌-◌, ◌*◌, ◌/◌, ◌%◌, ◌^◌, ◌<◌, ◌≤◌}
use mathlib.Core.Path.{◌≡◌, refl, ap, ◌∙◌}
use mathlib.Core.Bool.{Bool, true, false}
use native.Mathlib.Omega.{arith}
use native.Mathlib.Decide.{dec_le}
use lib.Dec.{eqb}
use lib.IntN.{ℤ}
use borrow.Author.Tests.{ltb-true, lt-ltb, le-ltb}
use Rattle.net.specs.Records.{address_of, place_of}
use Rattle.written.specs.Types.{Rights}
use Rattle.text.specs.Signed.{signed}
use Rattle.bitreader.specs.Fields.{address, reading}
use Rattle.bitreader.specs.Fields.{place, variable}
use Rattle.image.specs.Image.{is_set_bit, rights_of}
use Rattle.written.specs.ImageOf.{bits_of, address_bits, place_bits, variable_bits, reading_bits, rights_bits, digit}
use Rattle.fresh.specs.Fresh.{reading_fits}
use Rattle.net.proofs.Laws.{choose_true, choose_false}
use Rattle.written.proofs.ReadsWrites.{Reads, reads_map, reads_field, reads_bits}

pub reads_address : (n : ℕ) → n ≤ 16 → Reads (address n) address_bits (λ l. l.0 < n)
unfolding address address_bits
reads_address n h =
    reads_map (λ (l : ℕ). address_of l) (reads_field 4 0 n 23 (omega arith))
    (λ l x. x.below) (λ l x. refl) (λ b x. (b.0, record { above = omega arith; below = x }, refl))

pub reads_place : (k : ℕ) → k ≤ 512 → Reads (place k) place_bits (λ p. p.0 < k)
unfolding place place_bits
reads_place k h =
    reads_map (λ (p : ℕ). place_of p) (reads_field 9 0 k 24 (omega arith))
    (λ p x. x.below) (λ p x. refl) (λ b x. (b.0, record { above = omega arith; below = x }, refl))

pub reads_variable : Reads variable variable_bits (λ v. v < 8)
unfolding variable variable_bits
reads_variable = reads_bits 3

-- ---- readings
signed_low : (v : ℕ) → v < 2147483648 → signed v ≡ ℤ.pos v
unfolding signed
signed_low v h = choose_true _ _ _ (lt-ltb v 2147483648 h)

signed_high : (v : ℕ) → 2147483648 ≤ v → signed v ≡ ℤ.negsuc (4294967295 - v)
unfolding signed
signed_high v h = choose_false _ _ _ (le-ltb v 2147483648 h)

reading_fits_law : (v : ℕ) → v < 2 ^ 32 → reading_fits (signed v) ≡ true
unfolding reading_fits
reading_fits_law v h = go (dec_le 2147483648 v)
  where
    go : Dec (2147483648 ≤ v) → reading_fits (signed v) ≡ true
    go (yes l) = ap reading_fits (signed_high v l) ∙ lt-ltb (4294967295 - v) 2147483648 (omega arith)
    go (no l) = ap reading_fits (signed_low v (omega arith)) ∙ lt-ltb v 2147483648 (omega arith)

reading_written : (v : ℕ) → v < 2 ^ 32 → reading_bits (signed v) ≡ bits_of 32 v
unfolding reading_bits
reading_written v h = go (dec_le 2147483648 v)
  where
    go : Dec (2147483648 ≤ v) → reading_bits (signed v) ≡ bits_of 32 v
    go (yes l) =
        let e : 4294967295 - (4294967295 - v) ≡ v = omega arith in
        ap reading_bits (signed_high v l) ∙ ap (bits_of 32) e
    go (no l) = ap reading_bits (signed_low v (omega arith))

reading_parts : (x : ℤ) → reading_fits x ≡ true → (v : ℕ) × (v < 2 ^ 32) × (signed v ≡ x)
unfolding reading_fits
reading_parts (ℤ.pos v) h =
    let l = ltb-true v 2147483648 h in
    (v, omega arith, signed_low v l)
reading_parts (ℤ.negsuc v) h =
    let l = ltb-true v 2147483648 h in
    let e : 4294967295 - (4294967295 - v) ≡ v = omega arith in
    (4294967295 - v, omega arith, signed_high (4294967295 - v) (omega arith) ∙ ap ℤ.negsuc e)

pub reads_reading : Reads reading reading_bits (λ x. reading_fits x ≡ true)
unfolding reading
reads_reading = reads_map signed (reads_bits 32) reading_fits_law reading_written reading_parts

-- ---- rights
pub rights_written : (v : ℕ) → v < 2 ^ 4 → rights_bits (rights_of v) ≡ bits_of 4 v
unfolding rights_bits rights_of is_set_bit bits_of
rights_written v h =
    let a : v / 8 % 2 ≡ v / 2 / 2 / 2 % 2 = omega arith in
    let b : v / 4 % 2 ≡ v / 2 / 2 % 2 = omega arith in
    let c : v / 1 % 2 ≡ v % 2 = omega arith in
    rw (a, b, c)

pub digit_set : (b : Bool) (v : ℕ) → v ≡ digit b → eqb v 1 ≡ b
unfolding digit
digit_set true v e = ap (λ (x : ℕ). eqb x 1) e
digit_set false v e = ap (λ (x : ℕ). eqb x 1) e

pub digit_small : (b : Bool) → digit b < 2
unfolding digit
digit_small true = omega arith
digit_small false = omega arith

pub rights_parts : (r : Rights) → (v : ℕ) × (v < 2 ^ 4) × (rights_of v ≡ r)
unfolding rights_of is_set_bit
rights_parts r =
    let t : ℕ = digit r.take in
    let d : ℕ = digit r.read in
    let p : ℕ = digit r.put in
    let e : ℕ = digit r.send in
    let ht : t < 2 = digit_small r.take in
    let hd : d < 2 = digit_small r.read in
    let hp : p < 2 = digit_small r.put in
    let he : e < 2 = digit_small r.send in
    let v : ℕ = t * 8 + d * 4 + p * 2 + e in
    let f = digit_set r.take (v / 8 % 2) (omega arith) in
    let g = digit_set r.read (v / 4 % 2) (omega arith) in
    let h = digit_set r.put (v / 2 % 2) (omega arith) in
    let i = digit_set r.send (v / 1 % 2) (omega arith) in
    (v, omega arith, rw (f, g, h, i))
