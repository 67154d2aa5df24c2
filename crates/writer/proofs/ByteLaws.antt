-- Laws of the packing of bits into bytes (`src/bytes.rt`). Assumes nothing.
use Prim.Native.Nat.{ℕ, zero, suc, ◌+◌, ◌-◌, ◌*◌, ◌<◌, ◌≤◌}
use mathlib.Core.Path.{◌≡◌, refl, sym, ap, subst, ◌∙◌}
use mathlib.Core.Bool.{Bool, true, false}
use mathlib.Core.List.{List, [], ◌∷◌, ◌++◌}
use native.Mathlib.Omega.{arith}
use lib.Dec.{leb}
use lib.ListN.{length, get_or, set, get_or-eq_default}
use borrow.Author.Tests.{le-leb, lt-leb}
use Rattle.std.specs.Prelude.{Ok, Err}
use Rattle.net.proofs.Laws.{choose_true, choose_false}
use Rattle.text.specs.Buffer.{over}
use Rattle.writer.specs.Calls.{Unwritten, placed_of, placed_in}
use Rattle.written.specs.ImageOf.{digit, number_in}
use Rattle.text.specs.Joined.{joined}
use Rattle.writer.specs.Packing.{bytes_in}
use Rattle.text.proofs.WritingLaws.{over_both}
use Rattle.written.proofs.WrittenBytes.{number_small, listed_length}

-- ---- a bit as a number
pub digit_set : (b : Bool) → b ≡ true → 1 ≡ digit b
unfolding digit
digit_set b e = rw e

pub digit_clear : (b : Bool) → b ≡ false → 0 ≡ digit b
unfolding digit
digit_clear b e = rw e

pub digit_past : (bits : List Bool) (at : ℕ) → length bits ≤ at → 0 ≡ digit (get_or bits at false)
digit_past bits at h = digit_clear _ (get_or-eq_default bits false h)

-- ---- eight bits
module _ (bits : List Bool) (at : ℕ) where
  pub number_start : 0 ≡ number_in bits at 0
  unfolding number_in
  number_start = refl

  step : (n bit w : ℕ) → n ≡ number_in bits at w → bit ≡ digit (get_or bits (at + w) false)
      → n * 2 + bit ≡ number_in bits at (suc w)
  unfolding number_in
  step n bit w e d = ap (λ (m : ℕ). m * 2 + bit) e ∙ ap (λ (m : ℕ). number_in bits at w * 2 + m) d

  pub number_next :
      (n bit w : ℕ) → n ≡ number_in bits at w → bit ≡ digit (get_or bits (at + w) false)
      → n * 2 + bit ≡ number_in bits at (w + 1)
  number_next n bit w e d = step n bit w e d ∙ ap (number_in bits at) (omega arith)

  -- with more bits no smaller
  grows : (w v k : ℕ) → v + w ≡ k → number_in bits at w ≤ number_in bits at k
  unfolding number_in
  grows w zero k e =
      let d : w ≡ k = omega arith in
      let same : number_in bits at w ≤ number_in bits at w = omega arith in
      subst (λ (j : ℕ). number_in bits at w ≤ number_in bits at j) d same
  grows w (suc v) zero e = absurd (omega arith)
  grows w (suc v) (suc k) e = let h = grows w v k (omega arith) in omega arith

  small : (w : ℕ) → w ≤ 8 → number_in bits at w < 256
  small w h = let g = number_small bits at 8 in let f = grows w (8 - w) 8 (omega arith) in omega arith

  pub number_within :
      (n bit w : ℕ) → n ≡ number_in bits at w → bit ≡ digit (get_or bits (at + w) false) → w < 8 → n * 2 + bit < 256
  number_within n bit w e d h = let g = small (suc w) (omega arith) in let f = step n bit w e d in omega arith

  pub number_done : (n w : ℕ) → n ≡ number_in bits at w → w ≤ 8 → 8 ≤ w → n ≡ number_in bits at 8
  number_done n w e h g = e ∙ ap (number_in bits at) (omega arith)

-- ---- bytes
bytes_count : (bits : List Bool) (n : ℕ) → length (bytes_in bits n) ≡ n
unfolding bytes_in
bytes_count bits n = listed_length (λ i. number_in bits (8 * i) 8) n

module _ (xs : List ℕ) (bits : List Bool) where
  pub bytes_start : xs ≡ over xs 0 (bytes_in bits 0)
  unfolding over bytes_in joined
  bytes_start = refl

  more : (ys : List ℕ) (i b : ℕ) → ys ≡ over xs 0 (bytes_in bits i) → b ≡ number_in bits (8 * i) 8
      → set ys i b ≡ over xs 0 (bytes_in bits i ++ (number_in bits (8 * i) 8 ∷ []))
  unfolding over
  more ys i b e d =
      ap (λ (zs : List ℕ). set zs i b) e
      ∙ ap (λ (c : ℕ). set (over xs 0 (bytes_in bits i)) i c) d
      ∙ ap (λ (j : ℕ). set (over xs 0 (bytes_in bits i)) j (number_in bits (8 * i) 8)) (let l = bytes_count bits i in omega arith)
      ∙ over_both xs 0 (bytes_in bits i) (number_in bits (8 * i) 8 ∷ [])

  joins : (i : ℕ) → bytes_in bits i ++ (number_in bits (8 * i) 8 ∷ []) ≡ bytes_in bits (suc i)
  unfolding bytes_in joined
  joins i = refl

  pub bytes_next :
      (ys : List ℕ) (i b : ℕ) → ys ≡ over xs 0 (bytes_in bits i) → b ≡ number_in bits (8 * i) 8
      → set ys i b ≡ over xs 0 (bytes_in bits (i + 1))
  bytes_next ys i b e d =
      more ys i b e d ∙ ap (over xs 0) (joins i) ∙ ap (λ (j : ℕ). over xs 0 (bytes_in bits j)) (omega arith)

  pub bytes_done :
      (ys : List ℕ) (i n : ℕ) → ys ≡ over xs 0 (bytes_in bits i) → i ≤ n → n ≤ i → ys ≡ over xs 0 (bytes_in bits n)
  bytes_done ys i n e h g = e ∙ ap (λ (j : ℕ). over xs 0 (bytes_in bits j)) (omega arith)

-- ---- what packing gives
module _ (bits : List Bool) (n : ℕ) where
  pub packed_whole : (room : ℕ) → n ≤ room → Ok n ≡ placed_of (length (bytes_in bits n)) room
  unfolding placed_of
  packed_whole room h =
      rw (bytes_count bits n) (sym (choose_true (leb n room) (Ok n) (Err Unwritten.NoRoom) (le-leb n room h)))

  pub packed_cut : (room : ℕ) → room < n → Err Unwritten.NoRoom ≡ placed_of (length (bytes_in bits n)) room
  unfolding placed_of
  packed_cut room h =
      rw (bytes_count bits n) (sym (choose_false (leb n room) (Ok n) (Err Unwritten.NoRoom) (lt-leb n room h)))

  pub placed_whole :
      (xs ys : List ℕ) → n ≤ length xs → ys ≡ over xs 0 (bytes_in bits n) → ys ≡ placed_in (bytes_in bits n) xs
  unfolding placed_in
  placed_whole xs ys h e =
      let l = bytes_count bits n in
      e ∙ sym (choose_true _ _ xs (le-leb (length (bytes_in bits n)) (length xs) (omega arith)))

  pub placed_cut : (xs : List ℕ) → length xs < n → xs ≡ placed_in (bytes_in bits n) xs
  unfolding placed_in
  placed_cut xs h =
      let l = bytes_count bits n in
      sym (choose_false _ (over xs 0 (bytes_in bits n)) xs (lt-leb (length (bytes_in bits n)) (length xs) (omega arith)))
