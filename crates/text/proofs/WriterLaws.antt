-- Laws of writers (`specs/Writer.antt`). Assumes nothing.
use Rattle.std.proofs.Common.{◌%◌, ◌/◌, Option, None, Some, set, take, get_or, add-one, ◌≡◌, ℕ, ◌+◌, ◌<◌, ◌≤◌, List, [], ◌∷◌, ◌++◌, length, refl, sym, ap, ◌∙◌, arith, true, false, Bool, min, max, ltb}
use Rattle.std.specs.Prelude.{◌||◌, if◌then◌else◌, leb}
use native.Mathlib.Decide.{dec_le}
use lib.ListN.{length-append}
use lib.Seq.{take-suc}
use borrow.Author.Tests.{lt-ltb, le-ltb, lt-leb, le-leb, both_ways, ltb-true}
use Rattle.text.specs.Buffer.{over}
use Rattle.text.specs.Joined.{joined}
use Rattle.text.specs.Writer.{after, written, fitted}
use Rattle.text.specs.declared.writer.Writer.{Writer}
use lib.IntN.{ℤ, pos, negsuc, nat_abs}
use lib.Signed.{lt_z}
use mir.Syntax.{w32, w64}
use mir.Val.{Fits, SFits, to_z, of_z}
use mir.Facts.{to_z-of_z}
use Rattle.text.specs.Decimal.{digit, decimal, signed_decimal}
use Rattle.text.proofs.DecimalLaws.{decimal_digit, decimal_more}
use Rattle.text.proofs.WritingLaws.{over_past, over_both, over_length}

-- ---- the place and the mark of a full buffer
module _ (at a b l : ℕ) where
  place_twice : min (min (at + a) (max at l) + b) (max (min (at + a) (max at l)) l) ≡ min (at + (a + b)) (max at l)
  place_twice = omega arith

  full_twice :
      (f : Bool) → ((f || ltb (max at l) (at + a)) || ltb (max (min (at + a) (max at l)) l) (min (at + a) (max at l) + b))
      ≡ (f || ltb (max at l) (at + (a + b)))
  full_twice true = refl
  full_twice false = go (dec_le (at + a) (max at l))
    where
      go : Dec (at + a ≤ max at l) → (ltb (max at l) (at + a) || ltb (max (min (at + a) (max at l)) l) (min (at + a) (max at l) + b)) ≡ ltb (max at l) (at + (a + b))
      go (yes p) =
          let e : max (min (at + a) (max at l)) l ≡ max at l = omega arith in
          let d : min (at + a) (max at l) + b ≡ at + (a + b) = omega arith in
          rw (le-ltb (max at l) (at + a) p, e, d)
      go (no p) =
          let h : max at l < at + a = omega arith in
          let k : max at l < at + (a + b) = omega arith in
          rw (lt-ltb (max at l) (at + a) h, lt-ltb (max at l) (at + (a + b)) k)

-- a writer by its parts
same_writer :
    {A : Type 0} (w : Writer A) (xs : List A) (at : ℕ) (full : Bool) → xs ≡ w.out.now → at ≡ w.at → full ≡ w.full
    → record { out = record { ref_ptr = w.out.ref_ptr; ghost_name = w.out.ghost_name; now = xs }; at = at; full = full } ≡ w
same_writer {A} w xs at full e p f = parts w.out.now w.at w.full e p f
  where
    parts :
        (ys : List A) (n : ℕ) (b : Bool) → xs ≡ ys → at ≡ n → full ≡ b
        → ◌≡◌ {A = Writer A} (record { out = record { ref_ptr = w.out.ref_ptr; ghost_name = w.out.ghost_name; now = xs }; at = at; full = full })
        (record { out = record { ref_ptr = w.out.ref_ptr; ghost_name = w.out.ghost_name; now = ys }; at = n; full = b })
    parts ys n b e p f = cc

-- ---- texts one after another
module _ {A : Type 0} (w : Writer A) where
  over_twice :
      (a b : List A) → over (over w.out.now w.at a) (min (w.at + length a) (max w.at (length w.out.now))) b
      ≡ over w.out.now w.at (a ++ b)
  over_twice a b = go (dec_le (w.at + length a) (max w.at (length w.out.now)))
    where
      go : Dec (w.at + length a ≤ max w.at (length w.out.now)) → over (over w.out.now w.at a) (min (w.at + length a) (max w.at (length w.out.now))) b
          ≡ over w.out.now w.at (a ++ b)
      go (yes p) =
          let e : min (w.at + length a) (max w.at (length w.out.now)) ≡ w.at + length a = omega arith in
          rw e (over_both w.out.now w.at a b)
      go (no p) =
          let l = over_length w.out.now w.at a in
          let e : min (w.at + length a) (max w.at (length w.out.now)) ≡ max w.at (length w.out.now) = omega arith in
          rw e (over_past (over w.out.now w.at a) _ b (omega (arith, l))
          ∙ sym (over_past (over w.out.now w.at a) (w.at + length a) b (omega (arith, l)))
          ∙ over_both w.out.now w.at a b)

  pub after_none : after w [] ≡ w
  unfolding after over
  after_none =
      let p : min (w.at + 0) (max w.at (length w.out.now)) ≡ w.at = omega arith in
      let f : (w.full || ltb (max w.at (length w.out.now)) (w.at + 0)) ≡ w.full = none_full w.full in
      same_writer w _ _ _ refl p f
    where
      none_full : (f : Bool) → (f || ltb (max w.at (length w.out.now)) (w.at + 0)) ≡ f
      none_full true = refl
      none_full false = le-ltb (max w.at (length w.out.now)) (w.at + 0) (omega arith)

  pub after_both : (a b : List A) → after (after w a) b ≡ after w (a ++ b)
  unfolding after
  after_both a b =
      let e = over_twice a b in
      let l = over_length w.out.now w.at a in
      let n = length-append a b in
      let p = place_twice w.at (length a) (length b) (length w.out.now) in
      let f = full_twice w.at (length a) (length b) (length w.out.now) w.full in
      cc

  -- an element that fits, and one that doesn't
  pub after_one :
      (x : A) → w.at < length w.out.now
      → record { out = record { ref_ptr = w.out.ref_ptr; ghost_name = w.out.ghost_name; now = set w.out.now w.at x }; at = w.at + 1; full = w.full }
      ≡ after w (x ∷ [])
  unfolding after over
  after_one x h =
      let p : min (w.at + 1) (max w.at (length w.out.now)) ≡ w.at + 1 = omega arith in
      let f : (w.full || ltb (max w.at (length w.out.now)) (w.at + 1)) ≡ w.full = rw (le-ltb (max w.at (length w.out.now)) (w.at + 1) (omega arith)) (or_false w.full) in
      cc
    where
      or_false : (f : Bool) → (f || false) ≡ f
      or_false true = refl
      or_false false = refl

  pub after_past : (x : A) → length w.out.now ≤ w.at → record { out = w.out; at = w.at; full = true } ≡ after w (x ∷ [])
  unfolding after
  after_past x h =
      let o : over w.out.now w.at (x ∷ []) ≡ w.out.now = over_past w.out.now w.at (x ∷ []) h in
      let p : min (w.at + 1) (max w.at (length w.out.now)) ≡ w.at = omega arith in
      let f : (w.full || ltb (max w.at (length w.out.now)) (w.at + 1)) ≡ true = rw (lt-ltb (max w.at (length w.out.now)) (w.at + 1) (omega arith)) (or_true w.full) in
      sym (same_writer (record { out = w.out; at = w.at; full = true }) _ _ _ o p f)
    where
      or_true : (f : Bool) → (f || true) ≡ true
      or_true true = refl
      or_true false = refl

  -- elements of a list, one after another
  pub after_more :
      (v : Writer A) (i : ℕ) (xs : List A) (x : A) → v ≡ after w (take i xs) → i < length xs → x ≡ get_or xs i x
      → after v (x ∷ []) ≡ after w (take (i + 1) xs)
  after_more v i xs x e h d =
      let t : take (i + 1) xs ≡ take i xs ++ get_or xs i x ∷ [] = ap (λ (j : ℕ). take j xs) (add-one i) ∙ take-suc xs i x h in
      rw (e, after_both, t, ← d)

-- ---- one text after another, as steps of a proof
module _ {A : Type 0} (w : Writer A) where
  pub after_then : (v u : Writer A) (a b : List A) → v ≡ after w a → u ≡ after v b → u ≡ after w (a ++ b)
  after_then v u a b d e = rw (e, d, after_both) refl

  -- parts, in a loop
  module _ (f : ℕ → List A) where
    pub joined_start : w ≡ after w (joined 0 f)
    unfolding joined
    joined_start = sym (after_none w)

    pub joined_step : (v u : Writer A) (i : ℕ) → v ≡ after w (joined i f) → u ≡ after v (f i) → u ≡ after w (joined (i + 1) f)
    unfolding joined
    joined_step v u i d e = rw (add-one, e, d, after_both) refl

-- ---- a writer from a buffer's start, after a text
module _ {A : Type 0} (w v : Writer A) (xs text : List A) (n : w.out.now ≡ xs) (a : w.at ≡ 0) (f : w.full ≡ false) (e : v ≡ after w text) where
  pub started_text : v.out.now ≡ over xs 0 text
  unfolding after
  started_text = rw (e, ← n, a) refl

  pub started_written : (r : Option ℕ) → r ≡ written v → r ≡ fitted text (length xs)
  unfolding after written fitted
  started_written r d = rw (d, e, ← n, f, a) (go (dec_le (length text) (length w.out.now)))
    where
      go : Dec (length text ≤ length w.out.now)
          → (if ltb (max 0 (length w.out.now)) (0 + length text) then None else Some (min (0 + length text) (max 0 (length w.out.now))))
          ≡ (if leb (length text) (length w.out.now) then Some (length text) else None)
      go (yes p) =
          let m : min (0 + length text) (max 0 (length w.out.now)) ≡ length text = omega arith in
          rw (le-ltb (max 0 (length w.out.now)) (0 + length text) (omega arith), le-leb (length text) (length w.out.now) p, m) refl
      go (no p) = rw (lt-ltb (max 0 (length w.out.now)) (0 + length text) (omega arith), lt-leb (length text) (length w.out.now) (omega arith)) refl

-- ---- decimal numbers
module _ (w v : Writer ℕ) (n : ℕ) where
  pub after_digit : n < 10 → v ≡ after w (digit (n % 10) ∷ []) → v ≡ after w (decimal n)
  after_digit h e = let d : n % 10 ≡ n = omega arith in rw (← decimal_digit n h, ← d) e

  pub after_digits : (u : Writer ℕ) → 10 ≤ n → Fits w64 n → u ≡ after w (decimal (n / 10)) → v ≡ after u (digit (n % 10) ∷ []) → v ≡ after w (decimal n)
  after_digits u h f d e = rw (← decimal_more n h f.fits, ← after_both, ← d) e

-- ---- signed numbers
upward : (y : ℤ) → lt_z y (pos 0) ≡ false → decimal (nat_abs y) ≡ signed_decimal y
unfolding signed_decimal
upward (pos n) h = refl
upward (negsuc n) h = absurd (both_ways _ h refl)

downward : (y : ℤ) → lt_z y (pos 0) ≡ true → 45 ∷ decimal (nat_abs y) ≡ signed_decimal y
unfolding signed_decimal
downward (pos n) h = absurd (omega (arith, ltb-true n 0 h))
downward (negsuc n) h = ap (λ (m : ℕ). 45 ∷ decimal m) (omega arith)

module _ (w v : Writer ℕ) (x : ℤ) (s : SFits w32 x) (n : ℕ) (a : n ≡ nat_abs (to_z w32 (of_z w32 x))) where
  pub after_up : lt_z (to_z w32 (of_z w32 x)) (pos 0) ≡ false → v ≡ after w (decimal n) → v ≡ after w (signed_decimal x)
  after_up h e = rw (e, a, to_z-of_z s, upward x (rw (to_z-of_z s) at h)) refl

  pub after_down :
      (u : Writer ℕ) → lt_z (to_z w32 (of_z w32 x)) (pos 0) ≡ true → u ≡ after w (45 ∷ []) → v ≡ after u (decimal n)
      → v ≡ after w (signed_decimal x)
  after_down u h d e = rw (e, d, after_both, a, to_z-of_z s, ← downward x (rw (to_z-of_z s) at h)) refl

-- what a function that writes one text after another stands on, with or without a loop
pub ruleset writing = (after_none, after_both, joined_start, joined_step)
