-- Numbers of our register and of a listing, read with their values cut off (`specs/Comparing.antt`): what is found alike is
-- what writes the number. Assumes nothing.
use Prim.Native.Nat.{ℕ, ◌+◌, ◌-◌, ◌*◌, ◌<◌, ◌≤◌}
use mathlib.Core.Path.{◌≡◌, refl, sym, ap, ◌∙◌}
use mathlib.Core.Bool.{Bool, true, false}
use mathlib.Core.List.{List, [], ◌∷◌}
use native.Mathlib.Omega.{arith}
use native.Mathlib.Numerals.{add-one}
use native.Mathlib.Decide.{dec_le}
use lib.ListN.{length, drop, get_or, drop_of_length-le}
use lib.Seq.{drop-cons, drop-append_seam, drop-drop}
use lib.Dec.{eqb, ltb}
use borrow.Author.Tests.{ne_eqb, lt-ltb, le-ltb}
use Rattle.net.specs.Choice.{both, in_range}
use Rattle.net.proofs.Laws.{choose_true, choose_false, in_range_high}
use Rattle.net.proofs.Every.{chosen_lt}
use Rattle.lexemes.specs.Lexemes.{is_digit}
use Rattle.listing.specs.Listing.{digits_of, after_digits, value_from, writes}
use Rattle.listing.specs.Comparing.{Number, longer, cut_from, number_at, Reading, alike}
use Rattle.listing.proofs.Digits.{AllDigits, none, one, front_digits, front_after, value_grows, value_few}
use Rattle.listing.proofs.TurnLaws.{digits_one, digits_none}

-- ---- values, cut off
longer_low : (v b : ℕ) → v < 10000000000 → longer v b ≡ v * 10 + (b - 48)
unfolding longer
longer_low v b h = choose_true (ltb v 10000000000) (v * 10 + (b - 48)) v (lt-ltb v 10000000000 h)

longer_high : (v b : ℕ) → 10000000000 ≤ v → longer v b ≡ v
unfolding longer
longer_high v b h = choose_false (ltb v 10000000000) (v * 10 + (b - 48)) v (le-ltb v 10000000000 h)

cut_low : {ds : List ℕ} (v : ℕ) → AllDigits ds → value_from v ds < 10000000000 → cut_from v ds ≡ value_from v ds
unfolding cut_from value_from
cut_low v none h = refl
cut_low v (one {b = b} {ds = ds} d r) h =
    let grows = value_grows (v * 10 + (b - 48)) r in
    ap (λ (x : ℕ). cut_from x ds) (longer_low v b (omega arith)) ∙ cut_low (v * 10 + (b - 48)) r h

cut_high : (v : ℕ) (ds : List ℕ) → 10000000000 ≤ v → cut_from v ds ≡ v
unfolding cut_from
cut_high v [] h = refl
cut_high v (b ∷ ds) h = ap (λ (x : ℕ). cut_from x ds) (longer_high v b h) ∙ cut_high v ds h

cut_stays : (v : ℕ) (ds : List ℕ) → 10000000000 ≤ value_from v ds → 10000000000 ≤ cut_from v ds
unfolding cut_from value_from longer
cut_stays v [] h = h
cut_stays v (b ∷ ds) h =
    chosen_lt (λ (x : ℕ). 10000000000 ≤ cut_from x ds) v 10000000000 _ _
    (λ _. cut_stays (v * 10 + (b - 48)) ds h)
    (λ g. omega (arith, cut_high v ds g))

module _ (ours theirs : List ℕ) (a : AllDigits ours) (b : AllDigits theirs) (few : length theirs ≤ 10) where
  cut_same : Dec (10000000000 ≤ value_from 0 ours) → eqb (cut_from 0 theirs) (cut_from 0 ours) ≡ eqb (value_from 0 theirs) (value_from 0 ours)
  cut_same (yes h) =
      let low = value_few b few in
      let same = cut_low 0 b low in
      let high = cut_stays 0 ours h in
      ne_eqb (cut_from 0 theirs) (cut_from 0 ours) (λ e. omega arith)
      ∙ sym (ne_eqb (value_from 0 theirs) (value_from 0 ours) (λ e. omega arith))
  cut_same (no h) =
      let same = cut_low 0 b (value_few b few) in
      let mine = cut_low 0 a (omega arith) in
      ap (λ (x : ℕ). eqb x (cut_from 0 ours)) same ∙ ap (eqb (value_from 0 theirs)) mine

module _ (ours theirs : List ℕ) (i j : ℕ) where
  few_alike :
      (t : Bool) → in_range 1 (length (digits_of (drop j theirs))) 10 ≡ t
      → both t (eqb (cut_from 0 (digits_of (drop j theirs))) (cut_from 0 (digits_of (drop i ours))))
      ≡ both t (eqb (value_from 0 (digits_of (drop j theirs))) (value_from 0 (digits_of (drop i ours))))
  unfolding both
  few_alike true e =
      cut_same (digits_of (drop i ours)) (digits_of (drop j theirs)) (front_digits (drop i ours)) (front_digits (drop j theirs))
      (in_range_high 1 _ 10 e) (dec_le 10000000000 (value_from 0 (digits_of (drop i ours))))
  few_alike false e = refl

  pub alike_writes :
      alike (number_at ours i) (number_at theirs j) j ≡ writes (value_from 0 (digits_of (drop i ours))) (digits_of (drop j theirs))
  unfolding alike writes number_at
  alike_writes =
      let count : (j + length (digits_of (drop j theirs))) - j ≡ length (digits_of (drop j theirs)) = omega arith in
      ap (λ (n : ℕ). both (in_range 1 n 10) (eqb (cut_from 0 (digits_of (drop j theirs))) (cut_from 0 (digits_of (drop i ours))))) count
      ∙ few_alike (in_range 1 (length (digits_of (drop j theirs))) 10) refl

-- ---- digits being read
module _ (s : List ℕ) (from : ℕ) where
  pub reading_begin : Reading s from 0 from
  reading_begin = record { value_is = refl; next_is = refl }

  pub reading_more :
      (value next b w : ℕ) (digital : Bool) → Reading s from value next → next < length s → b ≡ get_or s next 0 → digital ≡ is_digit b
      → digital ≡ true → w ≡ longer value b → Reading s from w (next + 1)
  unfolding cut_from
  reading_more value next b w digital l h e d t f =
      let more : digits_of (drop next s) ≡ b ∷ digits_of (drop (next + 1) s) =
      ap digits_of (drop-cons s next 0 h ∙ (λ k. sym e k ∷ drop (sym (add-one next) k) s))
      ∙ digits_one b (drop (next + 1) s) (sym d ∙ t) in
      let long = ap length more in
      record {
        value_is = ap (λ (v : ℕ). cut_from v (digits_of (drop (next + 1) s))) f ∙ sym (ap (cut_from value) more) ∙ l.value_is;
        next_is = omega (arith, long, l.next_is);
      }

  read_whole : (value next : ℕ) → Reading s from value next → digits_of (drop next s) ≡ [] → record { value = value; next = next } ≡ number_at s from
  unfolding number_at cut_from
  read_whole value next l e =
      let long = ap length e in
      let v : value ≡ cut_from 0 (digits_of (drop from s)) = sym (ap (cut_from value) e) ∙ l.value_is in
      let n : next ≡ from + length (digits_of (drop from s)) = omega (arith, long, l.next_is) in
      λ k. record { value = v k; next = n k }

  pub reading_stop :
      (value next b : ℕ) (digital : Bool) → Reading s from value next → next < length s → b ≡ get_or s next 0 → digital ≡ is_digit b
      → digital ≡ false → record { value = value; next = next } ≡ number_at s from
  reading_stop value next b digital l h e d f =
      read_whole value next l
      (ap digits_of (drop-cons s next 0 h) ∙ digits_none (get_or s next 0) _ (ap is_digit (sym e) ∙ sym d ∙ f))

  pub reading_end : (value next : ℕ) → Reading s from value next → length s ≤ next → record { value = value; next = next } ≡ number_at s from
  unfolding digits_of
  reading_end value next l h = read_whole value next l (ap digits_of (drop_of_length-le s h))

  pub number_past : (other : Number) → other ≡ number_at s from → from ≤ other.next
  unfolding number_at
  number_past other e = let n = ap (λ (x : Number). x.next) e in omega (arith, n)

  -- what stands after a number
  pub after_number_law : drop (number_at s from).next s ≡ after_digits (drop from s)
  unfolding number_at
  after_number_law =
      sym (drop-drop (length (digits_of (drop from s))) from s)
      ∙ ap (drop (length (digits_of (drop from s)))) (sym (front_after (drop from s)))
      ∙ drop-append_seam (digits_of (drop from s)) (after_digits (drop from s))
