-- Comparing the bytes of our register with those of a listing (`specs/Comparing.antt`) gives what checking the lines gives.
-- Assumes nothing.
use Prim.Native.Nat.{ℕ, ◌+◌, ◌<◌, ◌≤◌}
use mathlib.Core.Path.{◌≡◌, refl, sym, ap, subst, ◌∙◌}
use mathlib.Core.Bool.{Bool, true, false, not}
use mathlib.Core.List.{List, [], ◌∷◌, ◌++◌, append_assoc}
use native.Mathlib.Omega.{arith}
use lib.ListN.{length, drop, length-append}
use lib.Dec.{eqb}
use borrow.Author.Tests.{ne_eqb, eqb-true, eqb-false, not-true}
use Rattle.std.specs.Prelude.{Err}
use Rattle.net.specs.Choice.{choose, both, in_range}
use Rattle.net.proofs.Laws.{both_l, both_r, choose_true, choose_false}
use Rattle.net.proofs.Every.{chosen}
use Rattle.text.specs.Decimal.{decimal, signed_decimal}
use Rattle.lexemes.specs.Lexemes.{is_digit}
use Rattle.lines.specs.Words.{Word, word_text, spaced, line_text, printed}
use Rattle.listing.specs.Listing.{Checked, Mismatch, at_front, listed, byte_then, text_then, digits_of, after_digits, value_from, writes, number_then}
use Rattle.listing.specs.Listing.{word_then, words_then, nothing_left, line_ends, carries, checked_from}
use Rattle.listing.specs.Comparing.{stands_first, parted_at, comparing}
use Rattle.listing.proofs.Digits.{AllDigits, none, one, digit_low, Quiet, quiet_byte, digits_front, digits_after, plain_digits, plain_some, plain_value}
use Rattle.listing.proofs.Carrying.{quiet_low}
use Rattle.listing.proofs.Agreeing.{Each, nil, cons, plain, Fine, label, value, upward, downward, located, FineLines, Short}
use Rattle.listing.proofs.FirstBytes.{left_over}
use Rattle.listing.proofs.TurnLaws.{by_test, byte_turn, number_turn}

-- ---- the first line of some bytes, and what stands after it
first_line : List ℕ → List ℕ
first_line [] = []
first_line (b ∷ bs) = choose (eqb b 10) (b ∷ []) (b ∷ first_line bs)

after_line : List ℕ → List ℕ
after_line [] = []
after_line (b ∷ bs) = choose (eqb b 10) bs (after_line bs)

-- each by whether the first byte is a newline
first_ends : (b : ℕ) (bs : List ℕ) → eqb b 10 ≡ true → first_line (b ∷ bs) ≡ b ∷ []
unfolding first_line
first_ends b bs e = choose_true (eqb b 10) (b ∷ []) (b ∷ first_line bs) e

first_goes : (b : ℕ) (bs : List ℕ) → eqb b 10 ≡ false → first_line (b ∷ bs) ≡ b ∷ first_line bs
unfolding first_line
first_goes b bs e = choose_false (eqb b 10) (b ∷ []) (b ∷ first_line bs) e

after_ends : (b : ℕ) (bs : List ℕ) → eqb b 10 ≡ true → after_line (b ∷ bs) ≡ bs
unfolding after_line
after_ends b bs e = choose_true (eqb b 10) bs (after_line bs) e

after_goes : (b : ℕ) (bs : List ℕ) → eqb b 10 ≡ false → after_line (b ∷ bs) ≡ after_line bs
unfolding after_line
after_goes b bs e = choose_false (eqb b 10) bs (after_line bs) e

-- they are the first one listed, and those after it
front_listed : (b : ℕ) (bs : List ℕ) → listed bs ≡ first_line bs ∷ listed (after_line bs) → at_front b (listed bs) ≡ (b ∷ first_line bs) ∷ listed (after_line bs)
unfolding at_front
front_listed b bs e = ap (at_front b) e

listed_goes : (b : ℕ) (bs : List ℕ) → at_front b (listed bs) ≡ (b ∷ first_line bs) ∷ listed (after_line bs) → listed (b ∷ bs) ≡ first_line (b ∷ bs) ∷ listed (after_line (b ∷ bs))
unfolding listed
listed_goes b bs front =
    by_test (eqb b 10)
    (λ e. choose_true (eqb b 10) ((b ∷ []) ∷ listed bs) (at_front b (listed bs)) e
    ∙ (λ i. sym (first_ends b bs e) i ∷ listed (sym (after_ends b bs e) i)))
    (λ e. choose_false (eqb b 10) ((b ∷ []) ∷ listed bs) (at_front b (listed bs)) e ∙ front
    ∙ (λ i. sym (first_goes b bs e) i ∷ listed (sym (after_goes b bs e) i)))

listed_first : (b : ℕ) (bs : List ℕ) → listed (b ∷ bs) ≡ first_line (b ∷ bs) ∷ listed (after_line (b ∷ bs))
unfolding listed at_front first_line after_line
listed_first b [] = listed_goes b [] refl
listed_first b (c ∷ bs) = listed_goes b (c ∷ bs) (front_listed b (c ∷ bs) (listed_first c bs))

-- ---- a test of the first line is one of the bytes from its beginning
record Same (next here : List ℕ → Bool) : Type 0 where
  at : (bs : List ℕ) → next (first_line bs) ≡ here bs

anything : List ℕ → Bool
anything bs = true

none_of : (c b : ℕ) (x y : Bool) → eqb c b ≡ false → both (eqb c b) x ≡ both (eqb c b) y
unfolding both
none_of c b x y e = ap (λ (t : Bool). both t x) e ∙ sym (ap (λ (t : Bool). both t y) e)

module _ (next here : List ℕ → Bool) (h : Same next here) (b : ℕ) (n : eqb b 10 ≡ false) where
  byte_at : (bs : List ℕ) → byte_then b next (first_line bs) ≡ byte_then b here bs
  unfolding byte_then first_line
  byte_at [] = refl
  byte_at (c ∷ bs) =
      by_test (eqb c 10)
      (λ e. ap (byte_then b next) (first_ends c bs e)
      ∙ none_of c b _ _ (ne_eqb c b (λ d. eqb-false b 10 n (sym d ∙ eqb-true c 10 e))))
      (λ e. ap (byte_then b next) (first_goes c bs e) ∙ ap (both (eqb c b)) (h.at bs))

byte_same : {next here : List ℕ → Bool} (b : ℕ) → eqb b 10 ≡ false → Same next here → Same (byte_then b next) (byte_then b here)
byte_same {next} {here} b n h = record { at = byte_at next here h b n }

digit_not_end : (b : ℕ) → is_digit b ≡ true → eqb b 10 ≡ false
digit_not_end b h = let low = digit_low b h in ne_eqb b 10 (λ e. omega arith)

-- bytes that open with no digit
quiet_first : (c : ℕ) (bs : List ℕ) → is_digit c ≡ false → Quiet (first_line (c ∷ bs))
unfolding first_line
quiet_first c bs e = chosen Quiet (eqb c 10) _ _ (λ _. quiet_byte c [] e) (λ _. quiet_byte c (first_line bs) e)

digits_same : (bs : List ℕ) → digits_of (first_line bs) ≡ digits_of bs
unfolding digits_of first_line
digits_same [] = refl
digits_same (c ∷ bs) =
    by_test (is_digit c)
    (λ e. ap digits_of (first_goes c bs (digit_not_end c e)) ∙ ap (λ (ds : List ℕ). choose (is_digit c) (c ∷ ds) []) (digits_same bs))
    (λ e. (quiet_first c bs e).no_digits ∙ sym (quiet_byte c bs e).no_digits)

after_same : (bs : List ℕ) → after_digits (first_line bs) ≡ first_line (after_digits bs)
unfolding after_digits first_line
after_same [] = refl
after_same (c ∷ bs) =
    by_test (is_digit c)
    (λ e. ap after_digits (first_goes c bs (digit_not_end c e))
    ∙ choose_true (is_digit c) (after_digits (first_line bs)) (c ∷ first_line bs) e ∙ after_same bs
    ∙ ap first_line (sym (choose_true (is_digit c) (after_digits bs) (c ∷ bs) e)))
    (λ e. (quiet_first c bs e).all_after ∙ ap first_line (sym (quiet_byte c bs e).all_after))

number_same : {next here : List ℕ → Bool} (n : ℕ) → Same next here → Same (number_then n next) (number_then n here)
unfolding number_then
number_same {next} {here} n h = record {
  at = λ bs.
      ap (λ (ds : List ℕ). both (writes n ds) (next (after_digits (first_line bs)))) (digits_same bs)
      ∙ ap (λ (rest : List ℕ). both (writes n (digits_of bs)) (next rest)) (after_same bs)
      ∙ ap (both (writes n (digits_of bs))) (h.at (after_digits bs));
}

plain_first : (b : ℕ) (text : List ℕ) → plain (b ∷ text) ≡ true → is_digit b ≡ false
unfolding plain
plain_first b text h = not-true (is_digit b) (both_l _ _ (both_l (both (not (is_digit b)) (not (eqb b 10))) _ h))

plain_goes : (b : ℕ) (text : List ℕ) → plain (b ∷ text) ≡ true → eqb b 10 ≡ false
unfolding plain
plain_goes b text h =
    not-true (eqb b 10) (both_r (not (is_digit b)) _ (both_l (both (not (is_digit b)) (not (eqb b 10))) _ h))

plain_rest : (b : ℕ) (text : List ℕ) → plain (b ∷ text) ≡ true → plain text ≡ true
unfolding plain
plain_rest b text h = both_r (both (not (is_digit b)) (not (eqb b 10))) _ h

text_same : {next here : List ℕ → Bool} (text : List ℕ) → plain text ≡ true → Same next here → Same (text_then text next) (text_then text here)
unfolding text_then
text_same [] p h = record { at = h.at }
text_same (b ∷ text) p h =
    record { at = (byte_same b (plain_goes b text p) (text_same text (plain_rest b text p) h)).at }

module _ {Q : ℕ → Type 0} where
  word_same : {next here : List ℕ → Bool} {w : Word} → Fine Q w → Same next here → Same (word_then w next) (word_then w here)
  unfolding word_then
  word_same (label {text} p) h = record { at = (text_same text p h).at }
  word_same (value {n} p) h = record { at = (number_same n h).at }
  word_same (upward {n} p) h = record { at = (number_same n h).at }
  word_same (downward {n} p) h = record { at = (byte_same 45 (ne_eqb 45 10 (λ e. omega arith)) (number_same (n + 1) h)).at }
  word_same (located {l} p) h = record { at = (byte_same 64 (ne_eqb 64 10 (λ e. omega arith)) (number_same l.0 h)).at }

  words_same : {next here : List ℕ → Bool} {ws : List Word} → Each (Fine Q) ws → Same next here → Same (words_then ws next) (words_then ws here)
  unfolding words_then
  words_same nil h = record { at = h.at }
  words_same (cons f fs) h =
      record { at = (byte_same 32 (ne_eqb 32 10 (λ e. omega arith)) (word_same f (words_same fs h))).at }

ends_at : (bs : List ℕ) → line_ends (first_line bs) ≡ byte_then 10 anything bs
unfolding line_ends byte_then nothing_left anything first_line
ends_at [] = refl
ends_at (c ∷ bs) =
    by_test (eqb c 10)
    (λ e. ap (byte_then 10 nothing_left) (first_ends c bs e))
    (λ e. ap (byte_then 10 nothing_left) (first_goes c bs e) ∙ none_of c 10 _ _ e)

ends_same : Same line_ends (byte_then 10 anything)
ends_same = record { at = ends_at }

line_there : List Word → List ℕ → Bool
line_there [] bs = byte_then 10 anything bs
line_there (w ∷ ws) bs = word_then w (words_then ws (byte_then 10 anything)) bs

line_same : {Q : ℕ → Type 0} {line : List Word} → Each (Fine Q) line → Same (carries line) (line_there line)
unfolding carries line_there
line_same nil = record { at = ends_at }
line_same (cons f fs) = record { at = (word_same f (words_same fs ends_same)).at }

-- ---- turns of the comparison, in line i
quiet_opens : (b : ℕ) (bs : List ℕ) → Quiet (b ∷ bs) → is_digit b ≡ false
unfolding digits_of
quiet_opens b bs q =
    by_test (is_digit b)
    (λ e. let z = ap length (sym (choose_true (is_digit b) (b ∷ digits_of bs) [] e) ∙ q.no_digits) in absurd (omega (arith, z)))
    (λ e. e)

module _ (i : ℕ) where
  parts : (theirs : List ℕ) → parted_at false i theirs ≡ Err (Mismatch.Differs i)
  unfolding parted_at choose
  parts [] = refl
  parts (c ∷ theirs) = refl

  -- a number of ours, and what follows it
  number_turned :
      {ds : List ℕ} (ours theirs : List ℕ) → AllDigits ds → 1 ≤ length ds → Quiet ours
      → comparing false false i (ds ++ ours) theirs
      ≡ choose (writes (value_from 0 ds) (digits_of theirs)) (comparing false false i ours (after_digits theirs)) (Err (Mismatch.Differs i))
  number_turned ours theirs none l q = absurd (omega arith)
  number_turned ours theirs (one {b = b} {ds = ds} h r) l q =
      number_turn i false b (ds ++ ours) theirs h
      ∙ (λ k. choose (writes (value_from 0 (digits_front ours (one h r) q k)) (digits_of theirs))
      (comparing false false i (digits_after ours (one h r) q k) (after_digits theirs))
      (parts theirs k))

-- ---- the comparison follows a test: where the bytes pass it, it goes on after their line, and else the line differs
after_digits_line : (bs : List ℕ) → after_line (after_digits bs) ≡ after_line bs
unfolding after_digits
after_digits_line [] = refl
after_digits_line (c ∷ bs) =
    by_test (is_digit c)
    (λ e. ap after_line (choose_true (is_digit c) (after_digits bs) (c ∷ bs) e) ∙ after_digits_line bs
    ∙ sym (after_goes c bs (digit_not_end c e)))
    (λ e. ap after_line (choose_false (is_digit c) (after_digits bs) (c ∷ bs) e))

low_byte : (b : ℕ) → b < 48 → is_digit b ≡ false
low_byte b h = quiet_opens b [] (quiet_low b [] h)

at_sign : is_digit 64 ≡ false
unfolding is_digit both
at_sign = refl

quiet_spaced : (ws : List Word) (ours : List ℕ) → Quiet ours → Quiet (spaced ws ++ ours)
unfolding spaced
quiet_spaced [] ours q = q
quiet_spaced (w ∷ ws) ours q = quiet_low 32 ((word_text w ++ spaced ws) ++ ours) (omega arith)

module _ (i : ℕ) (on : List ℕ → Checked) where
  record Follows (next : List ℕ → Bool) (ours : List ℕ) : Type 0 where
    is : (theirs : List ℕ)
        → comparing false false i ours theirs ≡ choose (next theirs) (on (after_line theirs)) (Err (Mismatch.Differs i))

  -- part of a test passed
  both_follow : (t : Bool) (next : List ℕ → Bool) (ours rest bs : List ℕ) → Follows next ours → (t ≡ true → after_line rest ≡ after_line bs)
      → choose t (comparing false false i ours rest) (Err (Mismatch.Differs i)) ≡ choose (both t (next rest)) (on (after_line bs)) (Err (Mismatch.Differs i))
  unfolding choose both
  both_follow true next ours rest bs h e =
      h.is rest ∙ ap (λ (xs : List ℕ). choose (next rest) (on xs) (Err (Mismatch.Differs i))) (e refl)
  both_follow false next ours rest bs h e = refl

  module _ (next : List ℕ → Bool) (ours : List ℕ) (h : Follows next ours) (b : ℕ) (d : is_digit b ≡ false) (n : eqb b 10 ≡ false) where
    byte_is : (theirs : List ℕ)
        → choose (stands_first b theirs) (comparing false (eqb b 10) (choose (eqb b 10) (i + 1) i) ours (drop 1 theirs)) (parted_at false i theirs)
        ≡ choose (byte_then b next theirs) (on (after_line theirs)) (Err (Mismatch.Differs i))
    unfolding stands_first parted_at byte_then choose
    byte_is [] = refl
    byte_is (c ∷ theirs) =
        ap (λ (t : Bool). choose (eqb c b) (comparing false t (choose t (i + 1) i) ours theirs) (Err (Mismatch.Differs i))) n
        ∙ both_follow (eqb c b) next ours theirs (c ∷ theirs) h
        (λ e. sym (after_goes c theirs (ap (λ (x : ℕ). eqb x 10) (eqb-true c b e) ∙ n)))

  byte_follows : {next : List ℕ → Bool} {ours : List ℕ} (b : ℕ) → is_digit b ≡ false → eqb b 10 ≡ false → Follows next ours → Follows (byte_then b next) (b ∷ ours)
  byte_follows {next} {ours} b d n h =
      record { is = λ theirs. byte_turn i false false b ours theirs d ∙ byte_is next ours h b d n theirs }

  text_follows : {next : List ℕ → Bool} {ours : List ℕ} (text : List ℕ) → plain text ≡ true → Follows next ours → Follows (text_then text next) (text ++ ours)
  unfolding text_then
  text_follows [] p h = record { is = h.is }
  text_follows (b ∷ text) p h =
      record { is = (byte_follows b (plain_first b text p) (plain_goes b text p) (text_follows text (plain_rest b text p) h)).is }

  number_follows : {next : List ℕ → Bool} {ours : List ℕ} (n : ℕ) → Short n → Quiet ours → Follows next ours → Follows (number_then n next) (decimal n ++ ours)
  unfolding number_then decimal
  number_follows {next} {ours} n s q h = record {
    is = λ theirs.
        number_turned i ours theirs (plain_digits 20 n) (plain_some 19 n) q
        ∙ ap (λ (v : ℕ). choose (writes v (digits_of theirs)) (comparing false false i ours (after_digits theirs)) (Err (Mismatch.Differs i)))
        (plain_value 20 n (omega (arith, s.few)))
        ∙ both_follow (writes n (digits_of theirs)) next ours (after_digits theirs) theirs h (λ _. after_digits_line theirs);
  }

  word_follows : {next : List ℕ → Bool} {ours : List ℕ} {w : Word} → Fine Short w → Quiet ours → Follows next ours → Follows (word_then w next) (word_text w ++ ours)
  unfolding word_then word_text signed_decimal
  word_follows (label {text} p) q h = record { is = (text_follows text p h).is }
  word_follows (value {n} p) q h = record { is = (number_follows n p q h).is }
  word_follows (upward {n} p) q h = record { is = (number_follows n p q h).is }
  word_follows (downward {n} p) q h =
      record { is = (byte_follows 45 (low_byte 45 (omega arith)) (ne_eqb 45 10 (λ e. omega arith)) (number_follows (n + 1) p q h)).is }
  word_follows (located {l} p) q h =
      record { is = (byte_follows 64 at_sign (ne_eqb 64 10 (λ e. omega arith)) (number_follows l.0 p q h)).is }

  words_follow : {next : List ℕ → Bool} {ours : List ℕ} {ws : List Word} → Each (Fine Short) ws → Quiet ours → Follows next ours → Follows (words_then ws next) (spaced ws ++ ours)
  unfolding words_then spaced
  words_follow nil q h = record { is = h.is }
  words_follow {next} {ours} (cons {x = w} {xs = ws} f fs) q h =
      let more = word_follows f (quiet_spaced ws ours q) (words_follow fs q h) in
      let here = subst (Follows (word_then w (words_then ws next))) (sym (append_assoc (word_text w) (spaced ws) ours)) more in
      record { is = (byte_follows 32 (low_byte 32 (omega arith)) (ne_eqb 32 10 (λ e. omega arith)) here).is }

-- ---- a line
module _ (i : ℕ) (ours : List ℕ) where
  on : List ℕ → Checked
  on theirs = comparing false true (i + 1) ours theirs

  ended : (c : ℕ) (theirs : List ℕ) (t : Bool) → eqb c 10 ≡ t
      → choose t (comparing false true (i + 1) ours theirs) (Err (Mismatch.Differs i)) ≡ choose (both t true) (on (after_line (c ∷ theirs))) (Err (Mismatch.Differs i))
  unfolding choose both on
  ended c theirs true e = ap (comparing false true (i + 1) ours) (sym (after_ends c theirs e))
  ended c theirs false e = refl

  newline_is : (theirs : List ℕ)
      → choose (stands_first 10 theirs) (comparing false (eqb 10 10) (choose (eqb 10 10) (i + 1) i) ours (drop 1 theirs)) (parted_at false i theirs)
      ≡ choose (byte_then 10 anything theirs) (on (after_line theirs)) (Err (Mismatch.Differs i))
  unfolding stands_first parted_at byte_then choose anything
  newline_is [] = refl
  newline_is (c ∷ theirs) = ended c theirs (eqb c 10) refl

  newline_follows : Follows i on (byte_then 10 anything) (10 ∷ ours)
  newline_follows =
      record { is = λ theirs. byte_turn i false false 10 ours theirs (low_byte 10 (omega arith)) ∙ newline_is theirs }

  line_follows : {line : List Word} → Each (Fine Short) line → Follows i on (line_there line) (line_text line ++ ours)
  unfolding line_there line_text
  line_follows nil = record { is = newline_follows.is }
  line_follows (cons {x = w} {xs = ws} f fs) =
      let q = quiet_low 10 ours (omega arith) in
      let whole = word_follows i on f (quiet_spaced ws (10 ∷ ours) q) (words_follow i on fs q newline_follows) in
      let same : word_text w ++ (spaced ws ++ 10 ∷ ours) ≡ (word_text w ++ (spaced ws ++ 10 ∷ [])) ++ ours =
      simp append_assoc in
      record { is = (subst (Follows i on (word_then w (words_then ws (byte_then 10 anything)))) same whole).is }

-- ---- where a line begins
fresh_or_not : (i : ℕ) (ours : List ℕ) (c : ℕ) (theirs : List ℕ) → comparing false true i ours (c ∷ theirs) ≡ comparing false false i ours (c ∷ theirs)
unfolding comparing parted_at choose
fresh_or_not i [] c theirs = refl
fresh_or_not i (b ∷ ours) c theirs = refl

wanting : (i : ℕ) (ours : List ℕ) → 1 ≤ length ours → comparing false true i ours [] ≡ Err (Mismatch.Wanting i)
unfolding comparing parted_at stands_first choose writes in_range both digits_of
wanting i [] h = absurd (omega arith)
wanting i (b ∷ ours) h = chosen (λ (x : Checked). x ≡ Err (Mismatch.Wanting i)) (is_digit b) _ _ (λ _. refl) (λ _. refl)

line_some : (line : List Word) (ours : List ℕ) → 1 ≤ length (line_text line ++ ours)
unfolding line_text
line_some [] ours = omega arith
line_some (w ∷ ws) ours =
    omega (arith, length-append (word_text w ++ (spaced ws ++ 10 ∷ [])) ours, length-append (word_text w) (spaced ws ++ 10 ∷ []), length-append (spaced ws) (10 ∷ []))

-- ---- all lines
pub lines_compared : {lines : List (List Word)} → FineLines Short lines → (i : ℕ) (theirs : List ℕ)
    → comparing false true i (printed lines) theirs ≡ checked_from i lines (listed theirs)
unfolding printed comparing checked_from listed on
lines_compared nil i [] = refl
lines_compared nil i (c ∷ theirs) = sym (left_over i c theirs)
lines_compared (cons {x = line} {xs = lines} f fs) i [] = wanting i (line_text line ++ printed lines) (line_some line (printed lines))
lines_compared (cons {x = line} {xs = lines} f fs) i (c ∷ theirs) =
    let all : List ℕ = c ∷ theirs in
    fresh_or_not i (line_text line ++ printed lines) c theirs
    ∙ (line_follows i (printed lines) f).is all
    ∙ ap (λ (x : Checked). choose (line_there line all) x (Err (Mismatch.Differs i))) (lines_compared fs (i + 1) (after_line all))
    ∙ ap (λ (t : Bool). choose t (checked_from (i + 1) lines (listed (after_line all))) (Err (Mismatch.Differs i))) (sym ((line_same f).at all))
    ∙ ap (checked_from i (line ∷ lines)) (sym (listed_first c theirs))
