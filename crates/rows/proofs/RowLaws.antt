-- Laws of a row of a text (`specs/Rows.antt`), read by the text reader. Assumes nothing.
use Prim.Native.Nat.{ℕ, zero, suc, ◌+◌, ◌-◌, ◌<◌, ◌≤◌}
use mathlib.Core.Path.{◌≡◌, refl, sym, ap, ◌∙◌}
use mathlib.Core.Bool.{Bool, true, false}
use mathlib.Core.List.{List}
use native.Mathlib.Omega.{arith}
use native.Mathlib.Decide.{dec_le}
use native.Mathlib.Numerals.{add-one}
use lib.ListN.{get_or, length, get_or-eq_default}
use Rattle.std.proofs.Common.{Result, Ok, Err}
use Rattle.std.specs.Result.{is_ok}
use Rattle.text.specs.Bytes.{bytes}
use Rattle.net.specs.Choice.{choose, both}
use Rattle.net.specs.Records.{with_rights, address_of}
use Rattle.net.proofs.Laws.{choose_true, choose_false}
use Rattle.net.proofs.ReadingLaws.{never}
use Rattle.readers.specs.Reader.{Reader, pure, ◌>>=◌}
use Rattle.readers.specs.Progress.{came}
use Rattle.lexemes.specs.Lexemes.{byte_at, word, optional, is_digit}
use Rattle.lexemes.specs.Progress.{Reads, Resumes}
use Rattle.lexemes.proofs.Reading.{resumed, resumes_start, resumes_then, reads_pure, reads_next}
use Rattle.rows.specs.Types.{TextReader, Fault, Rights, Row}
use Rattle.rows.specs.Rows.{digits_from, is_got, stands_at, opens_with, rights, granted, grants, creates}
use Rattle.rows.specs.Progress.{Digits}

-- ---- digits, counted
no_digit : (b : ℕ) → 0 ≡ b → is_digit b ≡ false
unfolding is_digit both
no_digit b e = rw (← e) refl

module _ (s : List ℕ) where
  in_text : (q : ℕ) → Dec (length s ≤ q) → is_digit (byte_at s q) ≡ true → q < length s
  unfolding byte_at
  in_text q (yes h) d = never (sym (no_digit (get_or s q 0) (sym (get_or-eq_default s 0 h))) ∙ d)
  in_text q (no h) d = omega (arith, h)

  -- a digit stands in the text
  pub digit_within : (q : ℕ) → is_digit (byte_at s q) ≡ true → q < length s
  digit_within q d = in_text q (dec_le (length s) q) d

  module _ (p : ℕ) where
    pub digits_begin : Digits s p p
    digits_begin = record { from = omega arith; within = omega arith; rest = ap (λ (k : ℕ). p + digits_from k s p) (omega arith) }

    one_digit : (k j q : ℕ) → k ≡ suc j → is_digit (byte_at s q) ≡ true → digits_from k s q ≡ suc (digits_from j s (suc q))
    unfolding digits_from
    one_digit k j q e d = rw e (choose_true _ _ _ d)

    pub digits_more : (q : ℕ) → Digits s p q → is_digit (byte_at s q) ≡ true → Digits s p (q + 1)
    digits_more q l here =
        let h : q < length s = digit_within q here in
        let more : digits_from (length s - (q - p)) s q ≡ suc (digits_from (length s - ((q + 1) - p)) s (suc q)) =
        one_digit (length s - (q - p)) (length s - ((q + 1) - p)) q (omega (arith, l.from, l.within)) here in
        let moved : digits_from (length s - ((q + 1) - p)) s (suc q) ≡ digits_from (length s - ((q + 1) - p)) s (q + 1) =
        ap (λ (j : ℕ). digits_from (length s - ((q + 1) - p)) s j) (sym (add-one q)) in
        record { from = omega (arith, l.from); within = omega (arith, l.from, l.within); rest = omega (arith, l.rest, more, moved) }

    none : (k q : ℕ) → is_digit (byte_at s q) ≡ false → digits_from k s q ≡ 0
    unfolding digits_from
    none zero q d = refl
    none (suc k) q d = choose_false _ _ _ d

    pub digits_stop : (q : ℕ) → Digits s p q → is_digit (byte_at s q) ≡ false → q ≡ p + digits_from (length s) s p
    digits_stop q l d = omega (arith, l.rest, none (length s - (q - p)) q d)

pub ruleset digits = (digit_within, digits_begin, digits_more, digits_stop)

-- ---- words that may stand there
got_ok : {A : Type 0} (o : Result A Fault) (q : ℕ) → is_ok o ≡ is_got (came o q)
unfolding is_got came
got_ok (Ok a) q = refl
got_ok (Err e) q = refl

pub word_stands : (r r' : TextReader) (w : List ℕ) (o : Result (Unit {0}) Fault) → Reads r (word w) o r' → is_ok o ≡ stands_at w r.text.now r.at
unfolding stands_at
word_stands r r' w o h = got_ok o r'.at ∙ ap is_got h.gave

module _ (r : TextReader) (w : List ℕ) (b : ℕ) (e : b ≡ byte_at r.text.now r.at) where
  pub opens_is : (q : ℕ) (r' : TextReader) (o : Result (Unit {0}) Fault) (ok : Bool) → is_digit b ≡ true
      → q ≡ r.at + digits_from (length r.text.now) r.text.now r.at → Reads (record { text = r.text; at = q }) (word w) o r' → ok ≡ is_ok o
      → ok ≡ opens_with w r.text.now r.at
  unfolding opens_with both
  opens_is q r' o ok t a h d =
      let one : is_digit (byte_at r.text.now r.at) ≡ true = ap is_digit (sym e) ∙ t in
      rw (one, ← a) (d ∙ word_stands (record { text = r.text; at = q }) r' w o h)

  pub opens_none : is_digit b ≡ false → false ≡ opens_with w r.text.now r.at
  unfolding opens_with both
  opens_none t = let no : is_digit (byte_at r.text.now r.at) ≡ false = ap is_digit (sym e) ∙ t in rw no refl

pub ruleset opened = (opens_is, opens_none)

-- ---- ` n`
module _ (r r' : TextReader) where
  stands_as : (o : Result (Unit {0}) Fault) → Reads r (word (bytes " n")) o r' → stands_at (bytes " n") r.text.now r.at ≡ is_ok o
  stands_as o h = sym (word_stands r r' (bytes " n") o h)

  pub creates_is : (a : Unit {0}) → Reads r (word (bytes " n")) (Ok a) r' → Reads r creates (Ok true) r'
  unfolding creates
  creates_is a h =
      let read = reads_next r r' (word (bytes " n")) r' (pure true) a (Ok true) h (reads_pure r' r' true) in
      record { gave = read.gave ∙ sym (ap (λ (m : Reader Bool). m r.text.now r.at) (choose_true _ _ _ (stands_as (Ok a) h))); same = read.same }

  pub creates_none : (e : Fault) → Reads r (word (bytes " n")) (Err e) r' → Reads r creates (Ok false) r
  unfolding creates
  creates_none e h =
      let read = reads_pure r r false in
      record { gave = read.gave ∙ sym (ap (λ (m : Reader Bool). m r.text.now r.at) (choose_false _ _ _ (stands_as (Err e) h))); same = read.same }

pub ruleset created = (creates_is, creates_none)

-- ---- the addresses of a row
module _ (k : ℕ) where
  -- one address more, of those after the i-th
  abbrev pub granting_turn : ℕ → ℕ → Row → Reader Row
  granting_turn i low row =
      optional 32 >>= (λ more.
      choose more
      (granted low >>= (λ l. rights >>= (λ x. grants (k - (i + 1)) (l + 1) (with_rights row (address_of l) x))))
      (pure row))

  grants_first : (i low : ℕ) (row : Row) → i < k → grants (k - i) low row ≡ granting_turn i low row
  unfolding grants
  grants_first i low row h = let e : k - i ≡ suc (k - (i + 1)) = omega arith in rw e refl

  grants_none : (i low : ℕ) (row : Row) → k ≤ i → grants (k - i) low row ≡ pure row
  unfolding grants
  grants_none i low row h = let e : k - i ≡ 0 = omega arith in rw e refl

  module _ (r₀ r : TextReader) (i low₀ low : ℕ) (row₀ row : Row) where
    pub grants_turn : (r' : TextReader) (o : Result Row Fault) → i < k → Resumes r₀ (grants k low₀ row₀) r (grants (k - i) low row)
        → Reads r (granting_turn i low row) o r' → Reads r₀ (grants k low₀ row₀) o r'
    grants_turn r' o h l w = resumed r₀ r r' _ _ o (rw (grants_first i low row h) at l) w

    pub grants_end : k ≤ i → Resumes r₀ (grants k low₀ row₀) r (grants (k - i) low row) → Reads r₀ (grants k low₀ row₀) (Ok row) r
    grants_end h l = resumed r₀ r r _ _ (Ok row) (rw (grants_none i low row h) at l) (reads_pure r r row)

    pub grants_on : (r₁ r₂ r₃ : TextReader) (more : Bool) (l : ℕ) (x : Rights) → more ≡ true → i < k
        → Resumes r₀ (grants k low₀ row₀) r (grants (k - i) low row) → Reads r (optional 32) (Ok more) r₁ → Reads r₁ (granted low) (Ok l) r₂
        → Reads r₂ rights (Ok x) r₃ → Resumes r₀ (grants k low₀ row₀) r₃ (grants (k - (i + 1)) (l + 1) (with_rights row (address_of l) x))
    grants_on r₁ r₂ r₃ more l x e h g a b c =
        let one = resumes_then r₀ r r₁ _ (optional 32) _ more (rw (grants_first i low row h) at g) a in
        let two = resumes_then r₀ r₁ r₂ _ (granted low) _ l (rw (choose_true more _ _ e) at one) b in
        resumes_then r₀ r₂ r₃ _ rights _ x two c

pub ruleset granting = (resumes_start, grants_turn, grants_end, grants_on)
