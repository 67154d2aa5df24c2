-- A listing agrees with wanted lines whose names have no newline exactly where it is a padding of them.
-- Assumes nothing.
use Prim.Native.Nat.{ℕ, zero, suc, ◌+◌, ◌<◌, ◌≤◌}
use mathlib.Core.Path.{◌≡◌, refl, ap, subst, ◌∙◌}
use mathlib.Core.Bool.{Bool, true, false, not}
use mathlib.Core.List.{List, [], ◌∷◌, ◌++◌, append_assoc}
use native.Mathlib.Omega.{arith}
use lib.ListN.{length}
use lib.Dec.{eqb}
use lib.IntN.{ℤ}
use borrow.Author.Tests.{eq-eqb, ne_eqb, not-true}
use Rattle.std.specs.Prelude.{Ok, Err}
use Rattle.net.specs.declared.locality.Locality.{Locality}
use Rattle.net.specs.Choice.{choose, both}
use Rattle.net.proofs.Laws.{both_i, both_l, both_r, choose_true, choose_false}
use Rattle.net.proofs.Every.{chosen}
use Rattle.text.specs.Decimal.{decimal, signed_decimal}
use Rattle.text.specs.Joined.{joined}
use Rattle.lexemes.specs.Lexemes.{is_digit}
use Rattle.lines.specs.Words.{Word, name, number, reading, address, word_text, spaced, line_text, printed}
use Rattle.listing.specs.Listing.{Mismatch, at_front, listed, carries, checked_from}
use Rattle.listing.specs.ListingClaims.{PaddedNumber, padded, PaddedWord, as_it_is, a_number, above, below, an_address}
use Rattle.listing.specs.ListingClaims.{PaddedWords, no_words, word_first, PaddedLine, empty_line, line_of}
use Rattle.listing.specs.ListingClaims.{Padded, no_lines, line_then}
use Rattle.listing.proofs.Digits.{AllDigits, none, one, digit_low, padded_digits}
use Rattle.listing.proofs.Carrying.{line_carried, carried_line}

-- ---- what each element of a list has
pub data Each {A : Type 0} (P : A → Type 0) : List A → Type 0 where
  nil : Each P []
  cons : {x : A} {xs : List A} → P x → Each P xs → Each P (x ∷ xs)

module _ {A : Type 0} {P : A → Type 0} where
  pub each_both : {a b : List A} → Each P a → Each P b → Each P (a ++ b)
  each_both nil g = g
  each_both (cons p h) g = cons p (each_both h g)

  pub each_joined : (n : ℕ) (f : ℕ → List A) → ((i : ℕ) → i < n → Each P (f i)) → Each P (joined n f)
  unfolding joined
  each_joined zero f h = nil
  each_joined (suc n) f h = each_both (each_joined n f (λ i l. h i (omega arith))) (h n (omega arith))

-- ---- bytes without a newline
unfoldable pub clean : List ℕ → Bool
clean [] = true
clean (b ∷ text) = both (not (eqb b 10)) (clean text)

clean_both : (a b : List ℕ) → clean a ≡ true → clean b ≡ true → clean (a ++ b) ≡ true
unfolding clean
clean_both [] b h g = g
clean_both (x ∷ a) b h g = both_i _ _ (both_l _ _ h) (clean_both a b (both_r (not (eqb x 10)) _ h) g)

pub clean_byte : (b : ℕ) (text : List ℕ) → (b ≡ 10 → ⊥) → clean text ≡ true → clean (b ∷ text) ≡ true
unfolding clean
clean_byte b text h g = both_i _ _ (ap not (ne_eqb b 10 h)) g

digits_clean : {ds : List ℕ} → AllDigits ds → clean ds ≡ true
unfolding clean
digits_clean none = refl
digits_clean (one {b = b} {ds = ds} h r) = let low = digit_low b h in clean_byte b ds (λ e. omega arith) (digits_clean r)

-- ---- bytes that are neither digits nor newlines
unfoldable pub plain : List ℕ → Bool
plain [] = true
plain (b ∷ text) = both (both (not (is_digit b)) (not (eqb b 10))) (plain text)

plain_clean : (text : List ℕ) → plain text ≡ true → clean text ≡ true
unfolding plain clean
plain_clean [] h = refl
plain_clean (b ∷ text) h =
    let first = both (not (is_digit b)) (not (eqb b 10)) in
    both_i _ _ (both_r (not (is_digit b)) _ (both_l first _ h)) (plain_clean text (both_r first _ h))

-- ---- words whose names are such, and whose numbers have Q
pub data Fine (Q : ℕ → Type 0) : Word → Type 0 where
  label : {text : List ℕ} → plain text ≡ true → Fine Q (name text)
  value : {n : ℕ} → Q n → Fine Q (number n)
  upward : {n : ℕ} → Q n → Fine Q (reading (ℤ.pos n))
  downward : {n : ℕ} → Q (n + 1) → Fine Q (reading (ℤ.negsuc n))
  located : {l : Locality} → Q l.0 → Fine Q (address l)

abbrev pub FineLines : (ℕ → Type 0) → List (List Word) → Type 0
FineLines Q lines = Each (Each (Fine Q)) lines

number_clean : {n : ℕ} {ds : List ℕ} → PaddedNumber n ds → clean ds ≡ true
number_clean p = digits_clean (padded_digits p)

-- a line is what stands before its newline, and the newline
record OneLine (u : List ℕ) : Type 0 where
  body : List ℕ
  is : body ++ 10 ∷ [] ≡ u
  is_clean : clean body ≡ true

module _ {Q : ℕ → Type 0} where
  word_clean : {w : Word} {u : List ℕ} → Fine Q w → PaddedWord w u → clean u ≡ true
  word_clean (label {text} h) as_it_is = plain_clean text h
  word_clean (value _) (a_number p) = number_clean p
  word_clean (upward _) (above p) = number_clean p
  word_clean (downward _) (below {ds = ds} p) = clean_byte 45 ds (λ e. omega arith) (number_clean p)
  word_clean (located _) (an_address {ds = ds} p) = clean_byte 64 ds (λ e. omega arith) (number_clean p)

  words_clean : {ws : List Word} {t : List ℕ} → Each (Fine Q) ws → PaddedWords ws t → clean t ≡ true
  unfolding clean
  words_clean nil no_words = refl
  words_clean (cons f fs) (word_first {u = u} {t = t} p r) =
      clean_byte 32 (u ++ t) (λ e. omega arith) (clean_both u t (word_clean f p) (words_clean fs r))

  one_line : {line : List Word} {u : List ℕ} → Each (Fine Q) line → PaddedLine line u → OneLine u
  unfolding clean
  one_line nil empty_line = record { body = []; is = refl; is_clean = refl }
  one_line (cons f fs) (line_of {u = u} {t = t} p r) = record {
    body = u ++ t;
    is = append_assoc u t (10 ∷ []);
    is_clean = clean_both u t (word_clean f p) (words_clean fs r);
  }

-- ---- such a line is the first one listed
pub listed_body : (body rest : List ℕ) → clean body ≡ true → listed ((body ++ 10 ∷ []) ++ rest) ≡ (body ++ 10 ∷ []) ∷ listed rest
unfolding listed clean at_front
listed_body [] rest h = choose_true (eqb 10 10) ((10 ∷ []) ∷ listed rest) (at_front 10 (listed rest)) (eq-eqb 10 10 refl)
listed_body (b ∷ body) rest h =
    let more : List ℕ = (body ++ 10 ∷ []) ++ rest in
    choose_false (eqb b 10) ((b ∷ []) ∷ listed more) (at_front b (listed more)) (not-true (eqb b 10) (both_l _ _ h))
    ∙ ap (at_front b) (listed_body body rest (both_r (not (eqb b 10)) _ h))

module _ {Q : ℕ → Type 0} where
  listed_line : {line : List Word} {u : List ℕ} (rest : List ℕ) → Each (Fine Q) line → PaddedLine line u → listed (u ++ rest) ≡ u ∷ listed rest
  listed_line rest f p =
      let x = one_line f p in
      subst (λ (u : List ℕ). listed (u ++ rest) ≡ u ∷ listed rest) x.is (listed_body x.body rest x.is_clean)

  -- ---- what is padded agrees
  pub padded_agrees_law :
      {lines : List (List Word)} {bs : List ℕ} (i : ℕ) → FineLines Q lines → Padded lines bs
      → checked_from i lines (listed bs) ≡ Ok tt
  unfolding checked_from listed
  padded_agrees_law i nil no_lines = refl
  padded_agrees_law i (cons f fs) (line_then {line} {lines} {u} {t} p r) =
      ap (checked_from i (line ∷ lines)) (listed_line t f p)
      ∙ choose_true (carries line u) (checked_from (i + 1) lines (listed t)) (Err (Mismatch.Differs i)) (line_carried p)
      ∙ padded_agrees_law (i + 1) fs r

-- ---- what agrees is padded
together : List (List ℕ) → List ℕ
together [] = []
together (line ∷ lines) = line ++ together lines

together_front : (b : ℕ) (lines : List (List ℕ)) → together (at_front b lines) ≡ b ∷ together lines
unfolding at_front together
together_front b [] = refl
together_front b (line ∷ lines) = refl

together_listed : (bs : List ℕ) → together (listed bs) ≡ bs
unfolding listed together
together_listed [] = refl
together_listed (b ∷ bs) =
    let rest = ap (λ (xs : List ℕ). b ∷ xs) (together_listed bs) in
    chosen (λ (ls : List (List ℕ)). together ls ≡ b ∷ bs) (eqb b 10) _ _ (λ _. rest)
    (λ _. together_front b (listed bs) ∙ rest)

agrees_only_law : (i : ℕ) (lines : List (List Word)) (xs : List (List ℕ)) → checked_from i lines xs ≡ Ok tt → Padded lines (together xs)
unfolding checked_from choose together
agrees_only_law i [] [] h = no_lines
agrees_only_law i [] (x ∷ xs) h = let z : ◌≡◌ {A = ℕ} 0 1 = cc in absurd (omega arith)
agrees_only_law i (line ∷ lines) [] h = let z : ◌≡◌ {A = ℕ} 0 1 = cc in absurd (omega arith)
agrees_only_law i (line ∷ lines) (x ∷ xs) h = go (carries line x) refl h (λ g. agrees_only_law (i + 1) lines xs g)
  where
    go : (b : Bool) → carries line x ≡ b → choose b (checked_from (i + 1) lines xs) (Err (Mismatch.Differs i)) ≡ Ok tt
        → (checked_from (i + 1) lines xs ≡ Ok tt → Padded lines (together xs)) → Padded (line ∷ lines) (x ++ together xs)
    go true e g r = line_then (carried_line line x e) (r g)
    go false e g r = let z : ◌≡◌ {A = ℕ} 0 1 = cc in absurd (omega arith)

pub listing_only : (i : ℕ) (lines : List (List Word)) (bs : List ℕ) → checked_from i lines (listed bs) ≡ Ok tt → Padded lines bs
listing_only i lines bs h = subst (Padded lines) (together_listed bs) (agrees_only_law i lines (listed bs) h)

-- ---- the plain text is a padding, where no number has more than ten digits
pub record Short (n : ℕ) : Type 0 where
  pub few : length (decimal n) ≤ 10

plain_number : {n : ℕ} → Short n → PaddedNumber n (decimal n)
plain_number h = padded 0 (omega (arith, h.few))

plain_word : {w : Word} → Fine Short w → PaddedWord w (word_text w)
unfolding word_text signed_decimal
plain_word (label h) = as_it_is
plain_word (value h) = a_number (plain_number h)
plain_word (upward h) = above (plain_number h)
plain_word (downward h) = below (plain_number h)
plain_word (located h) = an_address (plain_number h)

plain_words : {ws : List Word} → Each (Fine Short) ws → PaddedWords ws (spaced ws)
unfolding spaced
plain_words nil = no_words
plain_words (cons f fs) = word_first (plain_word f) (plain_words fs)

plain_line : {line : List Word} → Each (Fine Short) line → PaddedLine line (line_text line)
unfolding line_text
plain_line nil = empty_line
plain_line (cons f fs) = line_of (plain_word f) (plain_words fs)

pub plain_lines : {lines : List (List Word)} → FineLines Short lines → Padded lines (printed lines)
unfolding printed
plain_lines nil = no_lines
plain_lines (cons f fs) = line_then (plain_line f) (plain_lines fs)
