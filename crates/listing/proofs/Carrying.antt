-- The bytes of a line carry words and values (`carries` of `specs/Listing.antt`) exactly where they are a padding of them
-- (`PaddedLine` of `specs/ListingClaims.antt`).
-- Assumes nothing.
use Prim.Native.Nat.{ℕ, ◌+◌, ◌<◌}
use mathlib.Core.Path.{◌≡◌, refl, sym, ap, subst, ◌∙◌}
use mathlib.Core.Bool.{Bool, true}
use mathlib.Core.List.{List, [], ◌∷◌, ◌++◌, append_assoc}
use native.Mathlib.Omega.{arith}
use lib.Dec.{leb, eqb}
use lib.IntN.{ℤ}
use borrow.Author.Tests.{lt-leb, eq-eqb, eqb-true}
use Rattle.net.specs.Choice.{both}
use Rattle.net.proofs.Laws.{both_l, both_r}
use Rattle.lexemes.specs.Lexemes.{is_digit}
use Rattle.lines.specs.Words.{Word, name, number, reading, address}
use Rattle.listing.specs.Listing.{byte_then, text_then, digits_of, after_digits, writes, number_then, word_then, words_then}
use Rattle.listing.specs.Listing.{nothing_left, line_ends, carries}
use Rattle.listing.specs.ListingClaims.{PaddedNumber, PaddedWord, as_it_is, a_number, above, below, an_address}
use Rattle.listing.specs.ListingClaims.{PaddedWords, no_words, word_first, PaddedLine, empty_line, line_of}
use Rattle.listing.proofs.Digits.{Quiet, quiet_byte, front_digits, front_after, digits_front, digits_after}
use Rattle.listing.proofs.Digits.{padded_digits, padded_writes, writes_padded}

-- ---- what is padded is carried
byte_there : (b : ℕ) (next : List ℕ → Bool) (rest : List ℕ) → byte_then b next (b ∷ rest) ≡ next rest
unfolding byte_then both
byte_there b next rest = ap (λ (t : Bool). both t (next rest)) (eq-eqb b b refl)

text_there : (text : List ℕ) (next : List ℕ → Bool) (rest : List ℕ) → text_then text next (text ++ rest) ≡ next rest
unfolding text_then
text_there [] next rest = refl
text_there (b ∷ text) next rest = byte_there b (text_then text next) (text ++ rest) ∙ text_there text next rest

module _ (next : List ℕ → Bool) (rest : List ℕ) (q : Quiet rest) where
  number_there : {n : ℕ} {ds : List ℕ} → PaddedNumber n ds → number_then n next (ds ++ rest) ≡ next rest
  unfolding number_then both
  number_there {n} {ds} p =
      let all = padded_digits p in
      ap (λ (xs : List ℕ). both (writes n xs) (next (after_digits (ds ++ rest)))) (digits_front rest all q)
      ∙ ap (λ (t : Bool). both t (next (after_digits (ds ++ rest)))) (padded_writes p)
      ∙ ap next (digits_after rest all q)

  word_there : {w : Word} {u : List ℕ} → PaddedWord w u → word_then w next (u ++ rest) ≡ next rest
  unfolding word_then
  word_there (as_it_is {text}) = text_there text next rest
  word_there (a_number p) = number_there p
  word_there (above p) = number_there p
  word_there (below {n} {ds} p) = byte_there 45 (number_then (n + 1) next) (ds ++ rest) ∙ number_there p
  word_there (an_address {l} {ds} p) = byte_there 64 (number_then l.0 next) (ds ++ rest) ∙ number_there p

pub quiet_low : (b : ℕ) (rest : List ℕ) → b < 48 → Quiet (b ∷ rest)
unfolding is_digit both
quiet_low b rest h = quiet_byte b rest (ap (λ (t : Bool). both t (leb b 57)) (lt-leb 48 b h))

quiet_words : {ws : List Word} {t : List ℕ} (rest : List ℕ) → PaddedWords ws t → Quiet rest → Quiet (t ++ rest)
quiet_words rest no_words q = q
quiet_words rest (word_first {u = u} {t = t} p r) q = quiet_low 32 ((u ++ t) ++ rest) (omega arith)

words_there :
    (next : List ℕ → Bool) (rest : List ℕ) {ws : List Word} {t : List ℕ} → PaddedWords ws t → Quiet rest
    → words_then ws next (t ++ rest) ≡ next rest
unfolding words_then
words_there next rest no_words q = refl
words_there next rest (word_first {w} {ws} {u} {t} p r) q =
    byte_there 32 (word_then w (words_then ws next)) ((u ++ t) ++ rest)
    ∙ ap (word_then w (words_then ws next)) (append_assoc u t rest)
    ∙ word_there (words_then ws next) (t ++ rest) (quiet_words rest r q) p
    ∙ words_there next rest r q

ends_there : line_ends (10 ∷ []) ≡ true
unfolding line_ends nothing_left
ends_there = byte_there 10 nothing_left []

pub line_carried : {line : List Word} {bs : List ℕ} → PaddedLine line bs → carries line bs ≡ true
unfolding carries
line_carried empty_line = ends_there
line_carried (line_of {w} {ws} {u} {t} p r) =
    let q = quiet_low 10 [] (omega arith) in
    word_there (words_then ws line_ends) (t ++ 10 ∷ []) (quiet_words (10 ∷ []) r q) p
    ∙ words_there line_ends (10 ∷ []) r q ∙ ends_there

-- ---- what is carried is padded: a part of it stands at the front, and the rest passes the next test
record Split (P : List ℕ → Type 0) (next : List ℕ → Bool) (bs : List ℕ) : Type 0 where
  front : List ℕ
  rest : List ℕ
  is : front ++ rest ≡ bs
  holds : P front
  passes : next rest ≡ true

split_as :
    {P Q : List ℕ → Type 0} {next : List ℕ → Bool} {bs : List ℕ} → ((u : List ℕ) → P u → Q u) → Split P next bs
    → Split Q next bs
split_as f s = record { front = s.front; rest = s.rest; is = s.is; holds = f s.front s.holds; passes = s.passes }

-- a byte, and a part behind it
byte_split : (b : ℕ) (next : List ℕ → Bool) (bs : List ℕ) → byte_then b next bs ≡ true → Split (λ u. b ∷ [] ≡ u) next bs
unfolding byte_then
byte_split b next [] h = let z : ◌≡◌ {A = ℕ} 0 1 = cc in absurd (omega arith)
byte_split b next (c ∷ bs) h =
    let same : b ≡ c = sym (eqb-true c b (both_l _ _ h)) in
    record {
      front = b ∷ [];
      rest = bs;
      is = ap (λ (x : ℕ). x ∷ bs) same;
      holds = refl;
      passes = both_r (eqb c b) _ h;
    }

two_splits :
    {P Q R : List ℕ → Type 0} {next : List ℕ → Bool} {bs : List ℕ} (test : (List ℕ → Bool) → List ℕ → Bool)
    → ((u v : List ℕ) → P u → Q v → R (u ++ v)) → ((xs : List ℕ) → test next xs ≡ true → Split Q next xs)
    → Split P (test next) bs → Split R next bs
two_splits test f g s =
    let t = g s.rest s.passes in
    record {
      front = s.front ++ t.front;
      rest = t.rest;
      is = append_assoc s.front t.front t.rest ∙ ap (λ (xs : List ℕ). s.front ++ xs) t.is ∙ s.is;
      holds = f s.front t.front s.holds t.holds;
      passes = t.passes;
    }

behind_byte :
    {Q R : List ℕ → Type 0} {next : List ℕ → Bool} {bs : List ℕ} (b : ℕ) (test : (List ℕ → Bool) → List ℕ → Bool)
    → ((v : List ℕ) → Q v → R (b ∷ v)) → ((xs : List ℕ) → test next xs ≡ true → Split Q next xs)
    → byte_then b (test next) bs ≡ true → Split R next bs
behind_byte {R = R} b test f g h =
    two_splits test (λ u v e q. subst (λ (w : List ℕ). R (w ++ v)) e (f v q)) g (byte_split b (test _) _ h)

text_split : (text : List ℕ) (next : List ℕ → Bool) (bs : List ℕ) → text_then text next bs ≡ true → Split (λ u. text ≡ u) next bs
unfolding text_then
text_split [] next bs h = record { front = []; rest = bs; is = refl; holds = refl; passes = h }
text_split (b ∷ text) next bs h =
    behind_byte b (text_then text) (λ v e. ap (λ (xs : List ℕ). b ∷ xs) e) (λ xs. text_split text next xs) h

number_split : (n : ℕ) (next : List ℕ → Bool) (bs : List ℕ) → number_then n next bs ≡ true → Split (PaddedNumber n) next bs
unfolding number_then
number_split n next bs h = record {
  front = digits_of bs;
  rest = after_digits bs;
  is = front_after bs;
  holds = writes_padded n (digits_of bs) (front_digits bs) (both_l _ _ h);
  passes = both_r (writes n (digits_of bs)) _ h;
}

word_split : (w : Word) (next : List ℕ → Bool) (bs : List ℕ) → word_then w next bs ≡ true → Split (PaddedWord w) next bs
unfolding word_then
word_split (name text) next bs h = split_as (λ u e. subst (PaddedWord (name text)) e as_it_is) (text_split text next bs h)
word_split (number n) next bs h = split_as (λ u p. a_number p) (number_split n next bs h)
word_split (reading (ℤ.pos n)) next bs h = split_as (λ u p. above p) (number_split n next bs h)
word_split (reading (ℤ.negsuc n)) next bs h =
    behind_byte 45 (number_then (n + 1)) (λ v p. below p) (λ xs. number_split (n + 1) next xs) h
word_split (address l) next bs h =
    behind_byte 64 (number_then l.0) (λ v p. an_address p) (λ xs. number_split l.0 next xs) h

-- a word with its space
data Spaced (w : Word) : List ℕ → Type 0 where
  after_space : {u : List ℕ} → PaddedWord w u → Spaced w (32 ∷ u)

more_words : {w : Word} {ws : List Word} {u v : List ℕ} → Spaced w u → PaddedWords ws v → PaddedWords (w ∷ ws) (u ++ v)
more_words (after_space p) r = word_first p r

words_split : (ws : List Word) (next : List ℕ → Bool) (bs : List ℕ) → words_then ws next bs ≡ true → Split (PaddedWords ws) next bs
unfolding words_then
words_split [] next bs h = record { front = []; rest = bs; is = refl; holds = no_words; passes = h }
words_split (w ∷ ws) next bs h =
    two_splits {P = Spaced w} (words_then ws) (λ u v p r. more_words p r) (λ xs. words_split ws next xs)
    (behind_byte 32 (word_then w) (λ v p. after_space p) (λ xs. word_split w (words_then ws next) xs) h)

nothing_is : (bs : List ℕ) → nothing_left bs ≡ true → [] ≡ bs
unfolding nothing_left
nothing_is [] h = refl
nothing_is (b ∷ bs) h = let z : ◌≡◌ {A = ℕ} 0 1 = cc in absurd (omega arith)

ends_split : (bs : List ℕ) → line_ends bs ≡ true → 10 ∷ [] ≡ bs
unfolding line_ends
ends_split bs h =
    let s = byte_split 10 nothing_left bs h in
    ap (λ (xs : List ℕ). 10 ∷ xs) (nothing_is s.rest s.passes) ∙ ap (λ (u : List ℕ). u ++ s.rest) s.holds ∙ s.is

pub carried_line : (line : List Word) (bs : List ℕ) → carries line bs ≡ true → PaddedLine line bs
unfolding carries
carried_line [] bs h = subst (PaddedLine []) (ends_split bs h) empty_line
carried_line (w ∷ ws) bs h =
    let s = word_split w (words_then ws line_ends) bs h in
    let t = words_split ws line_ends s.rest s.passes in
    let last = ends_split t.rest t.passes in
    subst (PaddedLine (w ∷ ws))
    (ap (λ (xs : List ℕ). s.front ++ (t.front ++ xs)) last ∙ ap (λ (xs : List ℕ). s.front ++ xs) t.is ∙ s.is)
    (line_of s.holds t.holds)
