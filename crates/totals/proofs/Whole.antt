-- The lines of a register in its bytes: no word holds a newline, so each line of words is one line of bytes, and it opens
-- with `tuple ` where it is a tuple's. Assumes nothing.
use Prim.Native.Nat.{ℕ, zero, suc, ◌+◌, ◌*◌, ◌/◌, ◌%◌}
use mathlib.Core.Path.{◌≡◌, refl, sym, ap, subst, ◌∙◌}
use mathlib.Core.Bool.{Bool, true, false, not}
use mathlib.Core.List.{List, [], ◌∷◌, ◌++◌, append-nil, append_assoc}
use native.Mathlib.Omega.{arith}
use native.Mathlib.Nat.{suc-mul}
use lib.Dec.{eqb, ltb}
use lib.IntN.{ℤ}
use borrow.Author.Tests.{ne_eqb, not-true}
use Rattle.net.specs.Choice.{choose, both, fold}
use Rattle.net.proofs.Laws.{both_i, both_l, both_r, choose_false}
use Rattle.net.proofs.Every.{chosen}
use Rattle.text.specs.Bytes.{bytes}
use Rattle.text.specs.Decimal.{digit, digits, decimal, signed_decimal}
use Rattle.text.specs.Joined.{joined}
use Rattle.registers.specs.Types.{Item, Tuple}
use Rattle.lines.specs.Words.{Word, name, number, word_text, spaced, line_text, printed}
use Rattle.lines.specs.Shown.{all_parts}
use Rattle.names.specs.NameClaims.{Letters}
use Rattle.lines.specs.Lines.{name_words, item_word, mark_words}
use Rattle.lines.proofs.WordLaws.{spaced_both, printed_both}
use Rattle.totals.specs.TextLines.{before, lines_of, last_or, opens_with, opening}

-- ---- bytes without a newline
unfoldable pub clean : List ℕ → Bool
clean [] = true
clean (b ∷ text) = both (not (eqb b 10)) (clean text)

clean_both : (a b : List ℕ) → clean a ≡ true → clean b ≡ true → clean (a ++ b) ≡ true
unfolding clean
clean_both [] b h g = g
clean_both (x ∷ a) b h g = both_i _ _ (both_l _ _ h) (clean_both a b (both_r (not (eqb x 10)) _ h) g)

-- such bytes and a newline are a line
line_first : (t rest : List ℕ) → clean t ≡ true → lines_of (t ++ 10 ∷ rest) ≡ t ∷ lines_of rest
unfolding clean lines_of before choose
line_first [] rest h = refl
line_first (b ∷ t) rest h =
    choose_false (eqb b 10) ([] ∷ lines_of (t ++ 10 ∷ rest)) _ (not-true (eqb b 10) (both_l _ _ h)) ∙ ap (before b) (line_first t rest (both_r (not (eqb b 10)) _ h))

-- ---- words
digit_clean : (n : ℕ) → clean (digit n ∷ []) ≡ true
unfolding clean digit both
digit_clean n = ap (λ (b : Bool). both (not b) true) (ne_eqb (48 + n) 10 (λ e. omega arith))

digits_clean : (k n : ℕ) → clean (digits k n) ≡ true
unfolding digits clean
digits_clean zero n = refl
digits_clean (suc k) n =
    chosen (λ (t : List ℕ). clean t ≡ true) (ltb n 10) _ _ (λ _. digit_clean n)
    (λ _. clean_both (digits k (n / 10)) (digit (n % 10) ∷ []) (digits_clean k (n / 10)) (digit_clean (n % 10)))

number_clean : (n : ℕ) → clean (word_text (number n)) ≡ true
unfolding word_text decimal
number_clean n = digits_clean 20 n

item_clean : (x : Item) → clean (word_text (item_word x)) ≡ true
unfolding word_text item_word signed_decimal decimal clean both
item_clean (Item.Reading (ℤ.pos n)) = digits_clean 20 n
item_clean (Item.Reading (ℤ.negsuc n)) = digits_clean 20 (n + 1)
item_clean (Item.Address l) = digits_clean 20 l.0

pub record Plain (ws : List Word) : Type 0 where
  pub is_clean : clean (spaced ws) ≡ true

pub no_words : Plain []
unfolding clean spaced
no_words = record { is_clean = refl }

word_more : {w : Word} {ws : List Word} → clean (word_text w) ≡ true → Plain ws → Plain (w ∷ ws)
unfolding clean spaced both
word_more {w} {ws} h g = record { is_clean = clean_both (word_text w) (spaced ws) h g.is_clean }

pub number_more : {n : ℕ} {ws : List Word} → Plain ws → Plain (number n ∷ ws)
number_more {n} g = word_more (number_clean n) g

-- a name, where it is of an entry's bytes
letters_clean : (text : List ℕ) → Letters text → clean text ≡ true
unfolding clean
letters_clean [] h = refl
letters_clean (b ∷ text) h =
    let low = (h.each 0 (omega arith)).low in
    both_i _ _ (ap not (ne_eqb b 10 (λ e. omega (arith, low, e))))
    (letters_clean text (record { each = λ i l. h.each (suc i) (omega arith) }))

pub name_plain : (text : List ℕ) → Letters text → Plain (name_words text)
unfolding name_words word_text
name_plain [] h = no_words
name_plain (b ∷ text) h = word_more {w = name (b ∷ text)} (letters_clean (b ∷ text) h) no_words

pub plain_both : (a b : List Word) → Plain a → Plain b → Plain (a ++ b)
plain_both a b h g = record { is_clean = ap clean (spaced_both a b) ∙ clean_both _ _ h.is_clean g.is_clean }

from_clean : clean (word_text (name (bytes "from"))) ≡ true
unfolding clean word_text bytes both
from_clean = refl

pub mark_plain : (t : Tuple) → Plain (mark_words all_parts t)
unfolding mark_words all_parts choose
mark_plain t = word_more from_clean (number_more no_words)

pub items_plain : (n : ℕ) (f : ℕ → Item) → Plain (joined n (λ i. item_word (f i) ∷ []))
unfolding joined
items_plain zero f = no_words
items_plain (suc n) f = plain_both _ _ (items_plain n f) (word_more (item_clean (f n)) no_words)

-- ---- whole lines, of which n open with `tuple `
abbrev pub tuple_word : List ℕ
tuple_word = bytes "tuple "

pub record Whole (text : List ℕ) (n : ℕ) : Type 0 where
  pub lines : List (List ℕ)
  pub apart : (rest : List ℕ) → lines_of (text ++ rest) ≡ lines ++ lines_of rest
  pub count : opening tuple_word lines ≡ n

opening_both : (word : List ℕ) (a b : List (List ℕ)) → opening word (a ++ b) ≡ opening word a + opening word b
unfolding opening
opening_both word [] b = omega arith
opening_both word (line ∷ a) b = let rest = opening_both word a b in omega (arith, rest)

whole_none : Whole (printed []) 0
unfolding printed opening
whole_none = record { lines = []; apart = λ rest. refl; count = refl }

pub whole_both :
    (a b : List (List Word)) (m n : ℕ) → Whole (printed a) m → Whole (printed b) n → Whole (printed (a ++ b)) (m + n)
whole_both a b m n x y = record {
  lines = x.lines ++ y.lines;
  apart = λ rest.
      ap (λ (t : List ℕ). lines_of (t ++ rest)) (printed_both a b)
      ∙ ap lines_of (append_assoc (printed a) (printed b) rest)
      ∙ x.apart (printed b ++ rest)
      ∙ ap (λ (ls : List (List ℕ)). x.lines ++ ls) (y.apart rest)
      ∙ sym (append_assoc x.lines y.lines (lines_of rest));
  count = let sum = opening_both tuple_word x.lines y.lines in omega (arith, sum, x.count, y.count);
}

-- a line of words, whose first is its name
module _ (text : List ℕ) (ws : List Word) (h : clean text ≡ true) (g : Plain ws) where
  line_apart : (rest : List ℕ) → lines_of (printed ((name text ∷ ws) ∷ []) ++ rest) ≡ (text ++ spaced ws) ∷ lines_of rest
  unfolding printed line_text word_text
  line_apart rest =
      let same : ((text ++ (spaced ws ++ 10 ∷ [])) ++ []) ++ rest ≡ (text ++ spaced ws) ++ 10 ∷ rest = simp (append-nil, append_assoc) in
      ap lines_of same ∙ line_first (text ++ spaced ws) rest (clean_both text _ h g.is_clean)

  pub whole_line :
      (n : ℕ) → choose (opens_with tuple_word (text ++ spaced ws)) 1 0 ≡ n → Whole (printed ((name text ∷ ws) ∷ [])) n
  unfolding opening
  whole_line n e = record { lines = (text ++ spaced ws) ∷ []; apart = line_apart; count = omega (arith, e) }

-- parts, one after another
pub whole_parts :
    (n : ℕ) (f : ℕ → List (List Word)) (c : ℕ → ℕ) → ((i : ℕ) → Whole (printed (f i)) (c i))
    → Whole (printed (joined n f)) (fold n (λ i m. m + c i) 0)
unfolding joined fold
whole_parts zero f c h = whole_none
whole_parts (suc n) f c h = whole_both (joined n f) (f n) _ _ (whole_parts n f c h) (h n)

fold_same : (n k : ℕ) → fold n (λ i m. m + k) 0 ≡ n * k
unfolding fold
fold_same zero k = omega arith
fold_same (suc n) k = let rest = fold_same n k in let product : suc n * k ≡ n * k + k = suc-mul n k in omega (arith, rest, product)

pub whole_each :
    (n k : ℕ) (f : ℕ → List (List Word)) → ((i : ℕ) → Whole (printed (f i)) k) → Whole (printed (joined n f)) (n * k)
whole_each n k f h = subst (Whole (printed (joined n f))) (fold_same n k) (whole_parts n f (λ _. k) h)

-- ---- lines and one more, the last
last_is : (line : List ℕ) (a : List (List ℕ)) (last : List ℕ) → last_or line (a ++ last ∷ []) ≡ last
unfolding last_or
last_is line [] last = refl
last_is line (x ∷ a) last = last_is x a last

module _
    (a : List (List Word)) (m : ℕ) (x : Whole (printed a) m) (text : List ℕ) (ws : List Word) (h : clean text ≡ true)
    (g : Plain ws)
  where
    all_lines : lines_of (printed (a ++ (name text ∷ ws) ∷ [])) ≡ x.lines ++ (text ++ spaced ws) ∷ []
    unfolding lines_of
    all_lines =
        let last : List ℕ = printed ((name text ∷ ws) ∷ []) in
        ap lines_of (printed_both a ((name text ∷ ws) ∷ [])) ∙ x.apart last
        ∙ ap (λ (t : List ℕ). x.lines ++ lines_of t) (sym (append-nil last))
        ∙ ap (λ (ls : List (List ℕ)). x.lines ++ ls) (line_apart text ws h g [])

    pub last_line : last_or [] (lines_of (printed (a ++ (name text ∷ ws) ∷ []))) ≡ text ++ spaced ws
    last_line = ap (last_or []) all_lines ∙ last_is [] x.lines (text ++ spaced ws)

    -- which does not open with `tuple `
    pub lines_count :
        opens_with tuple_word (text ++ spaced ws) ≡ false → opening tuple_word (lines_of (printed (a ++ (name text ∷ ws) ∷ []))) ≡ m
    unfolding opening
    lines_count e =
        let last : ◌≡◌ {A = ℕ} (choose (opens_with tuple_word (text ++ spaced ws)) 1 0) 0 = choose_false _ _ _ e in
        let sum = ap (opening tuple_word) all_lines ∙ opening_both tuple_word x.lines ((text ++ spaced ws) ∷ []) in
        omega (arith, sum, last, x.count)
