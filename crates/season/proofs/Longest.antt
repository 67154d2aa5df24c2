-- How long the figures can be: no number has more than 20 digits. Assumes nothing.
use Prim.Native.Nat.{ℕ, zero, suc, ◌+◌, ◌*◌, ◌≤◌}
use mathlib.Core.Path.{◌≡◌, ap, ◌∙◌}
use mathlib.Core.List.{List, [], ◌∷◌, ◌++◌}
use native.Mathlib.Omega.{arith}
use native.Mathlib.Nat.{suc-mul}
use lib.ListN.{length, length-append}
use Rattle.std.specs.Prelude.{Some, None}
use Rattle.net.specs.Records.{address_of}
use Rattle.net.proofs.Every.{chosen}
use Rattle.text.specs.Bytes.{bytes}
use Rattle.text.specs.Decimal.{decimal}
use Rattle.text.specs.Joined.{joined}
use Rattle.text.proofs.DecimalLaws.{decimal_short}
use Rattle.lines.specs.Words.{Word, name, number, word_text, spaced, line_text, printed}
use Rattle.lines.proofs.WordLaws.{printed_both}
use Rattle.season.specs.Types.{Locality}
use Rattle.season.specs.Fractions.{Fraction, Best}
use Rattle.season.specs.Season.{fraction_word, share_word, best_word}
use Rattle.season.specs.Sums.{Tally, tally_at, tally_words, tally_line, figures_from}
use Rattle.season.specs.SeasonClaims.{LongestFigures}

-- ---- words
fraction_short : (x : Fraction) → length (word_text (fraction_word x)) ≤ 41
unfolding word_text fraction_word
fraction_short x =
    let top = decimal_short x.numerator in
    let bottom = decimal_short x.denominator in
    let whole = length-append (decimal x.numerator) (47 ∷ decimal x.denominator) in
    omega (arith, top, bottom, whole)

share_short : (n : ℕ) (x : Fraction) → length (word_text (share_word n x)) ≤ 41
unfolding share_word word_text bytes
share_short n x = chosen (λ (w : Word). length (word_text w) ≤ 41) _ _ _ (λ _. omega arith) (λ _. fraction_short x)

best_short : (best : Best) → length (word_text (best_word best)) ≤ 20
unfolding best_word word_text bytes
best_short None = omega arith
best_short (Some (i, x)) = decimal_short i

-- ---- lines: words have a space before each, and a newline stands for that of the first
spaced_longer : (w : Word) (ws : List Word) → length (spaced (w ∷ ws)) ≡ suc (length (word_text w) + length (spaced ws))
unfolding spaced
spaced_longer w ws = ap suc (length-append (word_text w) (spaced ws))

line_longer : (w : Word) (ws : List Word) → length (line_text (w ∷ ws)) ≡ length (spaced (w ∷ ws))
unfolding line_text spaced
line_longer w ws =
    omega (arith, length-append (word_text w) (spaced ws ++ 10 ∷ []), length-append (spaced ws) (10 ∷ []), length-append (word_text w) (spaced ws))

record Short (ws : List Word) (n : ℕ) : Type 0 where
  most : length (spaced ws) ≤ n

none_short : Short [] 0
unfolding spaced
none_short = record { most = omega arith }

word_more : {w : Word} {ws : List Word} {n : ℕ} (k : ℕ) → length (word_text w) ≤ k → Short ws n → Short (w ∷ ws) (suc (k + n))
word_more {w} {ws} k h g = record { most = omega (arith, spaced_longer w ws, g.most) }

name_short : length (word_text (name (bytes "share"))) ≤ 5
unfolding word_text bytes
name_short = omega arith

number_short : (n : ℕ) → length (word_text (number n)) ≤ 20
unfolding word_text
number_short n = decimal_short n

line_spaced : (made : ℕ) (l : Locality) (t : Tally) → Short (tally_line made l t) 132
unfolding tally_line tally_words
line_spaced made l t =
    word_more 5 name_short
    (word_more 20 (number_short l.0)
    (word_more 41 (share_short t.picks _)
    (word_more 41 (fraction_short _) (word_more 20 (best_short t.best) none_short))))

line_short : (made : ℕ) (l : Locality) (t : Tally) → length (printed (tally_line made l t ∷ [])) ≤ 132
unfolding printed tally_line
line_short made l t =
    let same : length (line_text (tally_line made l t)) ≡ length (spaced (tally_line made l t)) = line_longer _ _ in
    omega (arith, (line_spaced made l t).most, same, length-append (line_text (tally_line made l t)) [])

-- ---- all of them
lines_short :
    (n : ℕ) (f : ℕ → List (List Word)) → ((i : ℕ) → length (printed (f i)) ≤ 132) → length (printed (joined n f)) ≤ n * 132
unfolding joined printed
lines_short zero f h = omega arith
lines_short (suc n) f h =
    let rest = lines_short n f h in
    let both = ap length (printed_both (joined n f) (f n)) ∙ length-append (printed (joined n f)) (printed (f n)) in
    omega (arith, rest, h n, both, suc-mul n 132)

pub longest_figures : LongestFigures
unfolding LongestFigures figures_from
longest_figures made ts = lines_short 16 _ (λ a. line_short made (address_of a) (tally_at ts a))
