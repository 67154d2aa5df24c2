-- Fractions, in lowest terms and compared unrounded (document 02, slip 7).
pub use Rattle.season.specs.declared.fraction.Fraction.{Fraction}
use Rattle.std.specs.Prelude.{Option, Some, None, ℕ, zero, suc, ◌+◌, ◌*◌, ◌/◌, ◌%◌, Bool, List, get_or, length, eqb, ltb}
use Rattle.net.specs.Choice.{choose, fold}

-- the best of several: none of them, or one's number with its fraction
abbrev pub Best : Type 0
Best = Option (ℕ × Fraction)

unfoldable pub fraction : ℕ → ℕ → Fraction
fraction n d = record { numerator = n; denominator = d }

-- ---- lowest terms

-- the greatest common divisor by Euclid, in at most so many rounds as the first argument says
unfoldable pub euclid : ℕ → ℕ → ℕ → ℕ
euclid zero a b = a
euclid (suc k) a b = choose (eqb b 0) a (euclid k b (a % b))

-- the second number falls in each round
unfoldable pub greatest_divisor : ℕ → ℕ → ℕ
greatest_divisor a b = euclid b a b

unfoldable pub divided_by : ℕ → ℕ → ℕ → Fraction
divided_by g n d = fraction (n / g) (d / g)

-- "as a fraction in lowest terms", nought being 0/1
unfoldable pub lowest : ℕ → ℕ → Fraction
lowest n d = divided_by (greatest_divisor n d) n d

-- ---- the largest of a list, whose places are numbered from 1

-- x is larger than y, by the cross products: "compared unrounded"
unfoldable pub larger : Fraction → Fraction → Bool
larger x y = ltb (y.numerator * x.denominator) (x.numerator * y.denominator)

-- the best so far is none, or a number with its fraction: a later one takes its place if it is larger: "earliest on a tie"
unfoldable pub against : ℕ → Fraction → Best → Best
against i x None = Some (i, x)
against i x (Some (j, y)) = choose (larger x y) (Some (i, x)) (Some (j, y))

-- nothing over nothing "is passed over"
unfoldable pub considered : ℕ → Fraction → Best → Best
considered i x best = choose (eqb x.denominator 0) best (against i x best)

-- past the end of a list there is nothing over nothing
unfoldable pub fraction_at : List Fraction → ℕ → Fraction
fraction_at xs i = get_or xs i (fraction 0 0)

unfoldable pub best_of : List Fraction → Best
best_of xs = fold (length xs) (λ i best. considered (i + 1) (fraction_at xs i) best) None
