-- Choices and bounded tests, which every other definition here is made of.
use Rattle.std.specs.Prelude.{ℕ, zero, suc, Bool, true, false, leb}

unfoldable pub choose : {A : Type 0} → Bool → A → A → A
choose true a b = a
choose false a b = b

unfoldable pub both : Bool → Bool → Bool
both true b = b
both false b = false

-- b, where a holds
unfoldable pub implies : Bool → Bool → Bool
implies true b = b
implies false b = true

-- x is from low to high
unfoldable pub in_range : ℕ → ℕ → ℕ → Bool
in_range low x high = both (leb low x) (leb x high)

-- the test holds at each number below n
unfoldable pub all : ℕ → (ℕ → Bool) → Bool
all zero test = true
all (suc n) test = both (all n test) (test n)

-- f at 0, then at 1, and so on below n, each on what the last one gave
unfoldable pub fold : {A : Type 0} → ℕ → (ℕ → A → A) → A → A
fold zero f a = a
fold (suc n) f a = f n (fold n f a)

-- the lowest number from i on at which the test holds, of k numbers: `at` of it, or `nothing`
unfoldable pub first_from : {A : Type 0} → ℕ → ℕ → (ℕ → Bool) → (ℕ → A) → A → A
first_from zero i test at nothing = nothing
first_from (suc k) i test at nothing = choose (test i) (at i) (first_from k (suc i) test at nothing)

unfoldable pub first_below : {A : Type 0} → ℕ → (ℕ → Bool) → (ℕ → A) → A → A
first_below n test at nothing = first_from n 0 test at nothing
