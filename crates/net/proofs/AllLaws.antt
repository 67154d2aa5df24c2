-- Laws of tests, and of the loops that run one test at each number below a bound (`all` of `specs/Choice.antt`), stated
-- over the test. The code joins truth values by `&`. Assumes nothing.
use Prim.Native.Nat.{ℕ, zero, suc, ◌+◌, ◌<◌, ◌≤◌}
use mathlib.Core.Path.{◌≡◌, refl, sym, ap, ◌∙◌}
use mathlib.Core.Bool.{Bool, true, false, ◌&&◌}
use native.Mathlib.Omega.{arith}
use native.Mathlib.Numerals.{add-one}
use lib.Dec.{leb, ltb}
use borrow.Author.Tests.{lt-ltb, le-ltb, le-leb, lt-leb}
use Rattle.net.specs.Choice.{choose, both, implies, all}

-- ---- both
and_is : (a b : Bool) → (a && b) ≡ both a b
unfolding both
and_is true b = refl
and_is false b = refl

pub and_both : (a b x y : Bool) → a ≡ x → b ≡ y → (a && b) ≡ both x y
and_both a b x y p q = and_is a b ∙ ap (λ (z : Bool). both z b) p ∙ ap (both x) q

-- what the code answers once the first of two tests holds
pub then_both : (a b r : Bool) → a ≡ true → r ≡ b → r ≡ both a b
unfolding both
then_both a b r p e = rw p e

pub then_choose : (a b c r : Bool) → a ≡ true → r ≡ b → r ≡ choose a b c
unfolding choose
then_choose a b c r p e = rw p e

-- ---- implies: what a branch of the code knows picks the case
pub when_true : (x y a : Bool) → a ≡ true → x ≡ y → x ≡ implies a y
unfolding implies
when_true x y a p e = rw p e

pub when_false : (y a : Bool) → a ≡ false → true ≡ implies a y
unfolding implies
when_false y a p = rw p

module _ (y : Bool) (a b : ℕ) where
  pub when_lt : (x : Bool) → a < b → x ≡ y → x ≡ implies (ltb a b) y
  when_lt x p e = when_true x y _ (lt-ltb a b p) e

  pub when_not_lt : b ≤ a → true ≡ implies (ltb a b) y
  when_not_lt p = when_false y _ (le-ltb a b p)

  pub when_le : (x : Bool) → a ≤ b → x ≡ y → x ≡ implies (leb a b) y
  when_le x p e = when_true x y _ (le-leb a b p) e

  pub when_not_le : b < a → true ≡ implies (leb a b) y
  when_not_le p = when_false y _ (lt-leb a b p)

pub ruleset conditions = (when_true, when_false, when_lt, when_not_lt, when_le, when_not_le)

-- ---- loops: `ok` says that the test holds at each number below i
pub all_none : (test : ℕ → Bool) → true ≡ all 0 test
unfolding all
all_none test = refl

more : (i : ℕ) (test : ℕ → Bool) (ok good : Bool) → ok ≡ all i test → good ≡ test i → (ok && good) ≡ all (suc i) test
unfolding all
more i test ok good p q = and_both ok good _ _ p q

pub all_more : (i : ℕ) (test : ℕ → Bool) (ok good : Bool) → ok ≡ all i test → good ≡ test i → (ok && good) ≡ all (i + 1) test
all_more i test ok good p q = rw add-one (more i test ok good p q)

-- where the loop ends at the first number that fails
pub all_begins : (test : ℕ → Bool) → all 0 test ≡ true
unfolding all
all_begins test = refl

pub all_goes_on : (i : ℕ) (test : ℕ → Bool) (r : Bool) → all i test ≡ true → r ≡ true → r ≡ test i → all (i + 1) test ≡ true
all_goes_on i test r p q e = sym (all_more i test true r (sym p) e) ∙ q

pub all_end : (i n : ℕ) (test : ℕ → Bool) (ok : Bool) → ok ≡ all i test → i ≤ n → n ≤ i → ok ≡ all n test
all_end i n test ok p l g = let e : i ≡ n = omega arith in rw e at p

-- the test holds at one number more, in a loop that stops where it fails
pub all_still : (i : ℕ) (test : ℕ → Bool) → true ≡ all i test → true ≡ test i → true ≡ all (i + 1) test
all_still i test p q = all_more i test true true p q

-- what a callee answered decides a test under a condition that holds
pub unmet : (a b : ℕ) (y r : Bool) → a < b → r ≡ y → r ≡ false → implies (ltb a b) y ≡ false
unmet a b y r h p q = sym (when_lt y a b r h p) ∙ q

pub met : (a b : ℕ) (y r : Bool) → a < b → r ≡ y → r ≡ true → true ≡ implies (ltb a b) y
met a b y r h p q = sym q ∙ when_lt y a b r h p

-- the same where the condition is what a callee answered
pub kept : (a y s r : Bool) → s ≡ a → s ≡ true → r ≡ y → r ≡ true → true ≡ implies a y
kept a y s r p q e f = sym f ∙ when_true r y a (sym p ∙ q) e

pub broken : (a y s r : Bool) → s ≡ a → s ≡ true → r ≡ y → r ≡ false → implies a y ≡ false
broken a y s r p q e f = sym (when_true r y a (sym p ∙ q) e) ∙ f

pub idle : (a y s : Bool) → s ≡ a → s ≡ false → true ≡ implies a y
idle a y s p q = when_false y a (sym p ∙ q)

-- two tests that agree at each number below n
pub all_same : (n : ℕ) (f g : ℕ → Bool) → ((i : ℕ) → i < n → f i ≡ g i) → all n f ≡ all n g
unfolding all
all_same zero f g h = refl
all_same (suc n) f g h =
    ap (λ (b : Bool). both b (f n)) (all_same n f g (λ i l. h i (omega arith))) ∙ ap (both (all n g)) (h n (omega arith))

-- ---- matches: an arm's pattern y stands for the value x, in a test f of one argument, or of more
module _ {A : Type 0} (f : A → Bool) where
  pub by_case : (x y : A) (r : Bool) → x ≡ y → r ≡ f y → r ≡ f x
  by_case x y r p q = rw p q

module _ {A B : Type 0} (f : B → A → Bool) where
  pub by_case_2 : (b : B) (x y : A) (r : Bool) → x ≡ y → r ≡ f b y → r ≡ f b x
  by_case_2 b x y r p q = rw p q

module _ {A B C : Type 0} (f : B → C → A → Bool) where
  pub by_case_3 : (b : B) (c : C) (x y : A) (r : Bool) → x ≡ y → r ≡ f b c y → r ≡ f b c x
  by_case_3 b c x y r p q = rw p q

module _ {A B C D : Type 0} (f : B → C → D → A → Bool) where
  pub by_case_4 : (b : B) (c : C) (d : D) (x y : A) (r : Bool) → x ≡ y → r ≡ f b c d y → r ≡ f b c d x
  by_case_4 b c d x y r p q = rw p q

module _ {A B C : Type 0} (f : B → A → C → Bool) where
  pub by_case_mid : (b : B) (x y : A) (c : C) (r : Bool) → x ≡ y → r ≡ f b y c → r ≡ f b x c
  by_case_mid b x y c r p q = rw p q
