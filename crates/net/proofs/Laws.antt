-- Laws of choices and bounded tests (`specs/Choice.antt`), which every proof here uses in place of their text.
-- Assumes nothing.
use Prim.Native.Nat.{ℕ, zero, suc, ◌<◌, ◌≤◌}
use mathlib.Core.Path.{◌≡◌, refl, sym, ◌∙◌}
use mathlib.Core.Bool.{Bool, true, false}
use mathlib.Core.Logic.{◌⊎◌, inl, inr}
use native.Mathlib.Nat.{not-suc-le-zero}
use native.Mathlib.Omega.{arith}
use native.Mathlib.Decide.{dec_le}
use lib.Dec.{ltb, leb, eqb}
use lib.ListN.{length, length-map}
use mathlib.Core.List.{List, map}
use borrow.Author.Tests.{lt-ltb, le-ltb, le-leb, leb-true, lt-leb, eq-eqb, ne_eqb}
use Rattle.net.specs.Choice.{choose, both, implies, in_range, all}

-- ---- both, implies, choose
pub both_i : (a b : Bool) → a ≡ true → b ≡ true → both a b ≡ true
unfolding both
both_i a b p q = cc

pub both_l : (a b : Bool) → both a b ≡ true → a ≡ true
unfolding both
both_l true b p = refl
both_l false b p = p

pub both_r : (a b : Bool) → both a b ≡ true → b ≡ true
unfolding both
both_r true b p = p
both_r false b p = let z : ◌≡◌ {A = ℕ} 0 1 = cc in absurd (omega arith)

pub both_false_l : (a b : Bool) → a ≡ false → false ≡ both a b
unfolding both
both_false_l a b p = cc

pub both_false_r : (a b : Bool) → a ≡ true → b ≡ false → false ≡ both a b
unfolding both
both_false_r a b p q = cc

pub both_both : (a b c : Bool) → both (both a b) c ≡ both a (both b c)
unfolding both
both_both true b c = refl
both_both false b c = refl

pub both_swap : (a b c : Bool) → both a (both b c) ≡ both b (both a c)
unfolding both
both_swap true b c = refl
both_swap false true c = refl
both_swap false false c = refl

pub both_end : (a : Bool) → both a true ≡ a
unfolding both
both_end true = refl
both_end false = refl

-- two truth values of which each makes the other true
pub same_truth : (a b : Bool) → (a ≡ true → b ≡ true) → (b ≡ true → a ≡ true) → a ≡ b
same_truth true b f g = sym (f refl)
same_truth false true f g = g refl
same_truth false false f g = refl

pub implies_i : (a b : Bool) → (a ≡ true → b ≡ true) → implies a b ≡ true
unfolding implies
implies_i true b f = f refl
implies_i false b f = refl

pub implies_e : (a b : Bool) → implies a b ≡ true → a ≡ true → b ≡ true
unfolding implies
implies_e true b p q = p
implies_e false b p q = let z : ◌≡◌ {A = ℕ} 0 1 = cc in absurd (omega arith)

module _ {A : Type 0} where
  pub choose_true : (b : Bool) (x y : A) → b ≡ true → choose b x y ≡ x
  unfolding choose
  choose_true b x y p = cc

  pub choose_false : (b : Bool) (x y : A) → b ≡ false → choose b x y ≡ y
  unfolding choose
  choose_false b x y p = cc

-- the test of a choice, taken apart
pub choose_e : (b x y : Bool) → choose b x y ≡ true → b ≡ true → x ≡ true
choose_e b x y h e = sym (choose_true b x y e) ∙ h

pub choose_else : (b x y : Bool) → choose b x y ≡ true → b ≡ false → y ≡ true
choose_else b x y h e = sym (choose_false b x y e) ∙ h

-- ---- decisions: what a branch of the code knows picks the case of a definition
module _ {A : Type 0} where
  pub if_true : (x y z : A) (b : Bool) → b ≡ true → x ≡ y → x ≡ choose b y z
  if_true x y z b p e = e ∙ sym (choose_true b y z p)

  pub if_false : (x y z : A) (b : Bool) → b ≡ false → x ≡ z → x ≡ choose b y z
  if_false x y z b p e = e ∙ sym (choose_false b y z p)

  pub if_lt : (x y z : A) (a b : ℕ) → a < b → x ≡ y → x ≡ choose (ltb a b) y z
  if_lt x y z a b p e = if_true x y z _ (lt-ltb a b p) e

  pub if_not_lt : (x y z : A) (a b : ℕ) → b ≤ a → x ≡ z → x ≡ choose (ltb a b) y z
  if_not_lt x y z a b p e = if_false x y z _ (le-ltb a b p) e

  pub if_le : (x y z : A) (a b : ℕ) → a ≤ b → x ≡ y → x ≡ choose (leb a b) y z
  if_le x y z a b p e = if_true x y z _ (le-leb a b p) e

  pub if_not_le : (x y z : A) (a b : ℕ) → b < a → x ≡ z → x ≡ choose (leb a b) y z
  if_not_le x y z a b p e = if_false x y z _ (lt-leb a b p) e

  pub if_eq : (x y z : A) (a b : ℕ) → a ≡ b → x ≡ y → x ≡ choose (eqb a b) y z
  if_eq x y z a b p e = if_true x y z _ (eq-eqb a b p) e

  pub if_ne : (x y z : A) (a b : ℕ) → (a ≡ b → ⊥) → x ≡ z → x ≡ choose (eqb a b) y z
  if_ne x y z a b p e = if_false x y z _ (ne_eqb a b p) e

  -- the test is what a callee answered
  pub if_call : (x y z : A) (b answer : Bool) → answer ≡ true → answer ≡ b → x ≡ y → x ≡ choose b y z
  if_call x y z b answer p q e = if_true x y z b (sym q ∙ p) e

  pub if_not_call : (x y z : A) (b answer : Bool) → answer ≡ false → answer ≡ b → x ≡ z → x ≡ choose b y z
  if_not_call x y z b answer p q e = if_false x y z b (sym q ∙ p) e

pub ruleset branches = (if_true, if_false, if_lt, if_not_lt, if_le, if_not_le, if_eq, if_ne)

-- ---- a number within a range
pub in_range_law : (low x high : ℕ) → low ≤ x → x ≤ high → in_range low x high ≡ true
unfolding in_range
in_range_law low x high h g = both_i _ _ (le-leb low x h) (le-leb x high g)

pub in_range_low : (low x high : ℕ) → in_range low x high ≡ true → low ≤ x
unfolding in_range
in_range_low low x high h = leb-true low x (both_l _ _ h)

pub in_range_high : (low x high : ℕ) → in_range low x high ≡ true → x ≤ high
unfolding in_range
in_range_high low x high h = leb-true x high (both_r (leb low x) _ h)

-- ---- tests at each number below n
pub all_i : (n : ℕ) (test : ℕ → Bool) → ((i : ℕ) → i < n → test i ≡ true) → all n test ≡ true
unfolding all
all_i zero test f = refl
all_i (suc n) test f = both_i _ _ (all_i n test (λ i h. f i (omega arith))) (f n (omega arith))

pub split : (i n : ℕ) → i < suc n → (i < n) ⊎ (i ≡ n)
split i n h = go (dec_le n i)
  where
    go : Dec (n ≤ i) → (i < n) ⊎ (i ≡ n)
    go (yes p) = inr (omega arith)
    go (no q) = inl (omega arith)

last_or : (n i : ℕ) (test : ℕ → Bool) → (i < n → test i ≡ true) → test n ≡ true → (i < n) ⊎ (i ≡ n) → test i ≡ true
last_or n i test f p (inl l) = f l
last_or n i test f p (inr e) = rw e p

pub all_e : (n : ℕ) (test : ℕ → Bool) → all n test ≡ true → (i : ℕ) → i < n → test i ≡ true
unfolding all
all_e zero test p i h = absurd (not-suc-le-zero h)
all_e (suc n) test p i h =
    last_or n i test (all_e n test (both_l _ _ p) i) (both_r (all n test) _ p) (split i n h)

-- a test that fails below n
pub all_fails : (n : ℕ) (test : ℕ → Bool) (i : ℕ) → i < n → test i ≡ false → false ≡ all n test
all_fails n test i h p = go (all n test) refl
  where
    go : (b : Bool) → all n test ≡ b → false ≡ b
    go true e = sym (sym (all_e n test e i h) ∙ p)
    go false e = refl

-- ---- the length of an array of records, as owning it tells
pub length_mapped : {X Y : Type 0} (f : X → Y) (l : List X) (n : ℕ) → length (map f l) ≡ n → length l ≡ n
length_mapped f l n p = sym (length-map l f) ∙ p
