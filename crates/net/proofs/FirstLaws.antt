-- Laws of the loops that look for the lowest number below a bound at which a test holds (`first_below` of
-- `specs/Choice.antt`), stated over the test and the two results. Before each turn, what is left to look at gives what
-- the whole gives. Assumes nothing.
use Prim.Native.Nat.{ℕ, suc, ◌+◌, ◌-◌, ◌<◌, ◌≤◌}
use mathlib.Core.Path.{◌≡◌, sym, ◌∙◌}
use mathlib.Core.Bool.{Bool, true, false}
use native.Mathlib.Omega.{arith}
use native.Mathlib.Numerals.{add-one}
use Rattle.net.specs.Choice.{choose, first_from, first_below}
use Rattle.net.proofs.Laws.{choose_true, choose_false}

module _ {A : Type 0} (n : ℕ) (test : ℕ → Bool) (at : ℕ → A) (nothing : A) where
  -- the numbers from i on give what all of them give
  pub record Left (i : ℕ) : Type 0 where
    pub low : i ≤ n
    pub same : first_from (n - i) i test at nothing ≡ first_below n test at nothing

module _ {A : Type 0} (n : ℕ) (test : ℕ → Bool) (at : ℕ → A) (nothing : A) where
  -- nothing has been looked at
  pub first_start : Left n test at nothing 0
  unfolding first_below
  first_start = let z : n - 0 ≡ n = omega arith in record { low = omega arith; same = rw z }

  -- what the turn at i adds
  turn :
      (i : ℕ)
      → i < n
      → first_from (n - i) i test at nothing
      ≡ choose (test i) (at i) (first_from (n - suc i) (suc i) test at nothing)
  unfolding first_from
  turn i l = let e : n - i ≡ suc (n - suc i) = omega arith in rw e

  -- the test fails at i
  pub first_again :
      (i : ℕ) (b : Bool)
      → Left n test at nothing i
      → i < n
      → b ≡ test i
      → b ≡ false
      → Left n test at nothing (i + 1)
  first_again i b h l p q = rw add-one (record {
    low = omega arith;
    same = sym (turn i l ∙ choose_false (test i) _ _ (sym p ∙ q)) ∙ h.same;
  })

  -- the test holds at i
  pub first_here :
      (i : ℕ) (b : Bool) (x : A)
      → Left n test at nothing i
      → i < n
      → b ≡ test i
      → b ≡ true
      → x ≡ at i
      → x ≡ first_below n test at nothing
  first_here i b x h l p q e = e ∙ sym (turn i l ∙ choose_true (test i) _ _ (sym p ∙ q)) ∙ h.same

  -- nothing is left to look at
  pub first_none :
      (i : ℕ) (x : A)
      → Left n test at nothing i
      → n ≤ i
      → x ≡ nothing
      → x ≡ first_below n test at nothing
  unfolding first_from
  first_none i x h l e = let z : n - i ≡ 0 = omega arith in e ∙ (rw z at h.same)
