-- Laws of outcomes (`specs/Reader.antt`), and of numbers that are none of the first few. Assumes nothing.
use Prim.Native.Nat.{ℕ, ◌≤◌}
use mathlib.Core.Path.{◌≡◌, refl, sym}
use mathlib.Core.Bool.{Bool, true, false}
use native.Mathlib.Omega.{arith}
use Rattle.net.specs.Choice.{choose}
use Rattle.readers.specs.Reader.{Fault, Parsed, got, fault}

pub past2 : (k : ℕ) → (k ≡ 0 → ⊥) → (k ≡ 1 → ⊥) → 2 ≤ k
past2 k a b = omega arith

pub past5 : (k : ℕ) → (k ≡ 0 → ⊥) → (k ≡ 1 → ⊥) → (k ≡ 2 → ⊥) → (k ≡ 3 → ⊥) → (k ≡ 4 → ⊥) → 5 ≤ k
past5 k a b c d e = omega arith

pub past6 : (k : ℕ) → (k ≡ 0 → ⊥) → (k ≡ 1 → ⊥) → (k ≡ 2 → ⊥) → (k ≡ 3 → ⊥) → (k ≡ 4 → ⊥) → (k ≡ 5 → ⊥) → 6 ≤ k
past6 k a b c d e f = omega arith

pub past7 : (k : ℕ) → (k ≡ 0 → ⊥) → (k ≡ 1 → ⊥) → (k ≡ 2 → ⊥) → (k ≡ 3 → ⊥) → (k ≡ 4 → ⊥) → (k ≡ 5 → ⊥) → (k ≡ 6 → ⊥) → 7 ≤ k
past7 k a b c d e f g = let h = past6 k a b c d e f in omega arith

-- ---- outcomes

-- no fault is a value
pub no_fault : {A C : Type 0} {n : Fault} {a : A} {q : ℕ} → fault n ≡ got a q → C
no_fault e = let z : ◌≡◌ {A = ℕ} 0 1 = cc in absurd (omega arith)

pub same_faults : {A : Type 0} {f g : Fault} → ◌≡◌ {A = Parsed A} (fault f) (fault g) → f ≡ g
same_faults e = cc

-- a test that came out well
pub choose_got : {A : Type 0} (t : Bool) {x : Parsed A} (n : Fault) {a : A} {q : ℕ} → choose t x (fault n) ≡ got a q
    → (t ≡ true) × (x ≡ got a q)
unfolding choose
choose_got true n e = (refl, e)
choose_got false n e = no_fault e

-- one that came out badly
pub choose_fault : {A : Type 0} (t : Bool) (a : A) (q : ℕ) (n f : Fault) → choose t (got a q) (fault n) ≡ fault f → n ≡ f
unfolding choose
choose_fault true a q n f e = no_fault (sym e)
choose_fault false a q n f e = same_faults e

pub same_value : {A : Type 0} {a b : A} {p q : ℕ} → got a p ≡ got b q → a ≡ b
same_value e = cc
