-- Laws of what readers answer (`came` and `Turning` of `specs/Progress.antt`): what the parts came to, the whole comes to.
-- Assumes nothing.
use Prim.Native.Nat.{ℕ, suc, ◌+◌, ◌-◌, ◌<◌, ◌≤◌}
use mathlib.Core.Path.{◌≡◌, refl, sym, ap, ◌∙◌}
use mathlib.Core.Bool.{Bool, true, false}
use mathlib.Core.List.{List}
use native.Mathlib.Nat.{sub-zero}
use native.Mathlib.Numerals.{add-one}
use native.Mathlib.Omega.{arith}
use Rattle.std.proofs.Common.{Result, Ok, Err}
use Rattle.readers.specs.Reader.{Fault, Parsed, Reader, pure, and_then, ◌>>=◌, ◌>>◌, turns, each}
use Rattle.readers.specs.Reader.{fault_at, require_in, tested}
use Rattle.net.specs.Choice.{choose}
use Rattle.readers.specs.Progress.{came, Turning}

-- a value with nothing read
pub pure_came : {A : Type 0} (s : List ℕ) (p : ℕ) (a : A) → came (Ok a) p ≡ pure a s p
unfolding came pure
pure_came s p a = refl

-- one reader, and another with its value; a fault stays
module _ {A B : Type 0} {s : List ℕ} {p : ℕ} (m : Reader A) (f : A → Reader B) where
  pub then_came :
      (a : A) (q : ℕ) (o : Result B Fault) (r : ℕ) → came (Ok a) q ≡ m s p → came o r ≡ f a s q
      → came o r ≡ (m >>= f) s p
  unfolding came ◌>>=◌ and_then
  then_came a q o r e d = d ∙ ap (λ (x : Parsed A). and_then x s f) e

  pub stop_came : (e : Fault) (q r : ℕ) → came {A = A} (Err e) q ≡ m s p → came {A = B} (Err e) r ≡ (m >>= f) s p
  unfolding came ◌>>=◌ and_then
  stop_came e q r h = ap (λ (x : Parsed A). and_then x s f) h

-- ---- loops
module _ {A : Type 0} (s : List ℕ) (p₀ n : ℕ) (f : ℕ → A → Reader A) (a₀ : A) where
  -- no turn is done
  pub turning_first : Turning s p₀ n f a₀ p₀ 0 a₀
  unfolding each
  turning_first = record { rest = rw sub-zero }

  one_more : (k i p q : ℕ) (a b : A) → n - i ≡ suc k → came (Ok b) q ≡ f i a s p
      → turns (n - i) i f a s p ≡ turns k (suc i) f b s q
  unfolding turns came ◌>>=◌ and_then
  one_more k i p q a b e d = rw (e, ← d)

  -- one more turn is done
  pub turning_more :
      (i p q : ℕ) (a b : A) → i < n → Turning s p₀ n f a₀ p i a → came (Ok b) q ≡ f i a s p
      → Turning s p₀ n f a₀ q (i + 1) b
  turning_more i p q a b h t d = record {
    rest =
        t.rest ∙ one_more (n - (i + 1)) i p q a b (omega arith) d ∙
        ap (λ (j : ℕ). turns (n - (i + 1)) j f b s q) (sym (add-one i));
  }

  one_stops : (k i p q r : ℕ) (a : A) (e : Fault) → n - i ≡ suc k → came {A = A} (Err e) q ≡ f i a s p
      → came {A = A} (Err e) r ≡ turns (n - i) i f a s p
  unfolding turns came ◌>>=◌ and_then
  one_stops k i p q r a e h d = rw (h, ← d) refl

  -- the turn comes to a fault, and with it the loop
  pub turning_stops :
      (i p q r : ℕ) (a : A) (e : Fault) → i < n → Turning s p₀ n f a₀ p i a → came {A = A} (Err e) q ≡ f i a s p
      → came {A = A} (Err e) r ≡ each n f a₀ s p₀
  turning_stops i p q r a e h t d = one_stops (n - (i + 1)) i p q r a e (omega arith) d ∙ sym t.rest

  none_left : (k i p : ℕ) (a : A) → k ≡ 0 → came (Ok a) p ≡ turns k i f a s p
  unfolding turns came pure
  none_left k i p a e = rw e refl

  -- every turn is done
  pub turning_done : (i p : ℕ) (a : A) → n ≤ i → Turning s p₀ n f a₀ p i a → came (Ok a) p ≡ each n f a₀ s p₀
  turning_done i p a h t = none_left (n - i) i p a (omega arith) ∙ sym t.rest

-- ---- a value that has to pass a test; the field begins at place p
module _ {A : Type 0} {s : List ℕ} {p : ℕ} (w : ℕ) (m : Reader A) (test : A → Bool) (n : ℕ) where
  pub tested_came : (a : A) (q : ℕ) → came (Ok a) q ≡ m s p → test a ≡ true → came (Ok a) q ≡ tested w m test n s p
  unfolding tested came require_in choose pure ◌>>=◌ ◌>>◌ and_then
  tested_came a q e t = rw (← e, t) refl

  pub untested_came : (a : A) (q r : ℕ) → came (Ok a) q ≡ m s p → test a ≡ false
      → came {A = A} (Err (fault_at n p w)) r ≡ tested w m test n s p
  unfolding tested came require_in choose pure ◌>>=◌ ◌>>◌ and_then
  untested_came a q r e t = rw (← e, t) refl

  pub tested_stop_came : (e : Fault) (q r : ℕ) → came {A = A} (Err e) q ≡ m s p → came {A = A} (Err e) r ≡ tested w m test n s p
  unfolding tested came ◌>>=◌ and_then
  tested_stop_came e q r h = rw (← h) refl
