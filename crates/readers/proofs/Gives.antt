-- The logic of readers (`specs/Reader.antt`): what holds of every value that a reader gives, and of the number of every
-- fault. One law for each way to make a reader. Assumes nothing.
use Prim.Native.Nat.{ℕ, zero, suc, ◌+◌, ◌<◌}
use mathlib.Core.Path.{◌≡◌, refl, subst}
use mathlib.Core.Bool.{Bool, true, false}
use mathlib.Core.List.{List, [], ◌∷◌}
use native.Mathlib.Omega.{arith}
use Rattle.net.specs.Choice.{choose}
use Rattle.readers.specs.Reader.{Fault, Parsed, got, fault, Reader, pure, and_then, ◌>>=◌, ◌>>◌, turns, each}
use Rattle.readers.specs.Reader.{alternative, fault_at, require_in, require, tested}

-- an outcome is good: P holds of the value, or N of the fault's number
pub data Fine {A : Type 0} (N : ℕ → Type 0) (P : A → Type 0) : Parsed A → Type 0 where
  value : {a : A} {q : ℕ} → P a → Fine N P (got a q)
  stopped : {f : Fault} → N f.number → Fine N P (fault f)

-- every outcome of the reader is good
pub record Gives {A : Type 0} (N : ℕ → Type 0) (m : Reader A) (P : A → Type 0) : Type 0 where
  pub run : (s : List ℕ) (p : ℕ) → Fine N P (m s p)

module _ {N : ℕ → Type 0} {A : Type 0} where
  pub gives_pure : (P : A → Type 0) (a : A) → P a → Gives N (pure a) P
  unfolding pure
  gives_pure P a h = record { run = λ s p. value h }

  fine_weaken : {P Q : A → Type 0} {o : Parsed A} → ((a : A) → P a → Q a) → Fine N P o → Fine N Q o
  fine_weaken f (value {a} h) = value (f a h)
  fine_weaken f (stopped l) = stopped l

  pub gives_weaken : {P Q : A → Type 0} {m : Reader A} → Gives N m P → ((a : A) → P a → Q a) → Gives N m Q
  gives_weaken g f = record { run = λ s p. fine_weaken f (g.run s p) }

module _ {N : ℕ → Type 0} {A B : Type 0} where
  fine_then :
      {P : A → Type 0} {Q : B → Type 0} {o : Parsed A} (f : A → Reader B) (s : List ℕ) → Fine N P o
      → ((a : A) → P a → Gives N (f a) Q) → Fine N Q (and_then o s f)
  unfolding and_then
  fine_then f s (value {a} {q} h) g = (g a h).run s q
  fine_then f s (stopped l) g = stopped l

  pub gives_then :
      {P : A → Type 0} {Q : B → Type 0} {m : Reader A} {f : A → Reader B} → Gives N m P
      → ((a : A) → P a → Gives N (f a) Q) → Gives N (m >>= f) Q
  unfolding ◌>>=◌
  gives_then {f} g h = record { run = λ s p. fine_then f s (g.run s p) h }

  pub gives_and :
      {P : A → Type 0} {Q : B → Type 0} {m : Reader A} {f : Reader B} → Gives N m P
      → ((a : A) → P a → Gives N f Q) → Gives N (m >> f) Q
  unfolding ◌>>◌
  gives_and g h = gives_then g h

-- ---- turns: the invariant speaks of the number of turns done
module _ {N : ℕ → Type 0} {A : Type 0} (Inv : ℕ → A → Type 0) (n : ℕ) (f : ℕ → A → Reader A)
    (again : (i : ℕ) → i < n → (a : A) → Inv i a → Gives N (f i a) (Inv (suc i))) where
  gives_turns : (k i : ℕ) (a : A) → k + i ≡ n → Inv i a → Gives N (turns k i f a) (Inv n)
  unfolding turns
  gives_turns zero i a e h =
      let z : i ≡ n = omega arith in gives_pure (Inv n) a (subst (λ (m : ℕ). Inv m a) z h)
  gives_turns (suc k) i a e h =
      gives_then (again i (omega arith) a h) (λ b g. gives_turns k (suc i) b (omega arith) g)

  pub gives_each : (a : A) → Inv 0 a → Gives N (each n f a) (Inv n)
  unfolding each
  gives_each a h = gives_turns n 0 a (omega arith) h

-- ---- alternatives, one by one
module _ {N : ℕ → Type 0} {A : Type 0} (P : A → Type 0) where
  pub gives_last : (last : Reader A) (k : ℕ) → Gives N last P → Gives N (alternative [] last k) P
  unfolding alternative
  gives_last last k g = g

  pub gives_first :
      (r : Reader A) (rs : List (Reader A)) (last : Reader A) (k : ℕ) → Gives N r P
      → ((j : ℕ) → k ≡ suc j → Gives N (alternative rs last j) P) → Gives N (alternative (r ∷ rs) last k) P
  unfolding alternative
  gives_first r rs last zero g h = g
  gives_first r rs last (suc j) g h = h j refl

  pub gives_choice : (b : Bool) (m r : Reader A) → Gives N m P → Gives N r P → Gives N (choose b m r) P
  unfolding choose
  gives_choice true m r g h = g
  gives_choice false m r g h = h

-- ---- a test
pub fine_unless :
    {N : ℕ → Type 0} {A : Type 0} (P : A → Type 0) (b : Bool) (o : Parsed A) (n at w : ℕ) → N n → (b ≡ true → Fine N P o)
    → Fine N P (choose b o (fault (fault_at n at w)))
unfolding choose fault_at
fine_unless P true o n at w l h = h refl
fine_unless P false o n at w l h = stopped l

pub gives_require_in : {N : ℕ → Type 0} (at w : ℕ) (ok : Bool) (n : ℕ) → N n → Gives N (require_in at w ok n) (λ _. ok ≡ true)
unfolding require_in
gives_require_in at w ok n l = record { run = λ s p. fine_unless (λ _. ok ≡ true) ok (got tt p) n at w l (λ e. value e) }

pub gives_require : {N : ℕ → Type 0} (ok : Bool) (n : ℕ) → N n → Gives N (require ok n) (λ _. ok ≡ true)
unfolding require
gives_require ok n l = record { run = λ s p. (gives_require_in p 0 ok n l).run s p }

-- a value that has to pass it
pub gives_tested :
    {N : ℕ → Type 0} {A : Type 0} {P : A → Type 0} {m : Reader A} (test : A → Bool) (n : ℕ) → N n → Gives N m P
    → Gives N (m >>= (λ a. require (test a) n >> pure a)) (λ a. P a × (test a ≡ true))
gives_tested test n l g = gives_then g (λ a h. gives_and (gives_require (test a) n l) (λ _ e. gives_pure _ a (h, e)))

-- a field that has to
gives_through :
    {N : ℕ → Type 0} {A : Type 0} {P : A → Type 0} {m : Reader A} (at w : ℕ) (test : A → Bool) (n : ℕ) → N n → Gives N m P
    → Gives N (m >>= (λ a. require_in at w (test a) n >> pure a)) (λ a. P a × (test a ≡ true))
gives_through at w test n l g = gives_then g (λ a h. gives_and (gives_require_in at w (test a) n l) (λ _ e. gives_pure _ a (h, e)))

pub gives_passing :
    {N : ℕ → Type 0} {A : Type 0} {P : A → Type 0} {m : Reader A} (w : ℕ) (test : A → Bool) (n : ℕ) → N n → Gives N m P
    → Gives N (tested w m test n) (λ a. P a × (test a ≡ true))
unfolding tested
gives_passing w test n l g = record { run = λ s p. (gives_through p w test n l g).run s p }

-- ---- whatever the number of a fault
abbrev pub Any : ℕ → Type 0
Any n = Unit {0}

fine_any : {A : Type 0} (o : Parsed A) → Fine Any (λ _. Unit {0}) o
fine_any (got a q) = value tt
fine_any (fault f) = stopped tt

pub any : {A : Type 0} (m : Reader A) → Gives Any m (λ _. Unit {0})
any m = record { run = λ s p. fine_any (m s p) }
