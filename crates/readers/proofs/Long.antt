-- How far readers go whose places count bytes (`specs/Reader.antt`): what holds of every value that a reader gives and of
-- the number of bytes that it read, none of them past the end. One law for each way to make a reader. Assumes nothing.
use Prim.Native.Nat.{ℕ, zero, suc, ◌+◌, ◌-◌, ◌≤◌}
use mathlib.Core.Path.{◌≡◌, subst}
use mathlib.Core.Bool.{Bool, true, false}
use mathlib.Core.List.{List}
use native.Mathlib.Omega.{arith}
use lib.ListN.{length}
use Rattle.net.specs.Choice.{choose}
use Rattle.readers.specs.Reader.{Fault, Parsed, got, fault, Reader, pure, and_then, ◌>>=◌, ◌>>◌, turns, each, require_in, require}

-- from place p to place q: the bytes between them stand in the text, and P holds of how many they are
pub record Span (s : List ℕ) (p q : ℕ) (P : ℕ → Type 0) : Type 0 where
  pub count : ℕ
  pub end : q ≡ p + count
  pub within : count ≤ length s - p
  pub holds : P count

-- the same of an outcome, where P speaks of its value too
pub data Spans {A : Type 0} (s : List ℕ) (p : ℕ) (P : A → ℕ → Type 0) : Parsed A → Type 0 where
  value : {a : A} {q : ℕ} → Span s p q (P a) → Spans s p P (got a q)
  stopped : {f : Fault} → Spans s p P (fault f)

-- and of every outcome of a reader
pub record Long {A : Type 0} (m : Reader A) (P : A → ℕ → Type 0) : Type 0 where
  pub run : (s : List ℕ) (p : ℕ) → Spans s p P (m s p)

-- whatever it gives, and however many bytes it read
abbrev pub Any : {A : Type 0} → A → ℕ → Type 0
Any a i = Unit {0}

module _ {A : Type 0} where
  span_got : {P : A → ℕ → Type 0} {s : List ℕ} {p q : ℕ} {a : A} → Spans s p P (got a q) → Span s p q (P a)
  span_got (value h) = h

  pub long_got :
      {P : A → ℕ → Type 0} {m : Reader A} → Long m P → (s : List ℕ) (p : ℕ) (a : A) (q : ℕ) → m s p ≡ got a q
      → Span s p q (P a)
  long_got {P} l s p a q e = span_got (subst (λ (o : Parsed A). Spans s p P o) e (l.run s p))

  pub long_pure : (P : A → ℕ → Type 0) (a : A) → P a 0 → Long (pure a) P
  unfolding pure
  long_pure P a h = record { run = λ s p. value {q = p} (record { count = 0; end = omega arith; within = omega arith; holds = h }) }

  spans_weaken :
      {P Q : A → ℕ → Type 0} {s : List ℕ} {p : ℕ} {o : Parsed A} → ((a : A) (i : ℕ) → P a i → Q a i)
      → Spans s p P o → Spans s p Q o
  spans_weaken f (value {a} h) =
      value (record { count = h.count; end = h.end; within = h.within; holds = f a h.count h.holds })
  spans_weaken f stopped = stopped

  pub long_weaken : {P Q : A → ℕ → Type 0} {m : Reader A} → Long m P → ((a : A) (i : ℕ) → P a i → Q a i) → Long m Q
  long_weaken l f = record { run = λ s p. spans_weaken f (l.run s p) }

  pub long_choice : (P : A → ℕ → Type 0) (b : Bool) (m r : Reader A) → Long m P → Long r P → Long (choose b m r) P
  unfolding choose
  long_choice P true m r l h = l
  long_choice P false m r l h = h

-- ---- one reader after another
spans_on :
    {B : Type 0} {Q : B → ℕ → Type 0} {s : List ℕ} {p q : ℕ} {o : Parsed B} (i : ℕ) → q ≡ p + i → i ≤ length s - p
    → Spans s q (λ b j. Q b (i + j)) o → Spans s p Q o
spans_on i e w (value {q = r} h) =
    value {q = r} (record { count = i + h.count; end = omega arith; within = omega arith; holds = h.holds })
spans_on i e w stopped = stopped

module _ {A B : Type 0} where
  spans_then :
      {P : A → ℕ → Type 0} {Q : B → ℕ → Type 0} {s : List ℕ} {p : ℕ} {o : Parsed A} (f : A → Reader B) → Spans s p P o
      → ((a : A) (i : ℕ) → P a i → Long (f a) (λ b j. Q b (i + j))) → Spans s p Q (and_then o s f)
  unfolding and_then
  spans_then {s} f (value {a} {q} h) g = spans_on h.count h.end h.within ((g a h.count h.holds).run s q)
  spans_then f stopped g = stopped

  pub long_then :
      {P : A → ℕ → Type 0} {Q : B → ℕ → Type 0} {m : Reader A} {f : A → Reader B} → Long m P
      → ((a : A) (i : ℕ) → P a i → Long (f a) (λ b j. Q b (i + j))) → Long (m >>= f) Q
  unfolding ◌>>=◌
  long_then {f} l h = record { run = λ s p. spans_then f (l.run s p) h }

  pub long_and :
      {P : A → ℕ → Type 0} {Q : B → ℕ → Type 0} {m : Reader A} {f : Reader B} → Long m P
      → ((a : A) (i : ℕ) → P a i → Long f (λ b j. Q b (i + j))) → Long (m >> f) Q
  unfolding ◌>>◌
  long_and l h = long_then l h

-- ---- readers of which no more is said than that they do not go back, nor past the end
pub goes : {A : Type 0} {P : A → ℕ → Type 0} {m : Reader A} → Long m P → Long m Any
goes l = long_weaken l (λ _ _ _. tt)

pub goes_pure : {A : Type 0} (a : A) → Long (pure a) Any
goes_pure a = long_pure Any a tt

pub goes_then : {A B : Type 0} {m : Reader A} {f : A → Reader B} → Long m Any → ((a : A) → Long (f a) Any) → Long (m >>= f) Any
goes_then l h = long_then l (λ a _ _. h a)

pub goes_and : {A B : Type 0} {m : Reader A} {f : Reader B} → Long m Any → Long f Any → Long (m >> f) Any
goes_and l h = long_and l (λ _ _ _. h)

pub goes_choice : {A : Type 0} (b : Bool) (m r : Reader A) → Long m Any → Long r Any → Long (choose b m r) Any
goes_choice b m r l h = long_choice Any b m r l h

module _ {A : Type 0} (f : ℕ → A → Reader A) (l : (i : ℕ) (a : A) → Long (f i a) Any) where
  goes_turns : (k i : ℕ) (a : A) → Long (turns k i f a) Any
  unfolding turns
  goes_turns zero i a = goes_pure a
  goes_turns (suc k) i a = goes_then (l i a) (goes_turns k (suc i))

  pub goes_each : (n : ℕ) (a : A) → Long (each n f a) Any
  unfolding each
  goes_each n a = goes_turns n 0 a

pub goes_require : (ok : Bool) (n : ℕ) → Long (require ok n) Any
unfolding require require_in choose pure
goes_require true n = goes_pure tt
goes_require false n = record { run = λ s p. stopped }

-- with these and those of its own bytes `search` proves it of a reader
pub ruleset going = (goes_pure, goes_then, goes_and, goes_choice, goes_each, goes_require)
