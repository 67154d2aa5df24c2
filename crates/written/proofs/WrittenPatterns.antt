-- Targets and patterns (`specs/Instruction.antt`, `specs/ImageOf.antt`, 5): what is read is what is written.
-- Assumes nothing.
use Prim.Native.Nat.{ℕ, zero, suc, ◌+◌, ◌<◌, ◌≤◌}
use mathlib.Core.Path.{◌≡◌, refl, sym, ap, subst}
use mathlib.Core.Bool.{Bool, true, false, not}
use mathlib.Core.List.{List, [], ◌∷◌, ◌++◌}
use native.Mathlib.Omega.{arith}
use lib.Dec.{ltb}
use lib.IntN.{ℤ}
use borrow.Author.Tests.{ltb-true, lt-ltb}
use Rattle.net.specs.Choice.{implies}
use Rattle.written.specs.Types.{Locality, Target, Pattern, Instruction}
use Rattle.sound.specs.Soundness.{target_sound, pattern_sound, is_actual, unbound_before, binds_anew}
use Rattle.readers.specs.Reader.{pure, alternative}
use Rattle.instructions.specs.Instruction.{written_target, held_target, target, reading_pattern, address_pattern, held_pattern}
use Rattle.instructions.specs.Instruction.{fresh, formal_reading, formal_address, kind, pattern}
use Rattle.written.specs.ImageOf.{bits_of, address_bits, reading_bits, variable_bits, target_bits, pattern_bits}
use Rattle.fresh.specs.Fresh.{reading_fits, pattern_fits}
use Rattle.net.proofs.Laws.{implies_i}
use Rattle.written.proofs.ReadsWrites.{Reads, Ranged, reads_as, reads_map, reads_pure, reads_field}
use Rattle.written.proofs.ReadsParts.{Kinded, reads_kind, reads_tested}
use Rattle.written.proofs.WrittenFields.{reads_address, reads_variable, reads_reading}

-- ---- targets
target_kind : Target → ℕ
target_kind (Target.Written l) = 0
target_kind Target.Own = 1
target_kind (Target.Held v) = 2

target_rest : Target → List Bool
target_rest (Target.Written l) = address_bits l
target_rest Target.Own = []
target_rest (Target.Held v) = variable_bits v

target_starts : (t : Target) → target_bits t ≡ bits_of 2 (target_kind t) ++ target_rest t
unfolding target_bits target_kind target_rest bits_of
target_starts (Target.Written l) = refl
target_starts Target.Own = refl
target_starts (Target.Held v) = refl

target_ranged : (t : Target) → Ranged 0 3 (target_kind t)
unfolding target_kind
target_ranged (Target.Written l) = record { above = omega arith; below = omega arith }
target_ranged Target.Own = record { above = omega arith; below = omega arith }
target_ranged (Target.Held v) = record { above = omega arith; below = omega arith }

module _ (n : ℕ) (h : n ≤ 16) where
  abbrev TargetOf : ℕ → Target → Type 0
  TargetOf = Kinded target_kind (λ t. target_sound n t ≡ true)

  reads_written : Reads (written_target n) target_rest (TargetOf 0)
  unfolding written_target target_rest target_kind target_sound
  reads_written =
      reads_map Target.Written (reads_address n h) (λ l f. record { kind_is = refl; good = lt-ltb l.0 n f })
      (λ l f. refl) parts
    where
      parts : (b : Target) → TargetOf 0 b → (l : Locality) × (l.0 < n) × (Target.Written l ≡ b)
      parts (Target.Written l) k = (l, ltb-true l.0 n k.good, refl)
      parts Target.Own k = absurd (omega (arith, k.kind_is))
      parts (Target.Held v) k = absurd (omega (arith, k.kind_is))

  reads_own : Reads (pure Target.Own) target_rest (TargetOf 1)
  unfolding target_rest target_kind target_sound
  reads_own = reads_as (reads_pure Target.Own) there back (λ b e. ap target_rest (sym e))
    where
      there : (b : Target) → Target.Own ≡ b → TargetOf 1 b
      there b e = subst (TargetOf 1) e (record { kind_is = refl; good = refl })

      back : (b : Target) → TargetOf 1 b → Target.Own ≡ b
      back (Target.Written l) k = absurd (omega (arith, k.kind_is))
      back Target.Own k = refl
      back (Target.Held v) k = absurd (omega (arith, k.kind_is))

  reads_held : Reads held_target target_rest (TargetOf 2)
  unfolding held_target target_rest target_kind target_sound
  reads_held =
      reads_map Target.Held reads_variable (λ v f. record { kind_is = refl; good = lt-ltb v 8 f }) (λ v f. refl) parts
    where
      parts : (b : Target) → TargetOf 2 b → (v : ℕ) × (v < 8) × (Target.Held v ≡ b)
      parts (Target.Written l) k = absurd (omega (arith, k.kind_is))
      parts Target.Own k = absurd (omega (arith, k.kind_is))
      parts (Target.Held v) k = (v, ltb-true v 8 k.good, refl)

  reads_alternative : (v : ℕ) → Ranged 0 3 v
      → Reads (alternative (written_target n ∷ pure Target.Own ∷ []) held_target v) target_rest (TargetOf v)
  unfolding alternative
  reads_alternative zero r = reads_written
  reads_alternative (suc zero) r = reads_own
  reads_alternative (suc (suc zero)) r = reads_held
  reads_alternative (suc (suc (suc v))) r = absurd (omega (arith, r.below))

  pub reads_target : Reads (target n) target_bits (λ t. target_sound n t ≡ true)
  unfolding target
  reads_target =
      reads_kind target_kind target_rest (reads_field 2 0 3 25 (omega arith)) (λ t ok. target_ranged t) target_starts
      reads_alternative

-- ---- patterns
pattern_kind : Pattern → ℕ
pattern_kind (Pattern.Reading x) = 0
pattern_kind (Pattern.Address l) = 1
pattern_kind Pattern.Own = 2
pattern_kind (Pattern.Held v) = 3
pattern_kind (Pattern.FormalReading v) = 4
pattern_kind (Pattern.FormalAddress v) = 5

pattern_rest : Pattern → List Bool
pattern_rest (Pattern.Reading x) = reading_bits x
pattern_rest (Pattern.Address l) = address_bits l
pattern_rest Pattern.Own = []
pattern_rest (Pattern.Held v) = variable_bits v
pattern_rest (Pattern.FormalReading v) = variable_bits v
pattern_rest (Pattern.FormalAddress v) = variable_bits v

pattern_starts : (x : Pattern) → pattern_bits x ≡ bits_of 3 (pattern_kind x) ++ pattern_rest x
unfolding pattern_bits pattern_kind pattern_rest bits_of
pattern_starts (Pattern.Reading x) = refl
pattern_starts (Pattern.Address l) = refl
pattern_starts Pattern.Own = refl
pattern_starts (Pattern.Held v) = refl
pattern_starts (Pattern.FormalReading v) = refl
pattern_starts (Pattern.FormalAddress v) = refl

-- a pattern by itself: addresses and variables in range, a reading of 32 bits, no formal where none is allowed
pub record PatternOk (formals : Bool) (n : ℕ) (x : Pattern) : Type 0 where
  pub sound : pattern_sound n x ≡ true
  pub fits : pattern_fits x ≡ true
  pub allowed : implies (not formals) (is_actual x) ≡ true

-- the same of the next field of the template c, with rule 27
pub record NextOk (formals : Bool) (n : ℕ) (c : Instruction) (x : Pattern) : Type 0 where
  pub ok : PatternOk formals n x
  pub anew : binds_anew c c.count x ≡ true

KindOk : Bool → ℕ → Type 0
KindOk formals v = (Ranged 0 6 v) × (implies (not formals) (ltb v 4) ≡ true)

reads_pattern_kind : (formals : Bool) → Reads (kind formals) (bits_of 3) (KindOk formals)
unfolding kind KindOk
reads_pattern_kind formals = reads_tested 3 (λ v. implies (not formals) (ltb v 4)) 26 (reads_field 3 0 6 25 (omega arith))

kind_ok : (formals : Bool) (n : ℕ) (x : Pattern) → PatternOk formals n x → KindOk formals (pattern_kind x)
unfolding KindOk pattern_kind is_actual
kind_ok formals n (Pattern.Reading x) ok = (omega arith, ok.allowed)
kind_ok formals n (Pattern.Address l) ok = (omega arith, ok.allowed)
kind_ok formals n Pattern.Own ok = (omega arith, ok.allowed)
kind_ok formals n (Pattern.Held v) ok = (omega arith, ok.allowed)
kind_ok formals n (Pattern.FormalReading v) ok = (omega arith, ok.allowed)
kind_ok formals n (Pattern.FormalAddress v) ok = (omega arith, ok.allowed)

-- what a pattern of each kind is
data PatternView : ℕ → Pattern → Type 0 where
  is_reading : (x : ℤ) → PatternView 0 (Pattern.Reading x)
  is_address : (l : Locality) → PatternView 1 (Pattern.Address l)
  is_own : PatternView 2 Pattern.Own
  is_held : (v : ℕ) → PatternView 3 (Pattern.Held v)
  is_formal_reading : (v : ℕ) → PatternView 4 (Pattern.FormalReading v)
  is_formal_address : (v : ℕ) → PatternView 5 (Pattern.FormalAddress v)

view : (x : Pattern) → PatternView (pattern_kind x) x
unfolding pattern_kind
view (Pattern.Reading x) = is_reading x
view (Pattern.Address l) = is_address l
view Pattern.Own = is_own
view (Pattern.Held v) = is_held v
view (Pattern.FormalReading v) = is_formal_reading v
view (Pattern.FormalAddress v) = is_formal_address v

viewed : {Good : Pattern → Type 0} {v : ℕ} (x : Pattern) → Kinded pattern_kind Good v x → PatternView v x
viewed x k = subst (λ (i : ℕ). PatternView i x) k.kind_is (view x)

module _ (formals : Bool) (n : ℕ) (c : Instruction) (h : n ≤ 16) where
  abbrev PatternOf : ℕ → Pattern → Type 0
  PatternOf = Kinded pattern_kind (NextOk formals n c)

  reads_reading_pattern : Reads reading_pattern pattern_rest (PatternOf 0)
  unfolding reading_pattern pattern_rest pattern_kind pattern_sound pattern_fits is_actual binds_anew
  reads_reading_pattern =
      reads_map Pattern.Reading reads_reading
      (λ x f. record {
        kind_is = refl;
        good = record { ok = record { sound = refl; fits = f; allowed = implies_i _ _ (λ _. refl) }; anew = refl };
      })
      (λ x f. refl) (λ b k. parts b k (viewed b k))
    where
      parts : (b : Pattern) → PatternOf 0 b → PatternView 0 b → (x : ℤ) × (reading_fits x ≡ true) × (Pattern.Reading x ≡ b)
      parts _ k (is_reading x) = (x, k.good.ok.fits, refl)

  reads_address_pattern : Reads (address_pattern n) pattern_rest (PatternOf 1)
  unfolding address_pattern pattern_rest pattern_kind pattern_sound pattern_fits is_actual binds_anew
  reads_address_pattern =
      reads_map Pattern.Address (reads_address n h)
      (λ l f. record {
        kind_is = refl;
        good = record {
          ok = record { sound = lt-ltb l.0 n f; fits = refl; allowed = implies_i _ _ (λ _. refl) };
          anew = refl;
        };
      })
      (λ l f. refl) (λ b k. parts b k (viewed b k))
    where
      parts : (b : Pattern) → PatternOf 1 b → PatternView 1 b → (l : Locality) × (l.0 < n) × (Pattern.Address l ≡ b)
      parts _ k (is_address l) = (l, ltb-true l.0 n k.good.ok.sound, refl)

  reads_own_pattern : Reads (pure Pattern.Own) pattern_rest (PatternOf 2)
  unfolding pattern_rest pattern_kind pattern_sound pattern_fits is_actual binds_anew
  reads_own_pattern = reads_as (reads_pure Pattern.Own) there (λ b k. back b (viewed b k)) (λ b e. ap pattern_rest (sym e))
    where
      there : (b : Pattern) → Pattern.Own ≡ b → PatternOf 2 b
      there b e = subst (PatternOf 2) e (record {
        kind_is = refl;
        good = record { ok = record { sound = refl; fits = refl; allowed = implies_i _ _ (λ _. refl) }; anew = refl };
      })

      back : (b : Pattern) → PatternView 2 b → Pattern.Own ≡ b
      back _ is_own = refl

  reads_held_pattern : Reads held_pattern pattern_rest (PatternOf 3)
  unfolding held_pattern pattern_rest pattern_kind pattern_sound pattern_fits is_actual binds_anew
  reads_held_pattern =
      reads_map Pattern.Held reads_variable
      (λ v f. record {
        kind_is = refl;
        good = record {
          ok = record { sound = lt-ltb v 8 f; fits = refl; allowed = implies_i _ _ (λ _. refl) };
          anew = refl;
        };
      })
      (λ v f. refl) (λ b k. parts b k (viewed b k))
    where
      parts : (b : Pattern) → PatternOf 3 b → PatternView 3 b → (v : ℕ) × (v < 8) × (Pattern.Held v ≡ b)
      parts _ k (is_held v) = (v, ltb-true v 8 k.good.ok.sound, refl)

  reads_fresh : Reads (fresh c) variable_bits (λ v. (v < 8) × (unbound_before c c.count v ≡ true))
  unfolding fresh
  reads_fresh = reads_tested 3 (unbound_before c c.count) 27 reads_variable

  reads_formal_reading : implies (not formals) false ≡ true → Reads (formal_reading c) pattern_rest (PatternOf 4)
  unfolding formal_reading pattern_rest pattern_kind pattern_sound pattern_fits is_actual binds_anew
  reads_formal_reading may =
      reads_map Pattern.FormalReading reads_fresh
      (λ v f. record {
        kind_is = refl;
        good = record { ok = record { sound = lt-ltb v 8 f.0; fits = refl; allowed = may }; anew = f.1 };
      })
      (λ v f. refl) (λ b k. parts b k (viewed b k))
    where
      parts : (b : Pattern) → PatternOf 4 b → PatternView 4 b
          → (v : ℕ) × ((v < 8) × (unbound_before c c.count v ≡ true)) × (Pattern.FormalReading v ≡ b)
      parts _ k (is_formal_reading v) = (v, (ltb-true v 8 k.good.ok.sound, k.good.anew), refl)

  reads_formal_address : implies (not formals) false ≡ true → Reads (formal_address c) pattern_rest (PatternOf 5)
  unfolding formal_address pattern_rest pattern_kind pattern_sound pattern_fits is_actual binds_anew
  reads_formal_address may =
      reads_map Pattern.FormalAddress reads_fresh
      (λ v f. record {
        kind_is = refl;
        good = record { ok = record { sound = lt-ltb v 8 f.0; fits = refl; allowed = may }; anew = f.1 };
      })
      (λ v f. refl) (λ b k. parts b k (viewed b k))
    where
      parts : (b : Pattern) → PatternOf 5 b → PatternView 5 b
          → (v : ℕ) × ((v < 8) × (unbound_before c c.count v ≡ true)) × (Pattern.FormalAddress v ≡ b)
      parts _ k (is_formal_address v) = (v, (ltb-true v 8 k.good.ok.sound, k.good.anew), refl)

  reads_pattern_of : (v : ℕ) → KindOk formals v
      → Reads
      (alternative
      (reading_pattern ∷ address_pattern n ∷ pure Pattern.Own ∷ held_pattern ∷ formal_reading c ∷ [])
      (formal_address c)
      v)
      pattern_rest (PatternOf v)
  unfolding alternative KindOk
  reads_pattern_of zero r = reads_reading_pattern
  reads_pattern_of (suc zero) r = reads_address_pattern
  reads_pattern_of (suc (suc zero)) r = reads_own_pattern
  reads_pattern_of (suc (suc (suc zero))) r = reads_held_pattern
  reads_pattern_of (suc (suc (suc (suc zero)))) r = reads_formal_reading r.1
  reads_pattern_of (suc (suc (suc (suc (suc zero))))) r = reads_formal_address r.1
  reads_pattern_of (suc (suc (suc (suc (suc (suc v)))))) r = absurd (omega (arith, r.0.below))

  pub reads_pattern : Reads (pattern formals n c) pattern_bits (NextOk formals n c)
  unfolding pattern
  reads_pattern =
      reads_kind pattern_kind pattern_rest (reads_pattern_kind formals) (λ x ok. kind_ok formals n x ok.ok)
      pattern_starts reads_pattern_of
