-- A template built field by field, as a reader of images or of texts builds it: a field that is judged by rules 26 and 27
-- when it is read keeps them, since no later field changes what stands before it.
-- Assumes nothing.
use Prim.Native.Nat.{ℕ, suc, ◌<◌, ◌≤◌}
use mathlib.Core.Path.{◌≡◌, refl}
use mathlib.Core.Bool.{Bool, true, false}
use native.Mathlib.Omega.{arith}
use lib.Dec.{eqb}
use lib.ListN.{length}
use borrow.Author.Tests.{lt-ltb}
use Rattle.net.specs.Records.{zero_template_field, zero_instruction, pattern_at, with_pattern, with_action}
use Rattle.sound.specs.Types.{Place, Target, Pattern, TemplateField, Action, Instruction}
use Rattle.sound.specs.Soundness.{target_sound, group_sound, pattern_sound, is_actual, unbound_before, binds_anew}
use Rattle.net.specs.declared.locality.Group.{Group}
use Rattle.net.proofs.Every.{chosen_lt, every_replicate, filled_add}
use Rattle.net.proofs.Past.{past_template}
use Rattle.sound.proofs.FormalLaws.{anew_as, each_put, anew_put}
use Rattle.sound.proofs.CodeFacts.{PatternsOk, TemplateOk, AtEach, Acts, InstructionOk}

-- behind the fields of c as rules 26 and 27 ask: an actual, where formals are not allowed, and no variable twice
pub record SuitsNext (formals : Bool) (n : ℕ) (c : Instruction) (x : Pattern) : Type 0 where
  pub pattern_sound_law : pattern_sound n x ≡ true
  pub actual : formals ≡ false → is_actual x ≡ true
  pub anew : binds_anew c c.count x ≡ true

module _ (formals : Bool) (n : ℕ) (c : Instruction) where
  pub suited :
      (x : Pattern) → pattern_sound n x ≡ true → (formals ≡ false → is_actual x ≡ true)
      → binds_anew c c.count x ≡ true → SuitsNext formals n c x
  suited x s a b = record { pattern_sound_law = s; actual = a; anew = b }

  -- a formal's variable, which no field of c has
  abbrev pub Fresh : ℕ → Type 0
  Fresh v = (v < 8) × (unbound_before c c.count v ≡ true)

  module _ (v : ℕ) (ok : Fresh v) (allowed : formals ≡ false → ⊥) where
    pub suits_reading : SuitsNext formals n c (Pattern.FormalReading v)
    unfolding pattern_sound binds_anew
    suits_reading = suited _ (lt-ltb v 8 ok.0) (λ e. absurd (allowed e)) ok.1

    pub suits_address : SuitsNext formals n c (Pattern.FormalAddress v)
    unfolding pattern_sound binds_anew
    suits_address = suited _ (lt-ltb v 8 ok.0) (λ e. absurd (allowed e)) ok.1

-- the template after i of its fields
pub record Drafted (formals : Bool) (n i : ℕ) (c : Instruction) : Type 0 where
  pub count_is : c.count ≡ i
  pub patterns_ok : PatternsOk n c
  pub actual : formals ≡ false → AtEach (λ j x. is_actual x ≡ true) c
  pub anew : AtEach (λ j x. binds_anew c j x ≡ true) c

pub no_pattern : (formals : Bool) (n : ℕ) → Drafted formals n 0 zero_instruction
unfolding zero_instruction
no_pattern formals n = record {
  count_is = refl;
  patterns_ok =
      every_replicate _ past_template 4 zero_template_field
      (λ j h. record { used = λ l. absurd (omega arith); unused = λ _. refl });
  actual = λ e j l. absurd (omega arith);
  anew = λ j l. absurd (omega arith);
}

module _ (formals : Bool) (n i : ℕ) (c : Instruction) where
  pub next_pattern :
      (f : TemplateField) → i < 4 → Drafted formals n i c → SuitsNext formals n c f.pattern
      → Drafted formals n (suc i) (with_pattern c f)
  unfolding with_pattern
  next_pattern f h ok s =
      chosen_lt (Drafted formals n (suc i)) c.count 4 _ _
      (λ l. let room : c.count < length c.template = omega (arith, ok.patterns_ok.size_is) in record {
        count_is = omega (arith, ok.count_is);
        patterns_ok = filled_add f s.pattern_sound_law ok.patterns_ok;
        actual = λ e j g.
            each_put c c.count _ f room (λ m x. is_actual x ≡ true) (ok.actual e) (s.actual e) j (omega arith);
        anew = λ j g. anew_put c c.count _ f room ok.anew s.anew j (omega arith);
      })
      (λ l. absurd (omega (arith, ok.count_is)))

-- the whole template, as an out (no formals allowed), an in or a read asks; the action is set behind it
pub record Whole (formals : Bool) (n : ℕ) (c : Instruction) : Type 0 where
  pub template_ok : TemplateOk n c
  pub actual : formals ≡ false → AtEach (λ i x. is_actual x ≡ true) c
  pub anew : AtEach (λ i x. binds_anew c i x ≡ true) c

pub whole :
    (formals : Bool) (n i : ℕ) (c : Instruction) (a : Action) → 1 ≤ i → i ≤ 4 → Drafted formals n i c
    → Whole formals n (with_action c a)
unfolding with_action pattern_at
whole formals n i c a h g ok = record {
  template_ok = record {
    least = omega (arith, ok.count_is);
    most = omega (arith, ok.count_is);
    patterns_ok = ok.patterns_ok;
  };
  actual = ok.actual;
  anew = λ j l. anew_as c (with_action c a) j (λ m e. refl) _ (ok.anew j l);
}

-- ---- instructions
module _ (f n k : ℕ) where
  pub stop_ok : InstructionOk f n k zero_instruction
  unfolding Acts zero_instruction with_action
  stop_ok = refl

  -- a target, a place and a template make a sound out, in or read
  unfoldable pub Communicates : (Target → Place → Action) → Bool → Type 0
  Communicates make formals =
      (t : Target) (p : Place) (c : Instruction) → target_sound n t ≡ true → p.0 < k
      → Whole formals n (with_action c (make t p)) → InstructionOk f n k (with_action c (make t p))

  pub out_ok : Communicates Action.Out false
  unfolding Communicates with_action Acts
  out_ok t p c e h ok = (e, h, record { template_ok = ok.template_ok; each = ok.actual refl })

  pub in_ok : Communicates Action.In true
  unfolding Communicates with_action Acts
  in_ok t p c e h ok = (e, h, record { template_ok = ok.template_ok; each = ok.anew })

  pub read_ok : Communicates Action.Read true
  unfolding Communicates with_action Acts
  read_ok t p c e h ok = (e, h, record { template_ok = ok.template_ok; each = ok.anew })

  -- a set, a place and a template make a sound out to a set, in format 2
  pub out_all_ok :
      (g : Group) (p : Place) (c : Instruction) → eqb f 1 ≡ false → group_sound n g ≡ true → p.0 < k
      → Whole false n (with_action c (Action.OutAll g p)) → InstructionOk f n k (with_action c (Action.OutAll g p))
  unfolding with_action Acts
  out_all_ok g p c e m h ok = (e, m, h, record { template_ok = ok.template_ok; each = ok.actual refl })
