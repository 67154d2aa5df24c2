-- A sound instruction as facts about its action and its template: drawn from the test of soundness and the length of the
-- template (`instruction_apart`), and giving both again (`instruction_sound_law`, `instruction_shaped`).
-- Assumes nothing.
use Prim.Native.Nat.{ℕ, ◌<◌, ◌≤◌}
use mathlib.Core.Path.{◌≡◌, refl, ap}
use mathlib.Core.Bool.{Bool, true, false, not}
use native.Mathlib.Omega.{arith}
use lib.Dec.{eqb, ltb}
use borrow.Author.Tests.{ltb-true, lt-ltb, not-true}
use Rattle.net.specs.Choice.{both, implies, in_range, all}
use Rattle.net.specs.Records.{zero_template_field, zero_instruction, pattern_at, with_action}
use Rattle.net.specs.Shape.{ShapedInstruction}
use Rattle.sound.specs.Types.{Pattern, Action, Instruction}
use Rattle.sound.specs.Soundness.{target_sound, pattern_sound, is_zero_pattern, template_sound, no_template}
use Rattle.sound.specs.Soundness.{is_actual, actuals_only, binds_anew, formals_apart}
use Rattle.sound.specs.Soundness.{group_sound, action_sound, template_for, instruction_sound}
use Rattle.net.proofs.Laws.{both_i, both_l, both_r, implies_i, implies_e, all_i, all_e}
use Rattle.net.proofs.Laws.{in_range_law, in_range_low, in_range_high}
use Rattle.net.proofs.Every.{Every, Filled, filled_all, all_filled}
use Rattle.net.proofs.Past.{past_template}
use Rattle.sound.proofs.ZeroClaims.{zero_is_zero, no_template_passes}
use Rattle.sound.proofs.NodeFacts.{of_zero}

-- ---- templates
abbrev pub PatternsOk : ℕ → Instruction → Type 0
PatternsOk n c =
    Every (Filled (λ f. pattern_sound n f.pattern ≡ true) (λ f. f ≡ zero_template_field) c.count) past_template 4
    c.template

pub record TemplateOk (n : ℕ) (c : Instruction) : Type 0 where
  pub least : 1 ≤ c.count
  pub most : c.count ≤ 4
  pub patterns_ok : PatternsOk n c

-- a fact at each field
abbrev pub AtEach : (ℕ → Pattern → Type 0) → Instruction → Type 0
AtEach P c = (i : ℕ) → i < c.count → P i (pattern_at c i)

-- with a test that each field passes
pub record Tested (test : ℕ → Pattern → Bool) (n : ℕ) (c : Instruction) : Type 0 where
  pub template_ok : TemplateOk n c
  pub each : AtEach (λ i x. test i x ≡ true) c

-- rule 26, and rule 27
abbrev pub OutTemplate : ℕ → Instruction → Type 0
OutTemplate n c = Tested (λ i. is_actual) n c

abbrev pub InTemplate : ℕ → Instruction → Type 0
InTemplate n c = Tested (binds_anew c) n c

-- no template: the instruction is its action
abbrev pub Bare : Instruction → Type 0
Bare c = c ≡ with_action zero_instruction c.action

module _ (n : ℕ) (c : Instruction) where
  template_apart : ShapedInstruction c → template_sound n c ≡ true → TemplateOk n c
  unfolding template_sound pattern_at
  template_apart shape h = record {
    least = in_range_low 1 c.count 4 (both_l _ _ h);
    most = in_range_high 1 c.count 4 (both_l _ _ h);
    patterns_ok =
        all_filled (λ f. pattern_sound n f.pattern) (λ f. is_zero_pattern f.pattern) shape.template_is
        (both_r (in_range 1 c.count 4) _ h) (λ j l e. e) (λ j l. (zero_is_zero.templateField _).0);
  }

  pub template_sound_law : TemplateOk n c → template_sound n c ≡ true
  unfolding template_sound pattern_at
  template_sound_law ok =
      both_i _ _ (in_range_law 1 c.count 4 ok.least ok.most)
      (filled_all (λ f. pattern_sound n f.pattern) (λ f. is_zero_pattern f.pattern) ok.patterns_ok (λ f e. e)
      (λ f. (zero_is_zero.templateField f).1))

  module _ (test : ℕ → Pattern → Bool) where
    tested_apart :
        ShapedInstruction c
        → both (template_sound n c) (all 4 (λ i. implies (ltb i c.count) (test i (pattern_at c i)))) ≡ true
        → Tested test n c
    tested_apart shape h =
        let ok = template_apart shape (both_l _ _ h) in
        record {
          template_ok = ok;
          each = λ i l.
              implies_e (ltb i c.count) _ (all_e 4 _ (both_r (template_sound n c) _ h) i (omega (arith, ok.most)))
              (lt-ltb i c.count l);
        }

    tested_sound :
        Tested test n c
        → both (template_sound n c) (all 4 (λ i. implies (ltb i c.count) (test i (pattern_at c i)))) ≡ true
    tested_sound ok =
        both_i _ _ (template_sound_law ok.template_ok)
        (all_i 4 _ (λ i h. implies_i (ltb i c.count) _ (λ e. ok.each i (ltb-true i c.count e))))

-- ---- an action, and the template that goes with it
unfoldable pub Acts : ℕ → ℕ → ℕ → Action → Instruction → Type 0
Acts f n k Action.Stop c = Bare c
Acts f n k (Action.Out t p) c = (target_sound n t ≡ true) × (p.0 < k) × OutTemplate n c
Acts f n k (Action.In t p) c = (target_sound n t ≡ true) × (p.0 < k) × InTemplate n c
Acts f n k (Action.Read t p) c = (target_sound n t ≡ true) × (p.0 < k) × InTemplate n c
Acts f n k (Action.Eval t sent p) c = (target_sound n t ≡ true) × (sent.0 < k) × (p.0 < k) × Bare c
Acts f n k (Action.New v p) c = (v < 8) × (p.0 < k) × Bare c
Acts f n k (Action.Fork p q) c = (p.0 < k) × (q.0 < k) × Bare c
Acts f n k (Action.OutAll g p) c = (eqb f 1 ≡ false) × (group_sound n g ≡ true) × (p.0 < k) × OutTemplate n c

abbrev pub InstructionOk : ℕ → ℕ → ℕ → Instruction → Type 0
InstructionOk f n k c = Acts f n k c.action c

module _ (f n k : ℕ) (c : Instruction) where
  acts_apart :
      (a : Action) → ShapedInstruction c → action_sound f n k a ≡ true → template_for n a c ≡ true → Acts f n k a c
  unfolding action_sound template_for actuals_only formals_apart Acts
  acts_apart Action.Stop shape h t = (zero_is_zero.template c shape).0 t
  acts_apart (Action.Out to p) shape h t =
      (both_l _ _ h, ltb-true _ _ (both_r (target_sound n to) _ h), tested_apart n c (λ i. is_actual) shape t)
  acts_apart (Action.In to p) shape h t =
      (both_l _ _ h, ltb-true _ _ (both_r (target_sound n to) _ h), tested_apart n c (binds_anew c) shape t)
  acts_apart (Action.Read to p) shape h t =
      (both_l _ _ h, ltb-true _ _ (both_r (target_sound n to) _ h), tested_apart n c (binds_anew c) shape t)
  acts_apart (Action.Eval to sent p) shape h t =
      let g = both_r (target_sound n to) _ h in (
        both_l _ _ h,
        ltb-true _ _ (both_l _ _ g),
        ltb-true _ _ (both_r (ltb sent.0 k) _ g),
        (zero_is_zero.template c shape).0 t,
      )
  acts_apart (Action.New v p) shape h t =
      (ltb-true _ _ (both_l _ _ h), ltb-true _ _ (both_r (ltb v 8) _ h), (zero_is_zero.template c shape).0 t)
  acts_apart (Action.Fork p q) shape h t =
      (ltb-true _ _ (both_l _ _ h), ltb-true _ _ (both_r (ltb p.0 k) _ h), (zero_is_zero.template c shape).0 t)
  acts_apart (Action.OutAll g p) shape h t =
      let later = both_r (not (eqb f 1)) _ h in (
        not-true (eqb f 1) (both_l _ _ h),
        both_l _ _ later,
        ltb-true _ _ (both_r (group_sound n g) _ later),
        tested_apart n c (λ i. is_actual) shape t,
      )

  bare_sound : Bare c → no_template c ≡ true
  bare_sound e = of_zero (λ b. no_template b ≡ true) (no_template_passes c.action) c e

  acts_sound : (a : Action) → Acts f n k a c → both (action_sound f n k a) (template_for n a c) ≡ true
  unfolding action_sound template_for actuals_only formals_apart Acts
  acts_sound Action.Stop b = both_i _ _ refl (bare_sound b)
  acts_sound (Action.Out to p) (t, h, ok) = both_i _ _ (both_i _ _ t (lt-ltb _ _ h)) (tested_sound n c (λ i. is_actual) ok)
  acts_sound (Action.In to p) (t, h, ok) = both_i _ _ (both_i _ _ t (lt-ltb _ _ h)) (tested_sound n c (binds_anew c) ok)
  acts_sound (Action.Read to p) (t, h, ok) = both_i _ _ (both_i _ _ t (lt-ltb _ _ h)) (tested_sound n c (binds_anew c) ok)
  acts_sound (Action.Eval to sent p) (t, g, h, b) =
      both_i _ _ (both_i _ _ t (both_i _ _ (lt-ltb _ _ g) (lt-ltb _ _ h))) (bare_sound b)
  acts_sound (Action.New v p) (g, h, b) = both_i _ _ (both_i _ _ (lt-ltb _ _ g) (lt-ltb _ _ h)) (bare_sound b)
  acts_sound (Action.Fork p q) (g, h, b) = both_i _ _ (both_i _ _ (lt-ltb _ _ g) (lt-ltb _ _ h)) (bare_sound b)
  acts_sound (Action.OutAll g p) (e, m, h, ok) =
      both_i _ _ (both_i _ _ (ap not e) (both_i _ _ m (lt-ltb _ _ h))) (tested_sound n c (λ i. is_actual) ok)

  -- what the template of every action has
  module _
      (Q : Instruction → Type 0) (spoken : TemplateOk n c → Q c) (bare : (a : Action) → Q (with_action zero_instruction a))
    where
      acts_each : (a : Action) → Acts f n k a c → Q c
      unfolding Acts
      acts_each Action.Stop b = of_zero Q (bare _) c b
      acts_each (Action.Out to p) (t, h, ok) = spoken ok.template_ok
      acts_each (Action.In to p) (t, h, ok) = spoken ok.template_ok
      acts_each (Action.Read to p) (t, h, ok) = spoken ok.template_ok
      acts_each (Action.Eval to sent p) (t, g, h, b) = of_zero Q (bare _) c b
      acts_each (Action.New v p) (g, h, b) = of_zero Q (bare _) c b
      acts_each (Action.Fork p q) (g, h, b) = of_zero Q (bare _) c b
      acts_each (Action.OutAll g p) (e, m, h, ok) = spoken ok.template_ok

      pub instruction_each : InstructionOk f n k c → Q c
      instruction_each ok = acts_each c.action ok

  pub instruction_apart : ShapedInstruction c → instruction_sound f n k c ≡ true → InstructionOk f n k c
  unfolding instruction_sound
  instruction_apart shape h =
      acts_apart c.action shape (both_l _ _ h) (both_r (action_sound f n k c.action) _ h)

  pub instruction_sound_law : InstructionOk f n k c → instruction_sound f n k c ≡ true
  unfolding instruction_sound
  instruction_sound_law ok = acts_sound c.action ok

  pub instruction_shaped : InstructionOk f n k c → ShapedInstruction c
  unfolding with_action zero_instruction
  instruction_shaped =
      instruction_each ShapedInstruction (λ ok. record { template_is = ok.patterns_ok.size_is })
      (λ a. record { template_is = refl })
