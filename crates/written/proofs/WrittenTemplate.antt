-- Templates (`Instruction.antt` of `instructions`, `specs/ImageOf.antt`, 5): what is read is what is written.
-- Assumes nothing.
use Prim.Native.Nat.{ℕ, suc, ◌+◌, ◌-◌, ◌<◌, ◌≤◌}
use mathlib.Core.Path.{◌≡◌, refl, sym, ap, subst, ◌∙◌}
use mathlib.Core.Bool.{Bool, true}
use mathlib.Core.List.{List, ◌++◌}
use native.Mathlib.Omega.{arith}
use lib.ListN.{length, get_or, set, replicate, length-replicate, get_or-replicate}
use lib.Seq.{set-get_or, set-set}
use borrow.Author.Tests.{lt-ltb}
use Rattle.written.specs.Types.{TemplateField, Action, Instruction}
use Rattle.net.specs.Records.{zero_template_field, zero_instruction, pattern_at, with_pattern}
use Rattle.sound.specs.Soundness.{binds_anew}
use Rattle.instructions.specs.Instruction.{templateField, template}
use Rattle.written.specs.ImageOf.{bits_of, pattern_bits, template_bits}
use Rattle.text.specs.Joined.{joined}
use Rattle.net.proofs.Laws.{choose_true}
use Rattle.net.proofs.Every.{Every, Filled}
use Rattle.net.proofs.Past.{past_template}
use Rattle.sound.proofs.FormalLaws.{anew_below, anew_cut, anew_put}
use Rattle.written.proofs.ReadsWrites.{Reads, reads_then, reads_bits}
use Rattle.written.proofs.ReadsCells.{Arrayed, Through, Filling, reads_turn, reads_cells, rewritten_filled, filled_rewritten}
use Rattle.written.proofs.WrittenPatterns.{PatternOk, reads_pattern}

-- ---- a template
-- i fields are read, and no action yet
record Drafted (i : ℕ) (c : Instruction) : Type 0 where
  action_is : Action.Stop ≡ c.action
  count_is : i ≡ c.count
  anew : (j : ℕ) → j < i → binds_anew c j (pattern_at c j) ≡ true

cut_pattern : ℕ → Instruction → TemplateField → Instruction
cut_pattern i c f = record { action = c.action; count = i; template = set c.template i f }

abbrev patterns_of : Bool → ℕ → Arrayed Instruction TemplateField
patterns_of formals n = record {
  cells = λ c. c.template;
  put = λ i c f. with_pattern c f;
  cut = cut_pattern;
  past = past_template;
  Good = λ i f. PatternOk formals n f.pattern;
  undo = λ f. zero_template_field;
  Frame = Drafted;
  Extra = λ i c f. binds_anew c i f.pattern ≡ true;
  size = 4;
}

-- the template with field i put, and i + 1 fields
longer : ℕ → Instruction → TemplateField → Instruction
longer i c f = record { action = c.action; count = suc i; template = set c.template i f }

put_pattern : (c : Instruction) (i : ℕ) (f : TemplateField) → i < 4 → i ≡ c.count → with_pattern c f ≡ longer i c f
unfolding with_pattern longer
put_pattern c i f h e =
    let d : c.count + 1 ≡ suc i = omega arith in
    choose_true _ _ _ (lt-ltb c.count 4 (omega arith))
    ∙ ap (λ (k : ℕ). record { action = c.action; count = k; template = set c.template c.count f }) d
    ∙ ap (λ (k : ℕ). record { action = c.action; count = suc i; template = set c.template k f }) (sym e)

module _ (c : Instruction) (i : ℕ) (f : TemplateField) where
  longer_drafted : i < length c.template → Drafted i c → binds_anew c i f.pattern ≡ true → Drafted (suc i) (longer i c f)
  unfolding longer
  longer_drafted h d x = record {
    action_is = d.action_is;
    count_is = refl;
    anew = λ j l. anew_put c i (suc i) f h d.anew x j (omega arith);
  }

  cut_drafted : Drafted (suc i) c → Drafted i (cut_pattern i c f)
  unfolding cut_pattern
  cut_drafted d = record {
    action_is = d.action_is;
    count_is = refl;
    anew = λ j l. anew_cut c i i f j l (d.anew j (omega arith));
  }

  cut_anew : Drafted (suc i) c → binds_anew (cut_pattern i c f) i (pattern_at c i) ≡ true
  unfolding cut_pattern
  cut_anew d = anew_below c i i f i (pattern_at c i) (omega arith) (d.anew i (omega arith))

  pattern_cut : i < 4 → Drafted (suc i) c → with_pattern (cut_pattern i c f) (get_or c.template i past_template) ≡ c
  unfolding cut_pattern longer
  pattern_cut l d =
      let x : List TemplateField = c.template in
      put_pattern (cut_pattern i c f) i (get_or x i past_template) l refl
      ∙ ap (λ y. record { action = c.action; count = suc i; template = y })
      (set-set x i f (get_or x i past_template) ∙ set-get_or x i past_template)
      ∙ ap (λ (k : ℕ). record { action = c.action; count = k; template = c.template }) d.count_is

patterns_put : (c : Instruction) (i : ℕ) (f : TemplateField) → i < 4 → i ≡ c.count
    → (with_pattern c f).template ≡ set c.template i f
unfolding longer
patterns_put c i f l e = ap (λ (x : Instruction). x.template) (put_pattern c i f l e)

cells_cut : (c : Instruction) (i : ℕ) (f : TemplateField) → (cut_pattern i c f).template ≡ set c.template i f
unfolding cut_pattern
cells_cut c i f = refl

module _ (formals : Bool) (n : ℕ) (h : n ≤ 16) where
  filling_template : (k : ℕ) → k ≤ 4
      → Filling (patterns_of formals n) zero_instruction (templateField formals n) k (λ f. pattern_bits f.pattern)
  unfolding templateField zero_instruction pattern_at
  filling_template k l = record {
    room = l;
    size_is = length-replicate 4 zero_template_field;
    begins = record { action_is = refl; count_is = refl; anew = λ j m. absurd (omega arith) };
    starts = λ c e d.
        ap (λ (a : Action). record { action = a; count = 0; template = replicate 4 zero_template_field }) e.action_is
        ∙ ap (λ (x : ℕ). record { action = c.action; count = x; template = replicate 4 zero_template_field }) e.count_is
        ∙ ap (λ y. record { action = c.action; count = c.count; template = y }) d;
    turn = λ i m c e b s.
        reads_turn (patterns_of formals n) zero_instruction i c (λ f. pattern_bits f.pattern) (λ x. record { pattern = x })
        (omega arith) (λ f. patterns_put c i f (omega arith) e.count_is) (reads_pattern formals n c h)
        (λ x ok. (
          ok.ok,
          sym (get_or-replicate 4 i zero_template_field past_template (omega arith)),
          subst (λ (y : ℕ). binds_anew c y x ≡ true) (sym e.count_is) ok.anew,
        ))
        (λ x ok. refl)
        (λ f ok u x. (
          f.pattern,
          record { ok = ok; anew = subst (λ (y : ℕ). binds_anew c y f.pattern ≡ true) e.count_is x },
          refl,
        ));
    put_cells = λ i m c f e. patterns_put c i f (omega arith) e.count_is;
    put_frame = λ i m c f e s x.
        subst (Drafted (suc i)) (sym (put_pattern c i f (omega arith) e.count_is))
        (longer_drafted c i f (omega arith) e x);
    cut_cells = λ i m c f. cells_cut c i f;
    cut_frame = λ i m c f e. cut_drafted c i f e;
    cut_extra = λ i m c f e. cut_anew c i f e;
    put_cut = λ i m c f e. pattern_cut c i f (omega arith) e;
  }

-- a template as an image writes it, with no action yet
pub record TemplateOk (formals : Bool) (n : ℕ) (c : Instruction) : Type 0 where
  pub no_action : Action.Stop ≡ c.action
  pub least : 1 ≤ c.count
  pub most : c.count ≤ 4
  pub patterns_ok :
      Every (Filled (λ f. PatternOk formals n f.pattern) (λ f. zero_template_field ≡ f) c.count) past_template 4
      c.template
  pub anew : (j : ℕ) → j < c.count → binds_anew c j (pattern_at c j) ≡ true

module _ (formals : Bool) (n : ℕ) (h : n ≤ 16) where
  template_through : (c : Instruction) (k : ℕ) → k ≡ c.count → TemplateOk formals n c
      → Through (patterns_of formals n) zero_instruction k c
  unfolding zero_instruction
  template_through c k e ok = record {
    frame = record { action_is = ok.no_action; count_is = e; anew = λ j l. ok.anew j (omega arith) };
    cells_ok = filled_rewritten (sym e) ok.patterns_ok;
  }

  through_template : (c : Instruction) (less : ℕ) → less < 4
      → Through (patterns_of formals n) zero_instruction (less + 1) c → TemplateOk formals n c
  unfolding zero_instruction
  through_template c less l g =
      let e = g.frame.count_is in
      record {
        no_action = g.frame.action_is;
        least = omega arith;
        most = omega arith;
        patterns_ok = rewritten_filled (sym e) g.cells_ok;
        anew = λ j m. g.frame.anew j (omega arith);
      }

  pub reads_template : Reads (template formals n) template_bits (TemplateOk formals n)
  unfolding template template_bits pattern_at
  reads_template =
      reads_then (reads_bits 2)
      (λ less l. reads_cells (patterns_of formals n) zero_instruction (templateField formals n) (less + 1)
      (λ f. pattern_bits f.pattern) (filling_template formals n h (less + 1) (omega arith)))
      (record {
        keeps = λ less c l g. through_template c less l g;
        writes = λ less c l g.
            let e = g.frame.count_is in
            let m : c.count - 1 ≡ less = omega arith in
            ap (λ (x : ℕ). bits_of 2 x ++ joined c.count (λ i. pattern_bits (get_or c.template i past_template).pattern)) m
            ∙ ap (λ (x : ℕ). bits_of 2 less ++ joined x (λ i. pattern_bits (get_or c.template i past_template).pattern))
            (sym e);
        parts = λ c ok.
            let a = ok.least in
            let b = ok.most in
            (c.count - 1, omega arith, template_through c (c.count - 1 + 1) (omega arith) ok);
      })
