-- The body of an instruction that an image can write (`WrittenCode.antt` of `written`): well formed, it uses names of places in the
-- code alone, and where each name stands for its place it is compiled to the instruction again. Assumes nothing.
use Prim.Native.Nat.{ℕ, zero, suc, ◌<◌, ◌≤◌}
use mathlib.Core.Path.{◌≡◌, refl, sym, ap, subst, ◌∙◌}
use mathlib.Core.Bool.{Bool, true, false}
use mathlib.Core.List.{[], ◌∷◌}
use native.Mathlib.Omega.{arith}
use lib.Dec.{eqb}
use borrow.Author.Tests.{eqb-true, eqb-false}
use Rattle.net.specs.Choice.{choose}
use Rattle.net.specs.Records.{zero_instruction, place_of, with_action}
use Rattle.net.proofs.Every.{chosen}
use Rattle.sound.specs.Soundness.{target_sound}
use Rattle.terms.specs.Numbering.{size, size_in, Start, called, start_of, instruction_of, fork_of, code_of, code_in, uses, uses_in}
use Rattle.sources.specs.WellFormed.{ProcessFormed, stops, calls, forks, acts, puts, takes, reads, sends, opens, shares}
use Rattle.sources.specs.WellFormed.{TemplateFormed}
use Rattle.instructions.specs.Instruction.{actions_in}
use Rattle.written.proofs.WrittenTemplate.{TemplateOk}
use Rattle.written.proofs.WrittenCode.{Communicated, GroupOk, Evaluated, Created, Forked, Acting, InstructionOk}
use Rattle.read_back.specs.Types.{Place, Group, Target, Action, Instruction, Scope}
use Rattle.read_back.specs.NetSource.{named, template_in, process_of, body_of}
use Rattle.read_back.proofs.LineLists.{either_holds}
use Rattle.read_back.proofs.FieldsFormed.{template_formed}

-- x is what the text is judged by, k the code length
pub record BodyOk (x : Scope) (k : ℕ) (c : Instruction) : Type 0 where
  pub formed : ProcessFormed x 32 (body_of c)
  pub below : (j : ℕ) → uses j (body_of c) ≡ true → j < k
  pub again : (place : Start → Place) → ((j : ℕ) → j < k → place (called j) ≡ place_of j) → (m : ℕ) → code_of place m (body_of c) ≡ c ∷ []

module _ (x : Scope) (k : ℕ) (most : k ≤ 512) where
  named_formed : {d : ℕ} (p : Place) → p.0 < k → ProcessFormed x d (named p)
  unfolding named
  named_formed p h = calls {k = p.0} (omega arith)

  named_below : (p : Place) → p.0 < k → (j : ℕ) → uses j (named p) ≡ true → j < k
  unfolding named uses
  named_below p h j e = omega (arith, eqb-true j p.0 e)

  stop_ok : BodyOk x k zero_instruction
  unfolding body_of process_of zero_instruction uses code_of
  stop_ok = record { formed = stops; below = λ j e. absurd (let z : ◌≡◌ {A = ℕ} 0 1 = cc in omega arith); again = λ place right m. refl }

  -- ---- an out, an in or a read: a template, what it goes to and the next place
  module _ (c : Instruction) (p : Place) (h : p.0 < k) where
    template_again : {formals : Bool} → TemplateOk formals x.addresses c → (a : Action) → template_in (with_action c a) ≡ c
    unfolding template_in with_action
    template_again ok a = ap (λ (b : Action). record { action = b; count = c.count; template = c.template }) ok.no_action

    template_ok :
        (formals : Bool) → TemplateOk formals x.addresses c → (a : Action)
        → TemplateFormed formals x.addresses (template_in (with_action c a))
    template_ok formals ok a =
        subst (TemplateFormed formals x.addresses) (sym (template_again ok a)) (template_formed c formals x.addresses ok)

    module _ (t : Target) (good : target_sound x.addresses t ≡ true) where
      out_ok : TemplateOk false x.addresses c → BodyOk x k (with_action c (Action.Out t p))
      unfolding body_of process_of named template_in with_action uses uses_in choose code_of code_in instruction_of start_of size size_in
      out_ok ok = record {
        formed = acts (puts (template_ok false ok (Action.Out t p)) (record { in_range_law = good })) (named_formed p h);
        below = named_below p h;
        again = λ place right m. ap (λ (q : Place). with_action c (Action.Out t q) ∷ []) (right p.0 h);
      }

      in_ok : TemplateOk true x.addresses c → BodyOk x k (with_action c (Action.In t p))
      unfolding body_of process_of named template_in with_action uses uses_in choose code_of code_in instruction_of start_of size size_in
      in_ok ok = record {
        formed = acts (takes (template_ok true ok (Action.In t p)) (record { in_range_law = good })) (named_formed p h);
        below = named_below p h;
        again = λ place right m. ap (λ (q : Place). with_action c (Action.In t q) ∷ []) (right p.0 h);
      }

      read_ok : TemplateOk true x.addresses c → BodyOk x k (with_action c (Action.Read t p))
      unfolding body_of process_of named template_in with_action uses uses_in choose code_of code_in instruction_of start_of size size_in
      read_ok ok = record {
        formed = acts (reads (template_ok true ok (Action.Read t p)) (record { in_range_law = good })) (named_formed p h);
        below = named_below p h;
        again = λ place right m. ap (λ (q : Place). with_action c (Action.Read t q) ∷ []) (right p.0 h);
      }

    out_all_ok :
        x.format ≡ 2 → (g : Group) → GroupOk x.addresses g → TemplateOk false x.addresses c
        → BodyOk x k (with_action c (Action.OutAll g p))
    unfolding body_of process_of named template_in with_action uses uses_in choose code_of code_in instruction_of start_of size size_in
    out_all_ok second g good ok = record {
      formed =
          acts
          (shares second (template_ok false ok (Action.OutAll g p)) (record { in_range_law = good.members; fits = good.fits }))
          (named_formed p h);
      below = named_below p h;
      again = λ place right m. ap (λ (q : Place). with_action c (Action.OutAll g q) ∷ []) (right p.0 h);
    }

  -- ---- the actions without a template
  module _ (p : Place) (h : p.0 < k) where
    new_ok : (v : ℕ) → v < 8 → BodyOk x k (with_action zero_instruction (Action.New v p))
    unfolding body_of process_of named with_action uses uses_in choose code_of code_in instruction_of start_of size size_in
    new_ok v l = record {
      formed = acts (opens l) (named_formed p h);
      below = named_below p h;
      again = λ place right m. ap (λ (q : Place). with_action zero_instruction (Action.New v q) ∷ []) (right p.0 h);
    }

    module _ (q : Place) (g : q.0 < k) where
      eval_ok :
          (t : Target) → target_sound x.addresses t ≡ true → BodyOk x k (with_action zero_instruction (Action.Eval t p q))
      unfolding body_of process_of named with_action uses uses_in code_of code_in instruction_of start_of size size_in
      eval_ok t good = record {
        formed = acts (sends {d = 31} (named_formed p h) (record { in_range_law = good })) (named_formed q g);
        below = λ j. either_holds (eqb j p.0) (eqb j q.0) (named_below p h j) (named_below q g j);
        again = λ place right m.
            ap (λ (o : Place). with_action zero_instruction (Action.Eval t o (place (called q.0))) ∷ []) (right p.0 h)
            ∙ ap (λ (o : Place). with_action zero_instruction (Action.Eval t p o) ∷ []) (right q.0 g);
      }

      fork_ok : BodyOk x k (with_action zero_instruction (Action.Fork p q))
      unfolding body_of process_of named with_action uses code_of fork_of start_of size
      fork_ok = record {
        formed = forks {d = 31} (named_formed p h) (named_formed q g);
        below = λ j. either_holds (eqb j p.0) (eqb j q.0) (named_below p h j) (named_below q g j);
        again = λ place right m.
            ap (λ (o : Place). with_action zero_instruction (Action.Fork o (place (called q.0))) ∷ []) (right p.0 h)
            ∙ ap (λ (o : Place). with_action zero_instruction (Action.Fork p o) ∷ []) (right q.0 g);
      }

  -- ---- whichever it is
  module _ (c : Instruction) where
    acting_ok : (v : ℕ) → (7 ≤ v → x.format ≡ 2) → Acting x.addresses k v c → BodyOk x k c
    unfolding Acting Communicated Evaluated Created Forked
    acting_ok zero s e = subst (BodyOk x k) e stop_ok
    acting_ok (suc zero) s (t, good, (b, ok, (p, h, e))) = subst (BodyOk x k) e (out_ok b p h t good ok)
    acting_ok (suc (suc zero)) s (t, good, (b, ok, (p, h, e))) = subst (BodyOk x k) e (in_ok b p h t good ok)
    acting_ok (suc (suc (suc zero))) s (t, good, (b, ok, (p, h, e))) = subst (BodyOk x k) e (read_ok b p h t good ok)
    acting_ok (suc (suc (suc (suc zero)))) s (t, good, (p, h, (q, g, e))) = subst (BodyOk x k) e (eval_ok p h q g t good)
    acting_ok (suc (suc (suc (suc (suc zero))))) s (v, l, (p, h, e)) = subst (BodyOk x k) e (new_ok p h v l)
    acting_ok (suc (suc (suc (suc (suc (suc zero)))))) s (p, h, (q, g, e)) = subst (BodyOk x k) e (fork_ok p h q g)
    acting_ok (suc (suc (suc (suc (suc (suc (suc v))))))) s (g, good, (b, ok, (p, h, e))) =
        subst (BodyOk x k) e (out_all_ok b p h (s (omega arith)) g good ok)

    pub body_ok : 1 ≤ x.format → x.format ≤ 2 → InstructionOk x.format x.addresses k c → BodyOk x k c
    unfolding InstructionOk actions_in
    body_ok low high (v, r, ok) = acting_ok v second ok
      where
        second : 7 ≤ v → x.format ≡ 2
        second l =
            chosen (λ (m : ℕ). v < m → x.format ≡ 2) (eqb x.format 1) 7 8 (λ e g. absurd (omega arith))
            (λ e g. omega (arith, eqb-false x.format 1 e)) r.below
