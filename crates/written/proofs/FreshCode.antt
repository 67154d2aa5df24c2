-- A sound instruction (`CodeFacts.antt` of `sound`) that passes the tests of `specs/Fresh.antt` is one that an image can
-- write (`WrittenCode.antt`).
-- Assumes nothing.
use Prim.Native.Nat.{ℕ, ◌<◌}
use mathlib.Core.Path.{◌≡◌, refl, sym, ap, ◌∙◌}
use mathlib.Core.Bool.{Bool, true, false, not}
use native.Mathlib.Omega.{arith}
use lib.Dec.{eqb}
use borrow.Author.Tests.{ltb-true}
use Rattle.net.specs.Choice.{choose, implies}
use Rattle.net.specs.Records.{zero_instruction, pattern_at, with_action}
use Rattle.written.specs.Types.{Action, Instruction}
use Rattle.sound.specs.Soundness.{is_actual, binds_anew}
use Rattle.instructions.specs.Instruction.{actions_in}
use Rattle.fresh.specs.Fresh.{action_fits, instruction_fits}
use Rattle.sound.proofs.FormalLaws.{anew_as, actual_anew}
use Rattle.sound.proofs.CodeFacts as sound
use Rattle.written.proofs.WrittenTemplate.{TemplateOk}
use Rattle.written.proofs.ReadsWrites.{Ranged}
use Rattle.written.proofs.WrittenCode.{Communicated, Evaluated, Created, Forked, Acting, InstructionOk}
use Rattle.written.proofs.FreshFits.{instruction_fit}

-- ---- the numbers of the actions of a format
of_either : (f v : ℕ) → v < 7 → Ranged 0 (actions_in f) v
unfolding actions_in choose
of_either f v h = by (eqb f 1)
  where
    by : (b : Bool) → Ranged 0 (choose b 7 8) v
    by true = omega arith
    by false = omega arith

of_second : (f : ℕ) → eqb f 1 ≡ false → Ranged 0 (actions_in f) 7
unfolding actions_in choose
of_second f e = rw e (omega arith)

-- ---- templates
module _ (f n k : ℕ) (c : Instruction) (fits : instruction_fits c ≡ true) where
  template_ok :
      (formals : Bool) → sound.TemplateOk n c
      → sound.AtEach (λ i x. implies (not formals) (is_actual x) ≡ true) c → sound.AtEach (λ i x. binds_anew c i x ≡ true) c
      → TemplateOk formals n (with_action c Action.Stop)
  unfolding with_action pattern_at
  template_ok formals ok allowed anew = record {
    no_action = refl;
    least = ok.least;
    most = ok.most;
    patterns_ok = record {
      size_is = ok.patterns_ok.size_is;
      holds = λ j l. record {
        used = λ u. record {
          sound = (ok.patterns_ok.holds j l).used u;
          fits = (instruction_fit c fits).each_pattern j l;
          allowed = allowed j u;
        };
        unused = λ u. sym ((ok.patterns_ok.holds j l).unused u);
      };
    };
    anew = λ j l. anew_as c (with_action c Action.Stop) j (λ m g. refl) _ (anew j l);
  }

  -- no formals, or none twice
  out_template : sound.OutTemplate n c → TemplateOk false n (with_action c Action.Stop)
  unfolding implies
  out_template ok =
      template_ok false ok.template_ok ok.each (λ i l. actual_anew c i (pattern_at c i) (ok.each i l))

  in_template : sound.InTemplate n c → TemplateOk true n (with_action c Action.Stop)
  unfolding implies
  in_template ok = template_ok true ok.template_ok (λ i l. refl) ok.each

  -- an instruction is its template with its action, and one without a template its action
  remade : (a : Action) → c.action ≡ a → with_action (with_action c Action.Stop) a ≡ c
  unfolding with_action
  remade a e = ap (λ (x : Action). record { action = x; count = c.count; template = c.template }) (sym e)

  bare : (a : Action) → c.action ≡ a → sound.Bare c → with_action zero_instruction a ≡ c
  bare a e b = ap (with_action zero_instruction) (sym e) ∙ sym b

  -- ---- an instruction, by its action
  acting : (a : Action) → c.action ≡ a → action_fits a ≡ true → sound.Acts f n k a c → InstructionOk f n k c
  unfolding action_fits sound.Acts InstructionOk Acting Communicated Evaluated Created Forked zero_instruction with_action
  acting Action.Stop e _ b = (0, of_either f 0 (omega arith), bare Action.Stop e b)
  acting (Action.Out to p) e _ (t, h, ok) =
      (1, of_either f 1 (omega arith), (to, t, (with_action c Action.Stop, out_template ok, (p, h, remade _ e))))
  acting (Action.In to p) e _ (t, h, ok) =
      (2, of_either f 2 (omega arith), (to, t, (with_action c Action.Stop, in_template ok, (p, h, remade _ e))))
  acting (Action.Read to p) e _ (t, h, ok) =
      (3, of_either f 3 (omega arith), (to, t, (with_action c Action.Stop, in_template ok, (p, h, remade _ e))))
  acting (Action.Eval to sent p) e _ (t, g, h, b) =
      (4, of_either f 4 (omega arith), (to, t, (sent, g, (p, h, bare _ e b))))
  acting (Action.New v p) e _ (g, h, b) = (5, of_either f 5 (omega arith), (v, g, (p, h, bare _ e b)))
  acting (Action.Fork p q) e _ (g, h, b) = (6, of_either f 6 (omega arith), (p, g, (q, h, bare _ e b)))
  acting (Action.OutAll g p) e s (d, m, h, ok) = (
    7,
    of_second f d,
    (
      g,
      record { fits = ltb-true g.0 65536 s; members = m },
      (with_action c Action.Stop, out_template ok, (p, h, remade _ e)),
    ),
  )

  pub instruction_ok : sound.InstructionOk f n k c → InstructionOk f n k c
  instruction_ok ok = acting c.action refl (instruction_fit c fits).action_fits_law ok
