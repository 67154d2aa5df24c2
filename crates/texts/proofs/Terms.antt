-- What the readers of processes and actions give (`Reading.antt` of `processes`): trees whose templates, targets, variables and
-- names are in range, with outs to a set in format 2 alone. Assumes nothing.
use Prim.Native.Nat.{ℕ, zero, suc, ◌+◌, ◌<◌}
use mathlib.Core.Path.{◌≡◌}
use mathlib.Core.Bool.{true, false}
use mathlib.Core.List.{List}
use native.Mathlib.Omega.{arith}
use lib.ListN.{length}
use lib.Dec.{eqb}
use borrow.Author.Tests.{eqb-true, ne_eqb}
use Rattle.net.proofs.Laws.{both_r}
use Rattle.net.proofs.Every.{chosen}
use Rattle.sound.specs.Soundness.{target_sound}
use Rattle.readers.specs.Reader.{Reader}
use Rattle.lexemes.specs.Lexemes.{byte_at}
use Rattle.terms.specs.Terms.{Process, Action, nil, name, fork, act, out, input, read, eval, newloc, out_all}
use Rattle.processes.specs.Reading.{named, at_target, communication, to_one, to_all, receiving, putting, evaluation, creation, simple, action}
use Rattle.processes.specs.Reading.{forked, stopped, called, ends_chain, ended, acting, chain, process_at, process}
use Rattle.texts.specs.Types.{Scope, Target, Instruction}
use Rattle.texts.specs.TextClaims.{astray, too_deep}
use Rattle.texts.proofs.Gives.{Gives, gives_pure, gives_weaken, gives_then, gives_and, gives_choice, gives_look, gives_fail}
use Rattle.texts.proofs.Gives.{gives_byte, gives_word, gives_number}
use Rattle.texts.proofs.Fields.{gives_variable, TemplateRead, gives_template, gives_target}
use Rattle.texts.proofs.Sets.{GroupRead, gives_group}

-- x is what addresses and sets are judged by
unfoldable mutual
  pub Fit : Scope → Process → Type 0
  Fit x nil = Unit {0}
  Fit x (name k) = k < 512
  Fit x (fork p q) = Fit x p × Fit x q
  Fit x (act a p) = FitIn x a × Fit x p

  pub FitIn : Scope → Action → Type 0
  FitIn x (out c t) = TemplateRead false x.addresses c × (target_sound x.addresses t ≡ true)
  FitIn x (input c t) = TemplateRead true x.addresses c × (target_sound x.addresses t ≡ true)
  FitIn x (read c t) = TemplateRead true x.addresses c × (target_sound x.addresses t ≡ true)
  FitIn x (eval p t) = Fit x p × (target_sound x.addresses t ≡ true)
  FitIn x (newloc v) = v < 8
  FitIn x (out_all c g) = TemplateRead false x.addresses c × GroupRead x.addresses g × (eqb x.format 1 ≡ false)

pub gives_named : Gives named (λ k. k < 512)
unfolding named
gives_named = gives_and (gives_byte 65) (λ _ _. gives_weaken (gives_number 511) (λ k h. omega arith))

gives_at_target : (n : ℕ) → Gives (at_target n) (λ t. target_sound n t ≡ true)
unfolding at_target
gives_at_target n = gives_and (gives_word _) (λ _ _. gives_target n)

not_one : (f : ℕ) → eqb f 2 ≡ true → eqb f 1 ≡ false
not_one f e = ne_eqb f 1 (λ d. absurd (omega (arith, eqb-true f 2 e)))

module _ (x : Scope) where
  gives_communication :
      (opening : List ℕ) (make : Instruction → Target → Action)
      → ((c : Instruction) (t : Target) → TemplateRead true x.addresses c → target_sound x.addresses t ≡ true → FitIn x (make c t))
      → Gives (communication opening make x) (FitIn x)
  unfolding communication
  gives_communication opening make fit =
      gives_and (gives_word opening) (λ _ _. gives_then (gives_template true x.addresses) (λ c ok.
      gives_then (gives_at_target x.addresses) (λ t e. gives_pure _ _ (fit c t ok e))))

  gives_putting : Gives (putting x) (FitIn x)
  unfolding putting receiving to_one to_all FitIn
  gives_putting =
      gives_and (gives_word _) (λ _ _. gives_then (gives_template false x.addresses) (λ c ok. gives_and (gives_word _) (λ _ _.
      gives_look _ _ (λ b. chosen (λ (m : Reader Action). Gives m (FitIn x)) _ _ _
      (λ e. gives_then (gives_group x.addresses) (λ g h. gives_pure _ _ (ok, h, not_one x.format (both_r (eqb b 123) _ e))))
      (λ _. gives_then (gives_target x.addresses) (λ t e. gives_pure _ _ (ok, e)))))))

  gives_simple : Gives (simple x) (FitIn x)
  unfolding simple creation FitIn
  gives_simple =
      gives_look _ _ (λ b. gives_choice _ _ _ _ gives_putting
      (gives_choice _ _ _ _ (gives_communication _ input (λ c t ok e. (ok, e)))
      (gives_choice _ _ _ _ (gives_communication _ read (λ c t ok e. (ok, e)))
      (gives_and (gives_word _) (λ _ _. gives_then gives_variable (λ v h. gives_and (gives_byte 41) (λ _ _. gives_pure _ _ h)))))))

module _ (inner : Reader Process) (x : Scope) (within : Gives inner (Fit x)) where
  gives_action : Gives (action inner x) (FitIn x)
  unfolding action evaluation FitIn
  gives_action =
      gives_look _ _ (λ b. gives_choice _ _ _ _
      (gives_and (gives_word _) (λ _ _. gives_then within (λ p ok. gives_then (gives_at_target x.addresses) (λ t e. gives_pure _ _ (ok, e)))))
      (gives_simple x))

  gives_ended : Gives (ended inner) (Fit x)
  unfolding ended called forked stopped Fit
  gives_ended =
      gives_look _ _ (λ b. gives_choice _ _ _ _ (gives_then gives_named (λ k h. gives_pure _ _ h))
      (gives_choice _ _ _ _
      (gives_and (gives_byte 40) (λ _ _. gives_then within (λ p ok. gives_and (gives_word _) (λ _ _.
      gives_then within (λ q ok'. gives_and (gives_byte 41) (λ _ _. gives_pure _ _ (ok, ok')))))))
      (gives_and (gives_word _) (λ _ _. gives_pure _ _ tt))))

  gives_acting : (rest : Reader Process) → Gives rest (Fit x) → Gives (acting inner rest x) (Fit x)
  unfolding acting Fit
  gives_acting rest g =
      gives_then gives_action (λ a ok. gives_and (gives_byte 46) (λ _ _. gives_then g (λ q ok'. gives_pure _ _ (ok, ok'))))

  gives_chain : (k : ℕ) → Gives (chain k inner x) (Fit x)
  unfolding chain
  gives_chain zero = gives_fail _ 31 astray
  gives_chain (suc k) = record {
    run = λ s p.
        (gives_choice (Fit x) (ends_chain (byte_at s p) (byte_at s (p + 1))) _ _ gives_ended
        (gives_acting (chain k inner x) (gives_chain k))
        ).run s p;
  }

gives_process_at : (d : ℕ) (x : Scope) → Gives (process_at d x) (Fit x)
unfolding process_at
gives_process_at zero x = gives_fail _ 32 too_deep
gives_process_at (suc d) x = record { run = λ s p. (gives_chain (process_at d x) x (gives_process_at d x) (length s)).run s p }

pub gives_process : (x : Scope) → Gives (process x) (Fit x)
unfolding process
gives_process x = gives_process_at 33 x
