-- What the readers of an instruction give (`Instruction.antt` of `instructions`): a sound one, as facts (`CodeFacts.antt`
-- of `sound`). A template is built field by field; a field judged by rules 26 and 27 when it is read keeps them, since no
-- later field changes what stands before it.
-- Assumes nothing.
use Prim.Native.Nat.{ℕ, suc, ◌+◌, ◌<◌, ◌≤◌}
use mathlib.Core.Path.{◌≡◌, refl, ap}
use mathlib.Core.Bool.{Bool, true, false, not}
use native.Mathlib.Omega.{arith}
use lib.Dec.{eqb, ltb}
use borrow.Author.Tests.{ltb-true, lt-ltb}
use Rattle.net.specs.Choice.{choose, implies}
use Rattle.accepted.specs.Types.{Place, Target, Action, Instruction}
use Rattle.net.specs.Records.{zero_instruction, with_action}
use Rattle.sound.specs.Soundness.{target_sound, group_sound, pattern_sound, is_actual, binds_anew}
use Rattle.instructions.specs.Instruction.{written_target, held_target, target, reading_pattern, address_pattern, held_pattern}
use Rattle.instructions.specs.Instruction.{fresh, formal_reading, formal_address, kind, pattern, templateField, template}
use Rattle.instructions.specs.Instruction.{communication, evaluation, creation, forking, group, spreading, actions_in, instruction}
use Rattle.net.proofs.Laws.{implies_e}
use Rattle.sound.proofs.CodeFacts.{Acts, InstructionOk}
use Rattle.sound.proofs.Drafts.{SuitsNext, suited, Fresh, suits_reading, suits_address, Drafted, no_pattern, next_pattern, Whole, whole}
use Rattle.sound.proofs.Drafts.{stop_ok, Communicates, out_ok, in_ok, read_ok, out_all_ok}
use Rattle.accepted.proofs.Gives.{Gives, gives_pure, gives_weaken, gives_then, gives_each, gives_last}
use Rattle.accepted.proofs.Gives.{gives_first, gives_passing, gives_field, gives_bits}
use Rattle.accepted.proofs.AcceptedNode.{gives_address, gives_place, gives_variable, gives_reading}

gives_target : (n : ℕ) → Gives (target n) (λ t. target_sound n t ≡ true)
unfolding target written_target held_target target_sound
gives_target n =
    gives_then (gives_field 2 0 3 25 (omega arith))
    (λ v _. gives_first _ _ _ _ v (gives_then (gives_address n) (λ l h. gives_pure _ _ (lt-ltb l.0 n h)))
    (λ j₁ _. gives_first _ _ _ _ j₁ (gives_pure _ _ refl)
    (λ j₂ _. gives_last _ _ j₂ (gives_then gives_variable (λ w h. gives_pure _ _ (lt-ltb w 8 h))))))

-- ---- a field of a template

kind_below : (formals : Bool) (v : ℕ) → implies (not formals) (ltb v 4) ≡ true → formals ≡ false → v < 4
kind_below formals v e f = ltb-true v 4 (implies_e (not formals) (ltb v 4) e (ap not f))

gives_kind : (formals : Bool) → Gives (kind formals) (λ v. formals ≡ false → v < 4)
unfolding kind
gives_kind formals =
    gives_weaken (gives_passing 3 _ 26 (omega arith) (gives_field 3 0 6 25 (omega arith))) (λ v h. kind_below formals v h.1)

module _ (formals : Bool) (n : ℕ) (c : Instruction) where
  gives_fresh : Gives (fresh c) (Fresh formals n c)
  unfolding fresh
  gives_fresh = gives_passing 3 _ 27 (omega arith) gives_variable

  gives_formal_reading : (formals ≡ false → ⊥) → Gives (formal_reading c) (SuitsNext formals n c)
  unfolding formal_reading
  gives_formal_reading f = gives_then gives_fresh (λ v h. gives_pure _ _ (suits_reading formals n c v h f))

  gives_formal_address : (formals ≡ false → ⊥) → Gives (formal_address c) (SuitsNext formals n c)
  unfolding formal_address
  gives_formal_address f = gives_then gives_fresh (λ v h. gives_pure _ _ (suits_address formals n c v h f))

  gives_pattern : Gives (pattern formals n c) (SuitsNext formals n c)
  unfolding pattern reading_pattern address_pattern held_pattern pattern_sound is_actual binds_anew
  gives_pattern =
      gives_then (gives_kind formals)
      (λ v h. gives_first _ _ _ _ v
      (gives_then gives_reading (λ x _. gives_pure _ _ (suited formals n c _ refl (λ _. refl) refl)))
      (λ j₁ e₁. gives_first _ _ _ _ j₁
      (gives_then (gives_address n) (λ l g. gives_pure _ _ (suited formals n c _ (lt-ltb l.0 n g) (λ _. refl) refl)))
      (λ j₂ e₂. gives_first _ _ _ _ j₂ (gives_pure _ _ (suited formals n c _ refl (λ _. refl) refl))
      (λ j₃ e₃. gives_first _ _ _ _ j₃
      (gives_then gives_variable (λ w g. gives_pure _ _ (suited formals n c _ (lt-ltb w 8 g) (λ _. refl) refl)))
      (λ j₄ e₄. gives_first _ _ _ _ j₄ (gives_formal_reading (λ e. omega (arith, h e)))
      (λ j₅ e₅. gives_last _ _ j₅ (gives_formal_address (λ e. omega (arith, h e)))))))))

-- ---- a template

module _ (formals : Bool) (n i : ℕ) (c : Instruction) where
  gives_template_field :
      i < 4 → Drafted formals n i c → Gives (templateField formals n i c) (Drafted formals n (suc i))
  unfolding templateField
  gives_template_field h ok = gives_then (gives_pattern formals n c) (λ x s. gives_pure _ _ (next_pattern formals n i c _ h ok s))

gives_template :
    (formals : Bool) (n : ℕ) → Gives (template formals n) (λ c. (a : Action) → Whole formals n (with_action c a))
unfolding template
gives_template formals n =
    gives_then (gives_bits 2)
    (λ less l. gives_weaken
    (gives_each (Drafted formals n) (less + 1) (templateField formals n)
    (λ i h c ok. gives_template_field formals n i c (omega arith) ok) zero_instruction (no_pattern formals n))
    (λ c ok a. whole formals n (less + 1) c a (omega arith) (omega arith) ok))

-- ---- instructions
gives_group : (n : ℕ) → Gives (group n) (λ g. group_sound n g ≡ true)
unfolding group
gives_group n = gives_then (gives_passing 16 _ 23 (omega arith) (gives_bits 16)) (λ v h. gives_pure _ _ h.1)

-- a seventh action is one of format 2
second_format : (f v : ℕ) → v < actions_in f → 7 ≤ v → eqb f 1 ≡ false
unfolding actions_in choose
second_format f v = by (eqb f 1)
  where
    by : (b : Bool) → v < choose b 7 8 → 7 ≤ v → b ≡ false
    by true h l = absurd (omega arith)
    by false h l = refl

module _ (f n k : ℕ) where
  gives_communication :
      (make : Target → Place → Action) (formals : Bool) → Communicates f n k make formals
      → Gives (communication make formals n k) (InstructionOk f n k)
  unfolding communication Communicates
  gives_communication make formals ok =
      gives_then (gives_target n)
      (λ t e. gives_then (gives_template formals n)
      (λ c w. gives_then (gives_place k) (λ p h. gives_pure _ _ (ok t p c e h (w (make t p))))))

  gives_evaluation : Gives (evaluation n k) (InstructionOk f n k)
  unfolding evaluation with_action Acts
  gives_evaluation =
      gives_then (gives_target n)
      (λ t e. gives_then (gives_place k)
      (λ p h. gives_then (gives_place k) (λ q g. gives_pure _ _ (e, h, g, refl))))

  gives_creation : Gives (creation k) (InstructionOk f n k)
  unfolding creation with_action Acts
  gives_creation = gives_then gives_variable (λ v e. gives_then (gives_place k) (λ p h. gives_pure _ _ (e, h, refl)))

  gives_forking : Gives (forking k) (InstructionOk f n k)
  unfolding forking with_action Acts
  gives_forking = gives_then (gives_place k) (λ p h. gives_then (gives_place k) (λ q g. gives_pure _ _ (h, g, refl)))

  gives_spreading : eqb f 1 ≡ false → Gives (spreading n k) (InstructionOk f n k)
  unfolding spreading
  gives_spreading e =
      gives_then (gives_group n)
      (λ g m. gives_then (gives_template false n)
      (λ c w. gives_then (gives_place k) (λ p h. gives_pure _ _ (out_all_ok f n k g p c e m h (w (Action.OutAll g p))))))

  pub gives_instruction : Gives (instruction f n k) (InstructionOk f n k)
  unfolding instruction
  gives_instruction =
      gives_then (gives_field 3 0 (actions_in f) 25 (omega arith))
      (λ v h. gives_first _ _ _ _ v (gives_pure _ _ (stop_ok f n k))
      (λ j₁ e₁. gives_first _ _ _ _ j₁ (gives_communication Action.Out false (out_ok f n k))
      (λ j₂ e₂. gives_first _ _ _ _ j₂ (gives_communication Action.In true (in_ok f n k))
      (λ j₃ e₃. gives_first _ _ _ _ j₃ (gives_communication Action.Read true (read_ok f n k))
      (λ j₄ e₄. gives_first _ _ _ _ j₄ gives_evaluation
      (λ j₅ e₅. gives_first _ _ _ _ j₅ gives_creation
      (λ j₆ e₆. gives_first _ _ _ _ j₆ gives_forking
      (λ j₇ e₇. gives_last _ _ j₇ (gives_spreading (second_format f v h.below (omega arith)))))))))))
