-- What the readers of fields, templates, targets and tuples of a text give (`Fields.antt` of `fields`): sound ones, as
-- facts (`CodeFacts.antt` and `NodeFacts.antt` of `sound`), whose readings have 32 bits. Assumes nothing.
use Prim.Native.Nat.{ℕ, zero, suc, ◌+◌, ◌-◌, ◌<◌, ◌≤◌}
use mathlib.Core.Path.{◌≡◌, refl, sym, ◌∙◌}
use mathlib.Core.Bool.{Bool, true}
use native.Mathlib.Omega.{arith}
use borrow.Author.Tests.{ltb-true, lt-ltb, leb-true}
use Rattle.readers.specs.Reader.{Reader}
use Rattle.net.specs.Records.{zero_tuple, marked, zero_instruction, with_action}
use Rattle.sound.specs.Soundness.{item_sound, target_sound, pattern_sound, is_actual, binds_anew}
use Rattle.fields.specs.Fields.{address, variable, negative, positive, reading, at_address, own, held, address_item, reading_item}
use Rattle.fields.specs.Fields.{item, fields, tupleField, tuple, address_pattern, own_pattern, held_pattern, reading_pattern, fresh}
use Rattle.fields.specs.Fields.{formal_reading, formal_address, bound, formal, pattern, templateField, template}
use Rattle.fields.specs.Fields.{own_target, held_target, written_target, target}
use Rattle.net.proofs.ReadingLaws.{never}
use Rattle.sound.proofs.NodeFacts.{TupleOk}
use Rattle.sound.proofs.NodeChanges.{Filling, no_field, next_field, all_fields}
use Rattle.sound.proofs.Drafts.{SuitsNext, suited, Fresh, suits_reading, suits_address, Drafted, no_pattern, next_pattern, Whole, whole}
use Rattle.fresh.specs.Fresh.{reading_fits, item_fits, pattern_fits, tuple_fits, action_fits, instruction_fits}
use Rattle.texts.specs.Types.{Locality, Tuple, Pattern, Action, Instruction}
use Rattle.texts.specs.TextClaims.{count, formal_in_out, formal_twice, astray}
use Rattle.texts.specs.TextClaims as Number
use Rattle.texts.proofs.Gives.{Any, Gives, gives_pure, gives_weaken, gives_then, gives_and, gives_choice, gives_require, gives_tested}
use Rattle.texts.proofs.Gives.{gives_look, gives_fail, gives_byte, gives_word, gives_optional, gives_number}
use Rattle.texts.proofs.Fits as Fits
use Rattle.texts.proofs.Fits.{ItemsFit, PatternsFit, marked_fits, template_fits}

-- ---- fields
pub gives_address : (n : ℕ) → Gives (address n) (λ l. l.0 < n)
unfolding address
gives_address n =
    gives_then (gives_number 15) (λ l _. gives_and (gives_require _ 23 Number.address) (λ _ h. gives_pure _ _ (ltb-true l n h)))

pub gives_variable : Gives variable (λ v. v < 8)
unfolding variable
gives_variable = gives_weaken (gives_number 7) (λ v h. omega arith)

gives_reading : Gives reading (λ x. reading_fits x ≡ true)
unfolding reading negative positive reading_fits
gives_reading =
    gives_look _ _ (λ b. gives_choice _ _ _ _
    (gives_and (gives_byte 45) (λ _ _. gives_then (gives_number 2147483648) (λ v h. gives_and (gives_require _ 31 astray) (λ _ e.
    gives_pure _ _ (lt-ltb (v - 1) 2147483648 (omega (arith, leb-true 1 v e)))))))
    (gives_then (gives_number 2147483647) (λ v h. gives_pure _ _ (lt-ltb v 2147483648 (omega arith)))))

gives_at_address : (n : ℕ) → Gives (at_address n) (λ l. l.0 < n)
unfolding at_address
gives_at_address n = gives_and (gives_byte 64) (λ _ _. gives_address n)

gives_held : Gives held (λ v. v < 8)
unfolding held
gives_held = gives_and (gives_byte 118) (λ _ _. gives_variable)

gives_own : Gives own Any
unfolding own
gives_own = gives_word _

-- ---- one to four fields, each added to those before it
gives_fields :
    {A : Type 0} (Part : ℕ → A → Type 0) (All : A → Type 0) (field : A → Reader A)
    → ((i : ℕ) (a : A) → i < 4 → Part i a → Gives (field a) (Part (suc i)))
    → ((i : ℕ) (a : A) → 1 ≤ i → i ≤ 4 → Part i a → All a)
    → (k i : ℕ) (a : A) → k + i ≡ 4 → Part i a → Gives (fields k field a) All
unfolding fields
gives_fields Part All field turn end zero i a e ok = gives_fail All 22 count
gives_fields Part All field turn end (suc k) i a e ok =
    gives_then (turn i a (omega arith) ok) (λ b next. gives_then (gives_optional 44) (λ more _. gives_choice All more _ _
    (gives_fields Part All field turn end k (suc i) b (omega arith) next)
    (gives_pure All b (end (suc i) b (omega arith) (omega arith) next))))

-- ---- tuples
gives_item : (n : ℕ) → Gives (item n) (λ x. (item_sound n x ≡ true) × (item_fits x ≡ true))
unfolding item address_item reading_item item_sound item_fits
gives_item n =
    gives_look _ _ (λ b. gives_choice _ _ _ _
    (gives_then (gives_at_address n) (λ l h. gives_pure _ _ (lt-ltb l.0 n h, refl)))
    (gives_then gives_reading (λ x h. gives_pure _ _ (refl, h))))

-- a tuple as it will stand at a node, whatever the address
pub record TupleRead (n : ℕ) (t : Tuple) : Type 0 where
  pub sound : (a : Locality) → a.0 < n → TupleOk n (marked a t)
  pub fits : (a : Locality) → tuple_fits (marked a t) ≡ true

pub gives_tuple : (n : ℕ) → Gives (tuple n) (TupleRead n)
unfolding tuple tupleField
gives_tuple n =
    gives_and (gives_byte 60) (λ _ _. gives_then
    (gives_fields (λ i t. Filling n i t × ItemsFit t) (TupleRead n) (tupleField n)
    (λ i t h ok. gives_then (gives_item n) (λ x e.
    gives_pure _ _ (next_field n i t _ h ok.0 e.0, Fits.next_item t _ ok.1 e.1)))
    (λ i t h g ok. record { sound = λ a l. all_fields n i t a h g l ok.0; fits = λ a. marked_fits a t ok.1 })
    4 0 zero_tuple refl (no_field n, Fits.no_item))
    (λ t ok. gives_and (gives_byte 62) (λ _ _. gives_pure _ t ok)))

-- ---- templates

module _ (formals : Bool) (n : ℕ) (c : Instruction) where
  -- behind the fields of c, and of 32 bits
  abbrev Suits : Pattern → Type 0
  Suits x = SuitsNext formals n c x × (pattern_fits x ≡ true)

  gives_fresh : Gives (fresh c) (Fresh formals n c)
  unfolding fresh
  gives_fresh = gives_tested _ 27 formal_twice gives_variable

  gives_formal : Gives (formal formals c) Suits
  unfolding formal bound formal_reading formal_address pattern_fits
  gives_formal =
      gives_and (gives_require formals 26 formal_in_out) (λ _ e. gives_and (gives_byte 33) (λ _ _.
      gives_look _ _ (λ b. gives_choice _ _ _ _
      (gives_and (gives_byte 120) (λ _ _. gives_then gives_fresh (λ v h.
      gives_pure _ _ (suits_reading formals n c v h (λ f. never (sym f ∙ e)), refl))))
      (gives_and (gives_byte 117) (λ _ _. gives_then gives_fresh (λ v h.
      gives_pure _ _ (suits_address formals n c v h (λ f. never (sym f ∙ e)), refl)))))))

  gives_pattern : Gives (pattern formals n c) Suits
  unfolding pattern address_pattern own_pattern held_pattern reading_pattern pattern_sound is_actual binds_anew pattern_fits
  gives_pattern =
      gives_look _ _ (λ b. gives_choice _ _ _ _ gives_formal
      (gives_choice _ _ _ _
      (gives_then (gives_at_address n) (λ l g. gives_pure _ _ (suited formals n c _ (lt-ltb l.0 n g) (λ _. refl) refl, refl)))
      (gives_choice _ _ _ _ (gives_and gives_own (λ _ _. gives_pure _ _ (suited formals n c _ refl (λ _. refl) refl, refl)))
      (gives_choice _ _ _ _
      (gives_then gives_held (λ v g. gives_pure _ _ (suited formals n c _ (lt-ltb v 8 g) (λ _. refl) refl, refl)))
      (gives_then gives_reading (λ x h. gives_pure _ _ (suited formals n c _ refl (λ _. refl) refl, h)))))))

-- a template as it will stand in an instruction, whatever the action that fits
pub record TemplateRead (formals : Bool) (n : ℕ) (c : Instruction) : Type 0 where
  pub sound : (a : Action) → Whole formals n (with_action c a)
  pub fits : (a : Action) → action_fits a ≡ true → instruction_fits (with_action c a) ≡ true

pub gives_template : (formals : Bool) (n : ℕ) → Gives (template formals n) (TemplateRead formals n)
unfolding template templateField
gives_template formals n =
    gives_fields (λ i c. Drafted formals n i c × PatternsFit c) (TemplateRead formals n) (templateField formals n)
    (λ i c h ok. gives_then (gives_pattern formals n c) (λ x e.
    gives_pure _ _ (next_pattern formals n i c _ h ok.0 e.0, Fits.next_pattern c _ ok.1 e.1)))
    (λ i c h g ok. record { sound = λ a. whole formals n i c a h g ok.0; fits = template_fits c ok.1 })
    4 0 zero_instruction refl (no_pattern formals n, Fits.no_pattern)

-- ---- targets
pub gives_target : (n : ℕ) → Gives (target n) (λ t. target_sound n t ≡ true)
unfolding target own_target held_target written_target target_sound
gives_target n =
    gives_look _ _ (λ b. gives_choice _ _ _ _ (gives_and gives_own (λ _ _. gives_pure _ _ refl))
    (gives_choice _ _ _ _ (gives_then gives_held (λ v h. gives_pure _ _ (lt-ltb v 8 h)))
    (gives_then (gives_address n) (λ l h. gives_pure _ _ (lt-ltb l.0 n h)))))
