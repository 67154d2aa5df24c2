-- Templates and targets (`Fields.antt` of `fields`): what is read is what is printed. n is the number of addresses.
-- Assumes nothing.
use Prim.Native.Nat.{ℕ, ◌+◌, ◌-◌, ◌<◌, ◌≤◌}
use mathlib.Core.Path.{◌≡◌, refl, sym, ap, subst, ◌∙◌}
use mathlib.Core.Logic.{inl, inr}
use mathlib.Core.Bool.{Bool, true, false}
use mathlib.Core.List.{List, [], ◌∷◌, ◌++◌, map}
use native.Mathlib.Omega.{arith}
use lib.ListN.{length, get_or, set, replicate, length-append}
use borrow.Author.Tests.{ltb-true, lt-ltb}
use Rattle.net.specs.Records.{zero_template_field, zero_instruction, with_pattern}
use Rattle.net.proofs.Laws.{choose_true}
use Rattle.net.proofs.ReadingLaws.{never}
use Rattle.readers.specs.Reader.{pure, ◌>>=◌}
use Rattle.text.specs.Bytes.{bytes}
use Rattle.text.specs.Decimal.{decimal}
use Rattle.lexemes.specs.Lexemes.{is_digit}
use Rattle.fields.specs.Fields.{own, held, at_address, address_pattern, own_pattern, held_pattern, reading_pattern, fresh, formal_reading}
use Rattle.fields.specs.Fields.{formal_address, bound, formal, pattern, templateField, template, own_target, held_target, written_target, target}
use Rattle.sound.specs.Soundness.{target_sound, pattern_sound, is_actual, unbound_before, binds_anew}
use Rattle.fresh.specs.Fresh.{pattern_fits}
use Rattle.sources.specs.Types.{Locality, Target, Pattern, TemplateField, Instruction}
use Rattle.sources.specs.Printed.{separated, address_text, pattern_text, template_text, target_text}
use Rattle.sources.specs.WellFormed.{PatternFormed, template_of, TemplateFormed, TargetFormed}
use Rattle.sources.proofs.ReadsPrints.{opens_with_law, Reads, Is, After, Or, Image, reads_as, reads_pure, reads_from_byte, reads_from_word, reads_require}
use Rattle.sources.proofs.ReadsPrints.{reads_map, reads_tested, reads_choice, reads_last}
use Rattle.sources.proofs.Numbers.{low_byte, high_byte, NoDigit, no_other}
use Rattle.sources.proofs.Listed.{FieldEnd, Parts, reads_fields}
use Rattle.sources.proofs.Fields.{AddressText, reads_address, address_opens, VariableText, reads_variable, ReadingText, reads_reading}
use Rattle.sources.proofs.Fields.{reading_opens, filled_next, filled_text, then_same}

-- ---- parts that templates and targets share
abbrev Named : ℕ → Locality → List ℕ → Type 0
Named n = After (64 ∷ []) (AddressText n)

abbrev Variable : ℕ → List ℕ → Type 0
Variable = After (118 ∷ []) VariableText

abbrev Self : {A : Type 0} → A → A → List ℕ → Type 0
Self a = After (bytes "self") (Is a)

-- ---- patterns: before are the fields before this one
module _ (formals : Bool) (n : ℕ) (before : List Pattern) where
  abbrev PatternText : Pattern → List ℕ → Type 0
  PatternText x u = PatternFormed formals n before x × (pattern_text x ≡ u)

  -- a variable that none of them binds
  abbrev Fresh : ℕ → List ℕ → Type 0
  Fresh v u = VariableText v u × (unbound_before (template_of before) (template_of before).count v ≡ true)

  reads_fresh : Reads (fresh (template_of before)) Fresh NoDigit
  unfolding fresh
  reads_fresh =
      reads_as (reads_tested (unbound_before (template_of before) (template_of before).count) 27 (λ v. v) reads_variable)
      (λ v u (a, x, is). subst (λ (y : ℕ). Fresh y u) is x) (λ v u x. (v, x, refl)) (λ d e. e)

  abbrev Formal : Pattern → List ℕ → Type 0
  Formal x u =
      (formals ≡ true)
      × After (33 ∷ []) (Or (After (120 ∷ []) (Image Pattern.FormalReading Fresh)) (After (117 ∷ []) (Image Pattern.FormalAddress Fresh))) x u

  reads_formal : Reads (formal formals (template_of before)) Formal NoDigit
  unfolding formal bound formal_reading formal_address
  reads_formal =
      reads_require formals 26
      (reads_from_byte 33
      (reads_choice 120 (reads_from_byte 120 (reads_map Pattern.FormalReading reads_fresh))
      (reads_last (reads_from_byte 117 (reads_map Pattern.FormalAddress reads_fresh)))
      (λ x u d y e. opens_with_law _ u d y.2)
      (λ x u d y e f. let g = opens_with_law _ u d y.2 in omega arith)
      ).looked)

  abbrev Actual₃ : Pattern → List ℕ → Type 0
  Actual₃ = Or (Image Pattern.Held Variable) (Image Pattern.Reading ReadingText)

  abbrev Actual₂ : Pattern → List ℕ → Type 0
  Actual₂ = Or (Self Pattern.Own) Actual₃

  abbrev Actual₁ : Pattern → List ℕ → Type 0
  Actual₁ = Or (Image Pattern.Address (Named n)) Actual₂

  other₃ : (c : ℕ) → is_digit c ≡ false → (45 ≡ c → ⊥) → (118 ≡ c → ⊥) → (x : Pattern) (u : List ℕ) (d : ℕ) → Actual₃ x u
      → get_or u 0 d ≡ c → ⊥
  other₃ c h g₁ g₂ x u d (inl y) e = g₂ (sym (opens_with_law _ u d y.1.2) ∙ e)
  other₃ c h g₁ g₂ x u d (inr y) e = reading_opens c h g₁ y.0 u d y.1 e

  other₂ : (c : ℕ) → is_digit c ≡ false → (45 ≡ c → ⊥) → (118 ≡ c → ⊥) → (115 ≡ c → ⊥) → (x : Pattern) (u : List ℕ) (d : ℕ)
      → Actual₂ x u → get_or u 0 d ≡ c → ⊥
  unfolding bytes
  other₂ c h g₁ g₂ g₃ x u d (inl y) e = g₃ (sym (opens_with_law _ u d y.2) ∙ e)
  other₂ c h g₁ g₂ g₃ x u d (inr y) e = other₃ c h g₁ g₂ x u d y e

  other₁ : (x : Pattern) (u : List ℕ) (d : ℕ) → Actual₁ x u → get_or u 0 d ≡ 33 → ⊥
  other₁ x u d (inl y) e = let g = opens_with_law _ u d y.1.2 in omega arith
  other₁ x u d (inr y) e = other₂ 33 (low_byte 33 (omega arith)) (λ f. omega arith) (λ f. omega arith) (λ f. omega arith) x u d y e

  pattern_to : (x : Pattern) (u : List ℕ) → Or Formal Actual₁ x u → PatternText x u
  unfolding pattern_text pattern_sound pattern_fits is_actual binds_anew bytes template_of
  pattern_to x u (inl (t, (w, inl (v, (k, (f, g), is), a), b))) =
      subst (λ (y : Pattern). PatternText y u) is (
        record { in_range_law = lt-ltb k 8 f.in_range_law; fits = refl; actual = λ e. never (sym e ∙ t); anew = g },
        ap (λ (y : List ℕ). 33 ∷ 120 ∷ y) f.prints ∙ ap (λ (y : List ℕ). 33 ∷ y) a ∙ b,
      )
  pattern_to x u (inl (t, (w, inr (v, (k, (f, g), is), a), b))) =
      subst (λ (y : Pattern). PatternText y u) is (
        record { in_range_law = lt-ltb k 8 f.in_range_law; fits = refl; actual = λ e. never (sym e ∙ t); anew = g },
        ap (λ (y : List ℕ). 33 ∷ 117 ∷ y) f.prints ∙ ap (λ (y : List ℕ). 33 ∷ y) a ∙ b,
      )
  pattern_to x u (inr (inl (l, (w, a, e), is))) =
      subst (λ (y : Pattern). PatternText y u) is (
        record { in_range_law = lt-ltb l.0 n a.in_range_law; fits = refl; actual = λ _. refl; anew = refl },
        ap (λ (y : List ℕ). 64 ∷ y) a.prints ∙ e,
      )
  pattern_to x u (inr (inr (inl (w, (is, e), f)))) =
      subst (λ (y : Pattern). PatternText y u) is (
        record { in_range_law = refl; fits = refl; actual = λ _. refl; anew = refl },
        ap (λ (y : List ℕ). bytes "self" ++ y) e ∙ f,
      )
  pattern_to x u (inr (inr (inr (inl (v, (w, a, e), is))))) =
      subst (λ (y : Pattern). PatternText y u) is (
        record { in_range_law = lt-ltb v 8 a.in_range_law; fits = refl; actual = λ _. refl; anew = refl },
        ap (λ (y : List ℕ). 118 ∷ y) a.prints ∙ e,
      )
  pattern_to x u (inr (inr (inr (inr (v, a, is))))) =
      subst (λ (y : Pattern). PatternText y u) is (
        record { in_range_law = refl; fits = a.fits; actual = λ _. refl; anew = refl },
        a.prints,
      )

  allowed : (b : Bool) → (b ≡ false → false ≡ true) → b ≡ true
  allowed true f = refl
  allowed false f = f refl

  pattern_from : (x : Pattern) (u : List ℕ) → PatternText x u → Or Formal Actual₁ x u
  unfolding pattern_text pattern_sound pattern_fits is_actual binds_anew bytes template_of
  pattern_from (Pattern.Reading x) u (h, e) = inr (inr (inr (inr (x, record { fits = h.fits; prints = e }, refl))))
  pattern_from (Pattern.Address l) u (h, e) =
      inr (inl (l, (address_text l, record { in_range_law = ltb-true l.0 n h.in_range_law; prints = refl }, e), refl))
  pattern_from Pattern.Own u (h, e) = inr (inr (inl ([], (refl, refl), e)))
  pattern_from (Pattern.Held v) u (h, e) =
      inr (inr (inr (inl (v, (decimal v, record { in_range_law = ltb-true v 8 h.in_range_law; prints = refl }, e), refl))))
  pattern_from (Pattern.FormalReading v) u (h, e) =
      inl (allowed formals h.actual, (120 ∷ decimal v, inl (decimal v, (v, (record { in_range_law = ltb-true v 8 h.in_range_law; prints = refl }, h.anew), refl), refl), e))
  pattern_from (Pattern.FormalAddress v) u (h, e) =
      inl (allowed formals h.actual, (117 ∷ decimal v, inr (decimal v, (v, (record { in_range_law = ltb-true v 8 h.in_range_law; prints = refl }, h.anew), refl), refl), e))

  reads_pattern : n ≤ 16 → Reads (pattern formals n (template_of before)) PatternText NoDigit
  unfolding pattern address_pattern own_pattern held_pattern reading_pattern at_address own held bytes
  reads_pattern h =
      reads_as
      (reads_choice 33 reads_formal
      (reads_choice 64 (reads_map Pattern.Address (reads_from_byte 64 (reads_address n h)))
      (reads_choice 115 (reads_from_word (bytes "self") (reads_pure Pattern.Own))
      (reads_choice 118 (reads_map Pattern.Held (reads_from_byte 118 reads_variable)) (reads_last (reads_map Pattern.Reading reads_reading))
      (λ x u d y e. opens_with_law _ u d y.1.2)
      (λ x u d y e. reading_opens 118 (high_byte 118 (omega arith)) (λ f. omega arith) y.0 u d y.1))
      (λ x u d y e. opens_with_law _ u d y.2)
      (λ x u d y e. other₃ 115 (high_byte 115 (omega arith)) (λ f. omega arith) (λ f. omega arith) x u d y))
      (λ x u d y e. opens_with_law _ u d y.1.2)
      (λ x u d y e. other₂ 64 (high_byte 64 (omega arith)) (λ f. omega arith) (λ f. omega arith) (λ f. omega arith) x u d y))
      (λ x u d y e. opens_with_law _ u d y.1.2)
      (λ x u d y e. other₁ x u d y)
      ).looked
      pattern_to pattern_from (λ d e. e)

-- ---- templates
template_next : (xs : List Pattern) (x : Pattern) → length xs < 4 → with_pattern (template_of xs) (record { pattern = x }) ≡ template_of (xs ++ (x ∷ []))
unfolding with_pattern template_of
template_next xs x h =
    let l : length xs + 1 ≡ length (xs ++ (x ∷ [])) = sym (length-append xs (x ∷ [])) in
    choose_true _ _ _ (lt-ltb (length xs) 4 h)
    ∙ ap (λ (k : ℕ). record { action = zero_instruction.action; count = k; template = set (template_of xs).template (length xs) (record { pattern = x }) }) l
    ∙ ap (λ ys. record { action = zero_instruction.action; count = length (xs ++ (x ∷ [])); template = ys })
    (filled_next (λ (y : Pattern). record { pattern = y }) zero_template_field xs x h)

template_text_law : (xs : List Pattern) → template_text (template_of xs) ≡ separated (map pattern_text xs)
unfolding template_text template_of
template_text_law xs =
    ap separated
    (filled_text (λ (y : Pattern). record { pattern = y }) zero_template_field (λ (f : TemplateField). pattern_text f.pattern) xs
    (replicate (4 - length xs) zero_template_field))

pub record TemplateText (formals : Bool) (n : ℕ) (c : Instruction) (u : List ℕ) : Type 0 where
  pub formed : TemplateFormed formals n c
  pub prints : template_text c ≡ u

module _ (formals : Bool) (n : ℕ) where
  template_to : (c : Instruction) (u : List ℕ) → Parts 4 template_of pattern_text (PatternFormed formals n) [] c u → TemplateText formals n c u
  template_to c u f =
      let few = f.few in record {
        formed = record { patterns = f.ys; some = f.some; few = omega arith; each = f.each; is = f.is };
        prints = ap template_text (sym f.is) ∙ template_text_law f.ys ∙ f.prints;
      }

  template_from : (c : Instruction) (u : List ℕ) → TemplateText formals n c u → Parts 4 template_of pattern_text (PatternFormed formals n) [] c u
  template_from c u x =
      let y = x.formed in
      let few = y.few in record {
        ys = y.patterns;
        each = y.each;
        some = y.some;
        few = omega arith;
        is = y.is;
        prints = sym (template_text_law y.patterns) ∙ ap template_text y.is ∙ x.prints;
      }

  template_step : (xs : List Pattern) → length xs < 4 → (s : List ℕ) (p : ℕ)
      → templateField formals n (template_of xs) s p ≡ (pattern formals n (template_of xs) >>= (λ x. pure (template_of (xs ++ (x ∷ []))))) s p
  unfolding templateField
  template_step xs l s p =
      then_same (pattern formals n (template_of xs)) _ _ s p (λ x q. ap (λ (c : Instruction). pure c s q) (template_next xs x l))

  pub reads_template : n ≤ 16 → Reads (template formals n) (TemplateText formals n) FieldEnd
  unfolding template zero_instruction template_of
  reads_template h =
      reads_as
      (reads_fields template_of pattern_text (PatternFormed formals n) (templateField formals n) (λ xs. pattern formals n (template_of xs))
      template_step (λ xs l. reads_pattern formals n xs h))
      template_to template_from (λ d e. e)

-- ---- targets
pub record TargetText (n : ℕ) (t : Target) (u : List ℕ) : Type 0 where
  pub formed : TargetFormed n t
  pub prints : target_text t ≡ u

module _ (n : ℕ) where
  abbrev Target₂ : Target → List ℕ → Type 0
  Target₂ = Or (Image Target.Held Variable) (Image Target.Written (AddressText n))

  target_to : (t : Target) (u : List ℕ) → Or (Self Target.Own) Target₂ t u → TargetText n t u
  unfolding target_text target_sound bytes
  target_to t u (inl (w, (is, e), f)) =
      subst (λ (y : Target). TargetText n y u) is
      (record { formed = record { in_range_law = refl }; prints = ap (λ (y : List ℕ). bytes "self" ++ y) e ∙ f })
  target_to t u (inr (inl (v, (w, a, e), is))) =
      subst (λ (y : Target). TargetText n y u) is
      (record { formed = record { in_range_law = lt-ltb v 8 a.in_range_law }; prints = ap (λ (y : List ℕ). 118 ∷ y) a.prints ∙ e })
  target_to t u (inr (inr (l, a, is))) =
      subst (λ (y : Target). TargetText n y u) is
      (record { formed = record { in_range_law = lt-ltb l.0 n a.in_range_law }; prints = a.prints })

  target_from_law : (t : Target) (u : List ℕ) → target_sound n t ≡ true → target_text t ≡ u → Or (Self Target.Own) Target₂ t u
  unfolding target_text target_sound bytes
  target_from_law (Target.Written l) u h e = inr (inr (l, record { in_range_law = ltb-true l.0 n h; prints = e }, refl))
  target_from_law Target.Own u h e = inl ([], (refl, refl), e)
  target_from_law (Target.Held v) u h e =
      inr (inl (v, (decimal v, record { in_range_law = ltb-true v 8 h; prints = refl }, e), refl))

  module _ (h : n ≤ 16) where
    target_other : (t : Target) (u : List ℕ) (d : ℕ) → Target₂ t u → get_or u 0 d ≡ 115 → ⊥
    target_other t u d (inl y) e = let g = opens_with_law _ u d y.1.2 in omega arith
    target_other t u d (inr y) e = no_other _ 115 (address_opens n h y.0 u d y.1) (high_byte 115 (omega arith)) e

    -- a target opens with none of other bytes
    pub target_opens : (c : ℕ) → is_digit c ≡ false → (118 ≡ c → ⊥) → (115 ≡ c → ⊥) → (t : Target) (u : List ℕ) (d : ℕ) → TargetText n t u
        → get_or u 0 d ≡ c → ⊥
    unfolding bytes
    target_opens c g₁ g₂ g₃ t u d x = go (target_from_law t u x.formed.in_range_law x.prints)
      where
        go : Or (Self Target.Own) Target₂ t u → get_or u 0 d ≡ c → ⊥
        go (inl y) e = g₃ (sym (opens_with_law _ u d y.2) ∙ e)
        go (inr (inl y)) e = g₂ (sym (opens_with_law _ u d y.1.2) ∙ e)
        go (inr (inr y)) e = no_other _ c (address_opens n h y.0 u d y.1) g₁ e

    pub reads_target : Reads (target n) (TargetText n) NoDigit
    unfolding target own_target held_target written_target own held bytes
    reads_target =
        reads_as
        (reads_choice 115 (reads_from_word (bytes "self") (reads_pure Target.Own))
        (reads_choice 118 (reads_map Target.Held (reads_from_byte 118 reads_variable)) (reads_last (reads_map Target.Written (reads_address n h)))
        (λ t u d y e. opens_with_law _ u d y.1.2)
        (λ t u d y e. no_other _ 118 (address_opens n h y.0 u d y.1) (high_byte 118 (omega arith))))
        (λ t u d y e. opens_with_law _ u d y.2) (λ t u d y e. target_other t u d y)
        ).looked
        target_to (λ t u x. target_from_law t u x.formed.in_range_law x.prints) (λ d e. e)
