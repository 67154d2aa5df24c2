-- Actions (`Reading.antt` of `processes`), over what is read and printed for the process of an eval: what is read is what is
-- printed. Their scope is what addresses and sets are judged by. Assumes nothing.
use Prim.Native.Nat.{ℕ, zero, suc, ◌≤◌}
use mathlib.Core.Path.{◌≡◌, refl, sym, ap, subst, ◌∙◌}
use mathlib.Core.Logic.{inl, inr}
use mathlib.Core.Bool.{Bool, true, false}
use mathlib.Core.List.{List, [], ◌∷◌, ◌++◌}
use native.Mathlib.Omega.{arith}
use lib.ListN.{get_or}
use lib.Dec.{eqb}
use borrow.Author.Tests.{eqb-true, eq-eqb, ne_eqb}
use Rattle.net.specs.Choice.{choose, both}
use Rattle.net.proofs.Laws.{both_i, choose_false}
use Rattle.net.proofs.ReadingLaws.{never}
use Rattle.readers.specs.Reader.{Reader, pure, ◌>>=◌}
use Rattle.text.specs.Bytes.{bytes}
use Rattle.text.specs.Decimal.{decimal}
use Rattle.lexemes.specs.Lexemes.{byte_at, look}
use Rattle.terms.specs.Terms.{Process, Action, out, input, read, eval, newloc, out_all}
use Rattle.processes.specs.Reading.{at_target, communication, to_one, to_all, receiving, putting, evaluation, creation, simple, action}
use Rattle.sources.specs.Types.{Group, Target, Instruction, Scope}
use Rattle.sources.specs.Printed.{template_text, target_text, group_text, process_text, action_text}
use Rattle.sources.specs.WellFormed.{TemplateFormed, TargetFormed}
use Rattle.sources.specs.WellFormed.{ProcessFormed, ActionFormed, puts, takes, reads, sends, opens, shares}
use Rattle.sources.proofs.ReadsPrints.{opens_with_law, Reads, After, Or, Then, Image, reads_as, reads_equal}
use Rattle.sources.proofs.ReadsPrints.{reads_then, reads_from_word, reads_map, reads_closed, reads_either, reads_choice, reads_last}
use Rattle.sources.proofs.Numbers.{low_byte, high_byte, NoDigit}
use Rattle.sources.proofs.Openings.{both_none}
use Rattle.sources.proofs.Listed.{FieldEnd}
use Rattle.sources.proofs.Sets.{GroupText, reads_group}
use Rattle.sources.proofs.Fields.{VariableText, reads_variable}
use Rattle.sources.proofs.Templates.{TemplateText, reads_template, TargetText, target_opens, reads_target}

-- ---- bytes that end a number or the fields of a template
closes_fields : FieldEnd 41
closes_fields = record { no_digit = (low_byte 41 (omega arith)); no_comma = λ e. omega arith }

-- ---- actions, over what is printed for the process of an eval
abbrev AtTarget : {A : Type 0} → ℕ → (Target → A) → A → List ℕ → Type 0
AtTarget n make = Image make (After (bytes ")@") (TargetText n))

abbrev Communication : List ℕ → (Instruction → Target → Action) → ℕ → Action → List ℕ → Type 0
Communication opening make n = After opening (Then (TemplateText true n) (λ c. AtTarget n (make c)))

abbrev Evaluation : (Process → List ℕ → Type 0) → ℕ → Action → List ℕ → Type 0
Evaluation Inner n = After (bytes "eval(") (Then Inner (λ p. AtTarget n (eval p)))

abbrev Creation : Action → List ℕ → Type 0
Creation = After (bytes "newloc(u") (Image newloc (λ v t. (u : List ℕ) × VariableText v u × (u ++ (41 ∷ []) ≡ t)))

-- a set, where `sets` tells that the format has them, or a target
abbrev Receiving : Bool → ℕ → Instruction → Action → List ℕ → Type 0
Receiving sets n c = Or (λ a u. (sets ≡ true) × Image (out_all c) (GroupText n) a u) (Image (out c) (TargetText n))

abbrev Putting : Scope → Action → List ℕ → Type 0
Putting scope =
    After (bytes "out(")
    (Then (TemplateText false scope.addresses) (λ c. After (bytes ")@") (Receiving (eqb scope.format 2) scope.addresses c)))

module _ (scope : Scope) (h : scope.addresses ≤ 16) where
  reads_at_target : {A : Type 0} (make : Target → A) → Reads (at_target scope.addresses >>= (λ t. pure (make t))) (AtTarget scope.addresses make) NoDigit
  unfolding at_target
  reads_at_target make = reads_map make (reads_from_word (bytes ")@") (reads_target scope.addresses h))

  -- a bracket closes the fields of a template, and a number
  bracket_closes : (v u : List ℕ) (d : ℕ) → bytes ")@" ++ v ≡ u → get_or u 0 d ≡ 41
  unfolding bytes
  bracket_closes v u d e = opens_with_law _ u d e

  reads_communication :
      (opening : List ℕ) (make : Instruction → Target → Action)
      → Reads (communication opening make scope) (Communication opening make scope.addresses) NoDigit
  unfolding communication
  reads_communication opening make =
      reads_from_word opening
      (reads_then (reads_template true scope.addresses h) (λ c u y. reads_at_target (make c))
      (λ c a u v d y z e. subst FieldEnd (sym (bracket_closes _ v d z.1.2)) closes_fields))

  reads_evaluation : (inner : Reader Process) (Inner : Process → List ℕ → Type 0) → Reads inner Inner NoDigit
      → Reads (evaluation inner scope) (Evaluation Inner scope.addresses) NoDigit
  unfolding evaluation
  reads_evaluation inner Inner r =
      reads_from_word (bytes "eval(")
      (reads_then r (λ p u y. reads_at_target (eval p))
      (λ p a u v d y z e. subst NoDigit (sym (bracket_closes _ v d z.1.2)) (low_byte 41 (omega arith))))

  -- ---- an out, to a set or to a target
  module _ (c : Instruction) where
    reads_to_all : Reads (to_all scope c) (Image (out_all c) (GroupText scope.addresses)) NoDigit
    unfolding to_all
    reads_to_all = reads_map (out_all c) (reads_as (reads_group scope.addresses h) (λ g u y. y) (λ g u y. y) (λ d e. tt))

    reads_to_one : Reads (to_one scope c) (Image (out c) (TargetText scope.addresses)) NoDigit
    unfolding to_one
    reads_to_one = reads_map (out c) (reads_target scope.addresses h)

    group_opens : (g : Group) (u : List ℕ) (d : ℕ) → GroupText scope.addresses g u → get_or u 0 d ≡ 123
    unfolding group_text bytes
    group_opens g u d y = opens_with_law _ u d y.prints

    target_other : (t : Target) (u : List ℕ) (d : ℕ) → TargetText scope.addresses t u → get_or u 0 d ≡ 123 → ⊥
    target_other = target_opens scope.addresses h 123 (high_byte 123 (omega arith)) (λ e. omega arith) (λ e. omega arith)

    reads_receiver : (sets : Bool)
        → Reads (look (λ b. choose (both (eqb b 123) sets) (to_all scope c) (to_one scope c))) (Receiving sets scope.addresses c) NoDigit
    unfolding both look
    reads_receiver true =
        reads_as
        (reads_either (λ b. both (eqb b 123) true) reads_to_all (reads_last reads_to_one)
        (λ a u d (g, y, is) e. both_i _ _ (eq-eqb _ 123 (group_opens g u d y)) refl)
        (λ a u d (t, y, is) e. ap (λ (b : Bool). both b true) (ne_eqb _ 123 (target_other t u d y)))
        ).looked
        to from (λ d e. e)
      where
        to : (a : Action) (u : List ℕ) → Or (Image (out_all c) (GroupText scope.addresses)) (Image (out c) (TargetText scope.addresses)) a u
            → Receiving true scope.addresses c a u
        to a u (inl y) = inl (refl, y)
        to a u (inr y) = inr y

        from : (a : Action) (u : List ℕ) → Receiving true scope.addresses c a u
            → Or (Image (out_all c) (GroupText scope.addresses)) (Image (out c) (TargetText scope.addresses)) a u
        from a u (inl y) = inl y.1
        from a u (inr y) = inr y
    reads_receiver false =
        reads_as
        (reads_equal _ (λ s p. ap (λ (m : Reader Action). m s p) (choose_false _ _ _ (both_none (eqb (byte_at s p) 123) false refl))) reads_to_one)
        (λ a u y. inr y) from (λ d e. e)
      where
        from : (a : Action) (u : List ℕ) → Receiving false scope.addresses c a u → Image (out c) (TargetText scope.addresses) a u
        from a u (inl y) = never y.0
        from a u (inr y) = y

  reads_putting : Reads (putting scope) (Putting scope) NoDigit
  unfolding putting receiving
  reads_putting =
      reads_from_word (bytes "out(")
      (reads_then (reads_template false scope.addresses h) (λ c u y. reads_from_word (bytes ")@") (reads_receiver c (eqb scope.format 2)))
      (λ c a u v d y z e. subst FieldEnd (sym (bracket_closes _ v d z.2)) closes_fields))

reads_creation : Reads creation Creation NoDigit
unfolding creation
reads_creation =
    reads_as (reads_from_word (bytes "newloc(u") (reads_closed 41 newloc reads_variable (low_byte 41 (omega arith)))) (λ a u x. x) (λ a u x. x) (λ d e. tt)

abbrev Simple₃ : ℕ → Action → List ℕ → Type 0
Simple₃ n = Or (Communication (bytes "read(") read n) Creation

abbrev Simple₂ : ℕ → Action → List ℕ → Type 0
Simple₂ n = Or (Communication (bytes "in(") input n) (Simple₃ n)

abbrev Simple₁ : Scope → Action → List ℕ → Type 0
Simple₁ scope = Or (Putting scope) (Simple₂ scope.addresses)

-- a first letter that is none of these
other₃ : (n c : ℕ) → (114 ≡ c → ⊥) → (110 ≡ c → ⊥) → (a : Action) (u : List ℕ) (d : ℕ) → Simple₃ n a u → get_or u 0 d ≡ c → ⊥
unfolding bytes
other₃ n c g₁ g₂ a u d (inl x) e = g₁ (sym (opens_with_law _ u d x.2) ∙ e)
other₃ n c g₁ g₂ a u d (inr x) e = g₂ (sym (opens_with_law _ u d x.2) ∙ e)

other₂ : (n c : ℕ) → (114 ≡ c → ⊥) → (110 ≡ c → ⊥) → (105 ≡ c → ⊥) → (a : Action) (u : List ℕ) (d : ℕ) → Simple₂ n a u → get_or u 0 d ≡ c → ⊥
unfolding bytes
other₂ n c g₁ g₂ g₃ a u d (inl x) e = g₃ (sym (opens_with_law _ u d x.2) ∙ e)
other₂ n c g₁ g₂ g₃ a u d (inr x) e = other₃ n c g₁ g₂ a u d x e

module _ (scope : Scope) where
  other₁ : (a : Action) (u : List ℕ) (d : ℕ) → Simple₁ scope a u → get_or u 0 d ≡ 101 → ⊥
  unfolding bytes
  other₁ a u d (inl y) e = let g = opens_with_law _ u d y.2 in omega arith
  other₁ a u d (inr y) e = other₂ scope.addresses 101 (λ f. omega arith) (λ f. omega arith) (λ f. omega arith) a u d y e

  reads_simple : scope.addresses ≤ 16 → Reads (simple scope) (Simple₁ scope) NoDigit
  unfolding simple bytes
  reads_simple h =
      (reads_choice 111 (reads_putting scope h)
      (reads_choice 105 (reads_communication scope h (bytes "in(") input)
      (reads_choice 114 (reads_communication scope h (bytes "read(") read) (reads_last reads_creation)
      (λ a u d y e. opens_with_law _ u d y.2) (λ a u d y e f. let g = opens_with_law _ u d y.2 in omega arith))
      (λ a u d y e. opens_with_law _ u d y.2) (λ a u d y e. other₃ scope.addresses 105 (λ f. omega arith) (λ f. omega arith) a u d y))
      (λ a u d y e. opens_with_law _ u d y.2) (λ a u d y e. other₂ scope.addresses 111 (λ f. omega arith) (λ f. omega arith) (λ f. omega arith) a u d y)
      ).looked

-- ---- processes and actions at most d deep
pub record ProcessText (scope : Scope) (d : ℕ) (p : Process) (u : List ℕ) : Type 0 where
  pub formed : ProcessFormed scope d p
  pub prints : process_text p ≡ u

pub record ActionText (scope : Scope) (d : ℕ) (a : Action) (u : List ℕ) : Type 0 where
  pub formed : ActionFormed scope d a
  pub prints : action_text a ≡ u

-- a process one level deeper
unfoldable pub Deeper : Scope → ℕ → Process → List ℕ → Type 0
Deeper scope zero p u = ⊥
Deeper scope (suc d) p u = ProcessText scope d p u

-- a template and what receives it, between what opens the action and its end
spoken : (opening : List ℕ) (c : Instruction) (to v w x y u : List ℕ) → template_text c ≡ v → to ≡ w → bytes ")@" ++ w ≡ x → v ++ x ≡ y → opening ++ y ≡ u
    → opening ++ (template_text c ++ (bytes ")@" ++ to)) ≡ u
spoken opening c to v w x y u e f g i j =
    ap (λ (a : List ℕ). opening ++ (template_text c ++ (bytes ")@" ++ a))) f
    ∙ ap (λ (a : List ℕ). opening ++ (template_text c ++ a)) g
    ∙ ap (λ (a : List ℕ). opening ++ (a ++ x)) e
    ∙ ap (λ (a : List ℕ). opening ++ a) i
    ∙ j

module _ (scope : Scope) where
  communication_to :
      (opening : List ℕ) (make : Instruction → Target → Action) (d : ℕ) (a : Action) (u : List ℕ)
      → ((c : Instruction) (t : Target) → opening ++ (template_text c ++ (bytes ")@" ++ target_text t)) ≡ action_text (make c t))
      → ((c : Instruction) (t : Target) → TemplateFormed true scope.addresses c → TargetFormed scope.addresses t → ActionFormed scope d (make c t))
      → Communication opening make scope.addresses a u → ActionText scope d a u
  communication_to opening make d a u text form (y, z, j) =
      let (t, (w, f, g), is) = z.goes_on in
      let c = z.one in
      subst (λ (b : Action). ActionText scope d b u) is (record {
        formed = form c t z.prints.formed f.formed;
        prints = sym (text c t) ∙ spoken opening c (target_text t) _ w _ y u z.prints.prints f.prints g z.is j;
      })

  communication_from :
      (opening : List ℕ) (make : Instruction → Target → Action) (c : Instruction) (t : Target) (u : List ℕ)
      → TemplateFormed true scope.addresses c → TargetFormed scope.addresses t → opening ++ (template_text c ++ (bytes ")@" ++ target_text t)) ≡ u
      → Communication opening make scope.addresses (make c t) u
  communication_from opening make c t u y z e = (
    template_text c ++ (bytes ")@" ++ target_text t),
    record {
      one = c;
      text = template_text c;
      rest = bytes ")@" ++ target_text t;
      prints = record { formed = y; prints = refl };
      goes_on = (t, (target_text t, record { formed = z; prints = refl }, refl), refl);
      is = refl;
    },
    e,
  )

  putting_to : (d : ℕ) (a : Action) (u : List ℕ) → Putting scope a u → ActionText scope d a u
  unfolding action_text
  putting_to d a u (y, z, j) = go z.goes_on.1
    where
      go : Receiving (eqb scope.format 2) scope.addresses z.one a z.goes_on.0 → ActionText scope d a u
      go (inl (two, (g, f, is))) =
          subst (λ (b : Action). ActionText scope d b u) is (record {
            formed = shares (eqb-true scope.format 2 two) z.prints.formed f.formed;
            prints = spoken (bytes "out(") z.one (group_text g) _ _ _ y u z.prints.prints f.prints z.goes_on.2 z.is j;
          })
      go (inr (t, f, is)) =
          subst (λ (b : Action). ActionText scope d b u) is (record {
            formed = puts z.prints.formed f.formed;
            prints = spoken (bytes "out(") z.one (target_text t) _ _ _ y u z.prints.prints f.prints z.goes_on.2 z.is j;
          })

  putting_from : (c : Instruction) (a : Action) (to u : List ℕ) → TemplateFormed false scope.addresses c
      → Receiving (eqb scope.format 2) scope.addresses c a to
      → bytes "out(" ++ (template_text c ++ (bytes ")@" ++ to)) ≡ u → Putting scope a u
  putting_from c a to u y z e = (
    template_text c ++ (bytes ")@" ++ to),
    record {
      one = c;
      text = template_text c;
      rest = bytes ")@" ++ to;
      prints = record { formed = y; prints = refl };
      goes_on = (to, z, refl);
      is = refl;
    },
    e,
  )

  abbrev Actions : ℕ → Action → List ℕ → Type 0
  Actions d = Or (Evaluation (Deeper scope d) scope.addresses) (Simple₁ scope)

  action_to : (d : ℕ) (a : Action) (u : List ℕ) → Actions d a u → ActionText scope d a u
  unfolding Deeper action_text bytes
  action_to zero a u (inl (y, z, j)) = absurd z.prints
  action_to (suc d) a u (inl (y, z, j)) =
      let (t, (w, f, g), is) = z.goes_on in
      let p = z.one in
      subst (λ (b : Action). ActionText scope (suc d) b u) is (record {
        formed = sends z.prints.formed f.formed;
        prints =
            ap (λ (b : List ℕ). bytes "eval(" ++ (process_text p ++ (bytes ")@" ++ b))) f.prints
            ∙ ap (λ (b : List ℕ). bytes "eval(" ++ (process_text p ++ b)) g
            ∙ ap (λ (b : List ℕ). bytes "eval(" ++ (b ++ z.rest)) z.prints.prints
            ∙ ap (λ (b : List ℕ). bytes "eval(" ++ b) z.is
            ∙ j;
      })
  action_to d a u (inr (inl y)) = putting_to d a u y
  action_to d a u (inr (inr (inl y))) = communication_to (bytes "in(") input d a u (λ c t. refl) (λ c t e f. takes e f) y
  action_to d a u (inr (inr (inr (inl y)))) = communication_to (bytes "read(") read d a u (λ c t. refl) (λ c t e f. reads e f) y
  action_to d a u (inr (inr (inr (inr (y, (k, (w, f, g), is), j))))) =
      subst (λ (b : Action). ActionText scope d b u) is (record {
        formed = opens f.in_range_law;
        prints =
            ap (λ (b : List ℕ). bytes "newloc(u" ++ (b ++ (41 ∷ []))) f.prints ∙ ap (λ (b : List ℕ). bytes "newloc(u" ++ b) g ∙ j;
      })

  action_from : (d : ℕ) (a : Action) (u : List ℕ) → ActionFormed scope d a → action_text a ≡ u → Actions d a u
  unfolding Deeper action_text bytes
  action_from d a u (puts {c = c} {t = t} y z) e =
      inr (inl (putting_from c a (target_text t) u y (inr (t, record { formed = z; prints = refl }, refl)) e))
  action_from d a u (shares {c = c} {g = g} two y z) e =
      inr (inl (putting_from c a (group_text g) u y (inl (eq-eqb scope.format 2 two, (g, record { formed = z; prints = refl }, refl))) e))
  action_from d a u (takes {c = c} {t = t} y z) e = inr (inr (inl (communication_from (bytes "in(") input c t u y z e)))
  action_from d a u (reads {c = c} {t = t} y z) e = inr (inr (inr (inl (communication_from (bytes "read(") read c t u y z e))))
  action_from d a u (sends {p = p} {t = t} y z) e = inl (
    process_text p ++ (bytes ")@" ++ target_text t),
    record {
      one = p;
      text = process_text p;
      rest = bytes ")@" ++ target_text t;
      prints = record { formed = y; prints = refl };
      goes_on = (t, (target_text t, record { formed = z; prints = refl }, refl), refl);
      is = refl;
    },
    e,
  )
  action_from d a u (opens {v = v} h) e =
      inr (inr (inr (inr (decimal v ++ (41 ∷ []), (v, (decimal v, record { in_range_law = h; prints = refl }, refl), refl), e))))

  pub reads_action : scope.addresses ≤ 16 → (d : ℕ) (inner : Reader Process) → Reads inner (Deeper scope d) NoDigit
      → Reads (action inner scope) (ActionText scope d) NoDigit
  unfolding action bytes
  reads_action h d inner r =
      reads_as
      (reads_choice 101 (reads_evaluation scope h inner (Deeper scope d) r) (reads_last (reads_simple scope h))
      (λ a u e y f. opens_with_law _ u e y.2) (λ a u e y f. other₁ scope a u e y)
      ).looked
      (action_to d) (λ a u y. action_from d a u y.formed y.prints) (λ d e. e)
