-- Rules 26 and 27 (`specs/Soundness.antt`) of a template that changes: rule 27 judges a field by the fields before it, so
-- that a field put behind them leaves what holds of them (`each_put`, `anew_put`); and a field that is no formal keeps it.
-- Assumes nothing.
use Prim.Native.Nat.{ℕ, ◌<◌, ◌≤◌}
use mathlib.Core.Path.{◌≡◌, refl, sym, ap, subst, ◌∙◌}
use mathlib.Core.Bool.{true}
use mathlib.Core.Logic.{◌⊎◌, inl, inr}
use native.Mathlib.Omega.{arith}
use lib.ListN.{length, set}
use lib.Seq.{get_or-set_same, get_or-set_other}
use lib.Dec.{ltb}
use borrow.Author.Tests.{ltb-true}
use Rattle.net.specs.Records.{pattern_at}
use Rattle.sound.specs.Types.{Pattern, TemplateField, Instruction}
use Rattle.sound.specs.Soundness.{is_actual, binds_not, unbound_before, binds_anew}
use Rattle.net.proofs.Laws.{implies_i, implies_e, all_i, all_e, split}
use Rattle.net.proofs.Past.{past_template}
use Rattle.net.proofs.ReadingLaws.{never}

module _ (c b : Instruction) (i : ℕ) (same : (j : ℕ) → j < i → pattern_at c j ≡ pattern_at b j) where
  unbound_as : (v : ℕ) → unbound_before c i v ≡ true → unbound_before b i v ≡ true
  unfolding unbound_before
  unbound_as v h =
      all_i 4 _ (λ j l. implies_i (ltb j i) _ (λ t.
      ap (binds_not v) (sym (same j (ltb-true j i t))) ∙ implies_e (ltb j i) _ (all_e 4 _ h j l) t))

  pub anew_as : (x : Pattern) → binds_anew c i x ≡ true → binds_anew b i x ≡ true
  unfolding binds_anew
  anew_as (Pattern.Reading x) h = refl
  anew_as (Pattern.Address l) h = refl
  anew_as Pattern.Own h = refl
  anew_as (Pattern.Held v) h = refl
  anew_as (Pattern.FormalReading v) h = unbound_as v h
  anew_as (Pattern.FormalAddress v) h = unbound_as v h

pub actual_anew : (c : Instruction) (i : ℕ) (x : Pattern) → is_actual x ≡ true → binds_anew c i x ≡ true
unfolding is_actual binds_anew
actual_anew c i (Pattern.Reading x) h = refl
actual_anew c i (Pattern.Address l) h = refl
actual_anew c i Pattern.Own h = refl
actual_anew c i (Pattern.Held v) h = refl
actual_anew c i (Pattern.FormalReading v) h = never h
actual_anew c i (Pattern.FormalAddress v) h = never h

-- field f put at place i of a template, which then has k fields
module _ (c : Instruction) (i k : ℕ) (f : TemplateField) where
  abbrev pub put_at : Instruction
  put_at = record { action = c.action; count = k; template = set c.template i f }

  below_put : (j : ℕ) → j < i → pattern_at c j ≡ pattern_at put_at j
  unfolding pattern_at
  below_put j l =
      ap (λ (y : TemplateField). y.pattern) (sym (get_or-set_other c.template i j f past_template (omega arith)))

  pub anew_below : (j : ℕ) (x : Pattern) → j ≤ i → binds_anew c j x ≡ true → binds_anew put_at j x ≡ true
  anew_below j x l = anew_as c put_at j (λ m g. below_put m (omega arith)) x

  pub anew_cut : (j : ℕ) → j < i → binds_anew c j (pattern_at c j) ≡ true → binds_anew put_at j (pattern_at put_at j) ≡ true
  anew_cut j l h = anew_below j _ (omega arith) (subst (λ x. binds_anew c j x ≡ true) (below_put j l) h)

  module _ (room : i < length c.template) where
    at_put : f.pattern ≡ pattern_at put_at i
    unfolding pattern_at
    at_put = ap (λ (y : TemplateField). y.pattern) (sym (get_or-set_same c.template i f past_template room))

    pub each_put :
        (P : ℕ → Pattern → Type 0) → ((j : ℕ) → j < i → P j (pattern_at c j)) → P i f.pattern
        → (j : ℕ) → j ≤ i → P j (pattern_at put_at j)
    each_put P h p j l = go j (split j i (omega arith))
      where
        go : (j : ℕ) → (j < i) ⊎ (j ≡ i) → P j (pattern_at put_at j)
        go j (inl g) = subst (P j) (below_put j g) (h j g)
        go j (inr e) = subst (λ (m : ℕ). P m (pattern_at put_at m)) (sym e) (subst (P i) at_put p)

    pub anew_put :
        ((j : ℕ) → j < i → binds_anew c j (pattern_at c j) ≡ true) → binds_anew c i f.pattern ≡ true
        → (j : ℕ) → j ≤ i → binds_anew put_at j (pattern_at put_at j) ≡ true
    anew_put h p j l = anew_below j _ l (each_put (λ m x. binds_anew c m x ≡ true) h p j l)
