-- The words of a process with one of them anew: the process that they then stand for (`process_in` of `lean_words`).
-- Assumes nothing.
use Prim.Native.Nat.{ℕ, ◌%◌, ◌<◌}
use mathlib.Core.Path.{◌≡◌, refl, sym, ap, ◌∙◌}
use mathlib.Core.Logic.{◌≢◌}
use mathlib.Core.List.{List}
use native.Mathlib.Omega.{arith}
use lib.ListN.{length, get_or, set, replicate}
use lib.Seq.{get_or-set_same, get_or-set_other}
use borrow.Author.Tests.{lt-ltb}
use Rattle.net.specs.Records.{address_of, variable_at, unset_variable, place_of, with_variable, moved_to}
use Rattle.net.specs.declared.locality.Locality.{Locality}
use Rattle.net.specs.declared.tuple.Variable.{Variable}
use Rattle.net.specs.declared.process.Process.{Process}
use Rattle.net.proofs.Laws.{choose_true}
use Rattle.net.proofs.Past.{past_variable}
use Rattle.lean_words.specs.Items.{address_in, value_in}
use Rattle.lean_words.specs.Processes.{variable_in, busy_in, process_in}
use Rattle.lean_words.proofs.FilledLaws.{filled_at, filled_same, filled_set}

-- ---- a busy slot
pub busy_in_law : (ws : List ℕ) → get_or ws 8 0 < 512 → process_in ws ≡ busy_in ws
unfolding process_in
busy_in_law ws h = choose_true _ _ _ (lt-ltb (get_or ws 8 0) 512 h)

pub variable_in_law : (ws : List ℕ) (v : ℕ) → get_or ws 8 0 < 512 → v < 8 → variable_at (process_in ws) v ≡ value_in (get_or ws v 0)
unfolding variable_at busy_in variable_in
variable_in_law ws v h l =
    ap (λ (p : Process). variable_at p v) (busy_in_law ws h)
    ∙ ap (λ (x : Variable). x.value) (filled_at _ (replicate 8 unset_variable) past_variable 8 v l l)

-- its variables: the words of the first eight decide
variables_as :
    (ws us : List ℕ) → ((v : ℕ) → v < 8 → get_or ws v 0 ≡ get_or us v 0)
    → (busy_in ws).variables ≡ (busy_in us).variables
unfolding busy_in variable_in
variables_as ws us same =
    filled_same past_variable 8 _ (replicate 8 unset_variable) refl _ (replicate 8 unset_variable) refl
    (λ v l. ap (λ (w : ℕ). record { value = value_in w }) (same v l))

-- a process with another origin
abbrev pub of_origin : Process → Locality → Process
of_origin p o = record { busy = p.busy; at = p.at; origin = o; variables = p.variables }

module _ (ws : List ℕ) (size : length ws ≡ 16) (busy : get_or ws 8 0 < 512) where
  -- a word past the ten that are read
  pub sink_anew : (x : ℕ) → process_in (set ws 10 x) ≡ process_in ws
  unfolding busy_in variable_in
  sink_anew x =
      let other : (i : ℕ) → i ≢ 10 → get_or (set ws 10 x) i 0 ≡ get_or ws i 0 = λ i n. get_or-set_other ws 10 i x 0 n in
      busy_in_law (set ws 10 x) (rw (other 8 (λ e. omega (arith, e))) busy)
      ∙ (λ d. record {
        busy = (busy_in ws).busy;
        at = place_of (other 8 (λ e. omega (arith, e)) d % 512);
        origin = address_in (other 9 (λ e. omega (arith, e)) d);
        variables = variables_as (set ws 10 x) ws (λ v l. other v (λ e. omega arith)) d;
      })
      ∙ sym (busy_in_law ws busy)

  pub variable_anew : (v x : ℕ) → v < 8 → process_in (set ws v x) ≡ with_variable (process_in ws) v (value_in x)
  unfolding busy_in variable_in with_variable
  variable_anew v x l =
      let other : (i : ℕ) → i ≢ v → get_or (set ws v x) i 0 ≡ get_or ws i 0 = λ i n. get_or-set_other ws v i x 0 n in
      busy_in_law (set ws v x) (rw (other 8 (λ e. omega arith)) busy)
      ∙ (λ d. record {
        busy = (busy_in ws).busy;
        at = place_of (other 8 (λ e. omega arith) d % 512);
        origin = address_in (other 9 (λ e. omega arith) d);
        variables =
            filled_set past_variable 8 _ (replicate 8 unset_variable) refl _ v (record { value = value_in x })
            (λ i h n. ap (λ (w : ℕ). record { value = value_in w }) (other i n))
            (λ h. ap (λ (w : ℕ). record { value = value_in w }) (get_or-set_same ws v x 0 (omega arith))) d;
      })
      ∙ ap (λ (p : Process). with_variable p v (value_in x)) (sym (busy_in_law ws busy))

  pub place_anew : (q : ℕ) → q < 512 → process_in (set ws 8 q) ≡ moved_to (process_in ws) (place_of q)
  unfolding busy_in variable_in moved_to
  place_anew q h =
      let here : get_or (set ws 8 q) 8 0 ≡ q = get_or-set_same ws 8 q 0 (omega arith) in
      let other : (i : ℕ) → i ≢ 8 → get_or (set ws 8 q) i 0 ≡ get_or ws i 0 = λ i n. get_or-set_other ws 8 i q 0 n in
      let low : q % 512 ≡ q = omega arith in
      busy_in_law (set ws 8 q) (rw here h)
      ∙ (λ d. record {
        busy = (busy_in ws).busy;
        at = place_of ((ap (λ (n : ℕ). n % 512) here ∙ low) d);
        origin = address_in (other 9 (λ e. omega (arith, e)) d);
        variables = variables_as (set ws 8 q) ws (λ v l. other v (λ e. omega arith)) d;
      })
      ∙ ap (λ (p : Process). moved_to p (place_of q)) (sym (busy_in_law ws busy))

  pub origin_anew : (o : ℕ) → o < 256 → process_in (set ws 9 o) ≡ of_origin (process_in ws) (address_of o)
  unfolding busy_in address_in
  origin_anew o h =
      let other : (i : ℕ) → i ≢ 9 → get_or (set ws 9 o) i 0 ≡ get_or ws i 0 = λ i n. get_or-set_other ws 9 i o 0 n in
      let low : o % 256 ≡ o = omega arith in
      busy_in_law (set ws 9 o) (rw (other 8 (λ e. omega (arith, e))) busy)
      ∙ (λ d. record {
        busy = (busy_in ws).busy;
        at = place_of (other 8 (λ e. omega (arith, e)) d % 512);
        origin = address_of ((ap (λ (n : ℕ). n % 256) (get_or-set_same ws 9 o 0 (omega arith)) ∙ low) d);
        variables = variables_as (set ws 9 o) ws (λ v l. other v (λ e. omega arith)) d;
      })
      ∙ ap (λ (p : Process). of_origin p (address_of o)) (sym (busy_in_law ws busy))
