-- A process as 16 words (`specs/Processes.antt`): what the loops make, and the parts put together. Assumes nothing.
use Prim.Native.Nat.{ℕ, ◌+◌, ◌%◌, ◌<◌, ◌≤◌}
use mathlib.Core.Path.{◌≡◌, ap}
use mathlib.Core.Bool.{true}
use mathlib.Core.List.{List}
use native.Mathlib.Omega.{arith}
use lib.ListN.{get_or, set, replicate}
use Rattle.net.specs.Records.{variable_at, unset_variable, starting_at, place_of}
use Rattle.lean_words.specs.Filled.{filled}
use Rattle.lean_words.specs.Items.{address_in, value_word, value_in}
use Rattle.lean_words.specs.Processes.{busy_words, variable_in, busy_in}
use Rattle.lean_words.specs.Types.{Locality, Value, Process}
use Rattle.lean_words.proofs.FilledLaws.{filled_none, filled_more, filled_end}

pub words_busy :
    (p : Process) (ws : List ℕ) (v : ℕ) → ws ≡ filled v (λ i. value_word (variable_at p i)) (replicate 16 0) → v ≤ 8 → 8 ≤ v
    → set (set ws 8 p.at.0) 9 p.origin.0 ≡ busy_words p
unfolding busy_words
words_busy p ws v e l h = ap (λ (xs : List ℕ). set (set xs 8 p.at.0) 9 p.origin.0) (filled_end _ _ v 8 ws e l h)

-- the process that has these words, while its variables are put in: v of them stand
pub record Setting (ws : List ℕ) (p : Process) (v : ℕ) : Type 0 where
  pub low : v ≤ 8
  pub busy : p.busy ≡ true
  pub place : p.at ≡ place_of (get_or ws 8 0 % 512)
  pub origin : p.origin ≡ address_in (get_or ws 9 0)
  pub variables : p.variables ≡ filled v (variable_in ws) (replicate 8 unset_variable)

module _ (ws : List ℕ) where
  pub setting_none :
      (p : Process) (l : Locality) (at : ℕ) → l ≡ address_in (get_or ws 9 0) → at ≡ get_or ws 8 0 % 512 → p ≡ starting_at l (place_of at)
      → Setting ws p 0
  unfolding starting_at
  setting_none p l at h g e = record {
    low = omega arith;
    busy = ap (λ (q : Process). q.busy) e;
    place = rw (e, g);
    origin = rw e h;
    variables = filled_none _ _ _ (ap (λ (q : Process). q.variables) e);
  }

  pub setting_more :
      (p : Process) (v : ℕ) (x : Value) → Setting ws p v → v < 8 → x ≡ value_in (get_or ws v 0)
      → Setting ws (record { busy = p.busy; at = p.at; origin = p.origin; variables = set p.variables v (record { value = x }) }) (v + 1)
  unfolding variable_in
  setting_more p v x h l e = record {
    low = omega arith;
    busy = h.busy;
    place = h.place;
    origin = h.origin;
    variables = filled_more _ _ v p.variables _ h.variables (ap (λ (y : Value). record { value = y }) e);
  }

  pub setting_all : (p : Process) (v : ℕ) → Setting ws p v → 8 ≤ v → p ≡ busy_in ws
  unfolding busy_in
  setting_all p v h l = λ d. record {
    busy = h.busy d;
    at = h.place d;
    origin = h.origin d;
    variables = filled_end _ _ v 8 p.variables h.variables h.low l d;
  }
