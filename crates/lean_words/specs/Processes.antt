-- Describes the code, and is no part of what a reader has to believe: a process as 16 words, and back. 0 to 7 are its variables, 8 its
-- place, 512 in a free slot, 9 its origin; 10 takes what is bound to no variable.
use Rattle.std.specs.Prelude.{ℕ, ◌%◌, true, List, [], ltb, leb, get_or, set, replicate}
use Rattle.net.specs.Choice.{choose, first_below}
use Rattle.net.specs.Records.{variable_at, unset_variable, free_process, place_of}
use Rattle.lean_words.specs.Filled.{filled}
use Rattle.lean_words.specs.Items.{address_in, value_word, value_in}
use Rattle.lean_words.specs.Types.{Variable, Process}

unfoldable pub free_words : List ℕ
free_words = set (set (replicate 16 256) 8 512) 9 0

unfoldable pub busy_words : Process → List ℕ
busy_words p = set (set (filled 8 (λ v. value_word (variable_at p v)) (replicate 16 0)) 8 p.at.0) 9 p.origin.0

unfoldable pub process_words : Process → List ℕ
process_words p = choose p.busy (busy_words p) free_words

unfoldable pub variable_in : List ℕ → ℕ → Variable
variable_in ws v = record { value = value_in (get_or ws v 0) }

unfoldable pub busy_in : List ℕ → Process
busy_in ws = record {
  busy = true;
  at = place_of (get_or ws 8 0 % 512);
  origin = address_in (get_or ws 9 0);
  variables = filled 8 (variable_in ws) (replicate 8 unset_variable);
}

unfoldable pub process_in : List ℕ → Process
process_in ws = choose (ltb (get_or ws 8 0) 512) (busy_in ws) free_process

-- the lowest free slot of a node; 4 where there is none
unfoldable pub free_slot_in : List (List ℕ) → ℕ
free_slot_in slots = first_below 4 (λ k. leb 512 (get_or (get_or slots k []) 8 0)) (λ k. k) 4
