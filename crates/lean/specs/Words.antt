-- Describes the code, and is no part of what a reader has to believe: the arrays of words that the engine works on, and the net that
-- they stand for. In what follows w are the words, a and l addresses, k a slot, j the place of a tuple.
use Rattle.std.specs.Prelude.{ℕ, ◌<◌, ◌%◌, ◌≡◌, Bool, List, [], length, get_or, set, replicate}
use Rattle.net.specs.Records.{free_process, zero_tuple, zero_row}
use Rattle.lean_words.specs.Filled.{filled}
use Rattle.lean_words.specs.Processes.{process_in}
use Rattle.lean_words.specs.Stores.{tuple_in}
use Rattle.lean_words.specs.Rights.{row_in}
use Rattle.lean_code.specs.Ranged.{RangedSlot, RangedTuple}
use Rattle.lean.specs.Types.{Tuple, Row, Process, Node, Net}

-- how many addresses are in use; of each address the words of its slots, how many tuples it stores, their words, its rows' flags
pub record Words : Type 0 where
  pub count : ℕ
  pub slots : List (List (List ℕ))
  pub stored : List ℕ
  pub tuples : List (List (List ℕ))
  pub rows : List (List (List Bool))

abbrev pub words_with : ℕ → List (List (List ℕ)) → List ℕ → List (List (List ℕ)) → List (List (List Bool)) → Words
words_with n slots stored tuples rows = record { count = n; slots = slots; stored = stored; tuples = tuples; rows = rows }

-- ---- the net that they stand for; its format, its length and its code are those of the net `start`
unfoldable pub processes_in : List (List ℕ) → List Process
processes_in slots = filled 4 (λ k. process_in (get_or slots k [])) (replicate 4 free_process)

unfoldable pub tuples_in : List (List ℕ) → List Tuple
tuples_in store = filled 16 (λ j. tuple_in (get_or store j [])) (replicate 16 zero_tuple)

unfoldable pub rows_in : List (List Bool) → List Row
rows_in policy = filled 16 (λ o. row_in (get_or policy o [])) (replicate 16 zero_row)

unfoldable pub node_with : List (List ℕ) → ℕ → List (List ℕ) → List (List Bool) → Node
node_with slots stored store policy =
    record { rows = rows_in policy; processes = processes_in slots; stored = stored; tuples = tuples_in store }

unfoldable pub node_in : Words → ℕ → Node
node_in w a = node_with (get_or w.slots a []) (get_or w.stored a 0) (get_or w.tuples a []) (get_or w.rows a [])

unfoldable pub net_in : Net → Words → Net
net_in start w = record {
  format = start.format;
  addresses = w.count;
  length = start.length;
  nodes = filled 16 (node_in w) start.nodes;
  code = start.code;
}

-- ---- the words of one process, read and replaced
unfoldable pub slot_at : List (List (List ℕ)) → ℕ → ℕ → List ℕ
slot_at slots a k = get_or (get_or slots (a % 16) []) (k % 4) []

unfoldable pub with_slot : List (List (List ℕ)) → ℕ → ℕ → List ℕ → List (List (List ℕ))
with_slot slots a k p = set slots (a % 16) (set (get_or slots (a % 16) []) (k % 4) p)

-- with another word i
unfoldable pub with_word : List (List (List ℕ)) → ℕ → ℕ → ℕ → ℕ → List (List (List ℕ))
with_word slots a k i x = with_slot slots a k (set (slot_at slots a k) i x)

-- ---- how long the arrays are
pub record Grid {A : Type 0} (n m : ℕ) (xs : List (List A)) : Type 0 where
  pub long : length xs ≡ n
  pub wide : (i : ℕ) → i < n → length (get_or xs i []) ≡ m

pub record Sized (w : Words) : Type 0 where
  pub slots_are : Grid 16 4 w.slots
  pub stored_are : length w.stored ≡ 16
  pub tuples_are : Grid 16 16 w.tuples
  pub rows_are : Grid 16 16 w.rows
  pub each_row : (a o : ℕ) → a < 16 → o < 16 → length (get_or (get_or w.rows a []) o []) ≡ 65

-- ---- each slot has 16 words and each tuple 6, in the ranges in which they stand for one value each
pub record RangedSlots (slots : List (List (List ℕ))) : Type 0 where
  pub each : (a k : ℕ) → a < 16 → k < 4 → RangedSlot (get_or (get_or slots a []) k [])

pub record RangedTuples (tuples : List (List (List ℕ))) : Type 0 where
  pub each : (l j : ℕ) → l < 16 → j < 16 → RangedTuple (get_or (get_or tuples l []) j [])

pub record Ranged (w : Words) : Type 0 where
  pub slots_in : RangedSlots w.slots
  pub tuples_ranged : RangedTuples w.tuples
