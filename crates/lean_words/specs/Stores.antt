-- Describes the code, and is no part of what a reader has to believe: a tuple as 6 words, and back: its four fields, its count, its
-- mark. A template wants 9 words: for each field the lowest and the highest word that fit, and its count. A node's tuples stand oldest
-- first.
use Rattle.std.specs.Prelude.{ℕ, ◌+◌, ◌*◌, Bool, List, [], ◌∷◌, eqb, ltb, get_or, set, replicate}
use Rattle.net.specs.Choice.{choose, both, in_range, all, first_below}
use Rattle.net.specs.Records.{field_at, zero_field}
use Rattle.lean_words.specs.Filled.{filled}
use Rattle.lean_words.specs.Items.{address_in, item_word, item_in}
use Rattle.lean_words.specs.Types.{Field, Tuple}

-- a record that holds no tuple
unfoldable pub no_tuple : List ℕ
no_tuple = 257 ∷ 257 ∷ 257 ∷ 257 ∷ 0 ∷ 0 ∷ []

unfoldable pub tuple_words : Tuple → List ℕ
tuple_words t = set (set (filled 4 (λ i. item_word (field_at t i)) (replicate 6 0)) 4 t.count) 5 t.mark.0

unfoldable pub field_in : List ℕ → ℕ → Field
field_in ws i = record { item = item_in (get_or ws i 0) }

unfoldable pub tuple_in : List ℕ → Tuple
tuple_in ws = record {
  count = get_or ws 4 0;
  fields = filled 4 (field_in ws) (replicate 4 zero_field);
  mark = address_in (get_or ws 5 0);
}

-- ---- fitting

-- field i is within its range
unfoldable pub within : List ℕ → List ℕ → ℕ → Bool
within ws want i = in_range (get_or want (2 * i) 0) (get_or ws i 0) (get_or want (2 * i + 1) 0)

unfoldable pub fits_words : List ℕ → List ℕ → Bool
fits_words ws want = both (eqb (get_or ws 4 0) (get_or want 8 0)) (all 4 (within ws want))

-- the oldest of so many tuples that fits; 16 where none does
unfoldable pub oldest_in : List (List ℕ) → ℕ → List ℕ → ℕ
oldest_in ts stored want = first_below 16 (λ j. both (fits_words (get_or ts j []) want) (ltb j stored)) (λ j. j) 16

-- ---- changes

-- the tuple of an out of what is wanted, with the mark of its host
unfoldable pub put_words : List ℕ → ℕ → List ℕ
put_words want a = get_or want 0 0 ∷ get_or want 2 0 ∷ get_or want 4 0 ∷ get_or want 6 0 ∷ get_or want 8 0 ∷ a ∷ []

-- what stands at place j once the tuple at place i is taken out: the younger ones move up
unfoldable pub moved_up : List (List ℕ) → ℕ → ℕ → List ℕ
moved_up ts i j = choose (ltb j 15) (choose (ltb j i) (get_or ts j []) (get_or ts (j + 1) [])) no_tuple

unfoldable pub closed_up : List (List ℕ) → ℕ → List (List ℕ)
closed_up ts i = filled 16 (moved_up ts i) ts
