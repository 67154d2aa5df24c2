-- What is to be shown of loading: the words of a sound net stand for it, and the tables are those of its code. Assumes nothing.
use Prim.Native.Nat.{ℕ, ◌<◌}
use mathlib.Core.Path.{◌≡◌}
use mathlib.Core.Bool.{true, false}
use mathlib.Core.List.{List, []}
use lib.ListN.{get_or, replicate}
use mir.Val.{Val}
use denote.Laws.{Is}
use Rattle.net.specs.contracts.network.Net as net
use Rattle.net.specs.Records.{address_of, place_of, node_at, process_at, tuple_at, variable_at, field_at, instruction_at}
use Rattle.net.specs.Shape.{Shaped}
use Rattle.sound.specs.Soundness.{sound_of}
use Rattle.lean_words.specs.Items.{value_word, item_word}
use Rattle.lean_code.specs.Fields.{template_words}
use Rattle.lean_code.specs.Heads.{head_words, set_flags}
use Rattle.lean_code.specs.Needs.{needs_of}
use Rattle.lean_code.specs.Ranged.{RangedTemplate}
use Rattle.lean.specs.Types.{Place, Target, Action, Net}
use Rattle.lean.specs.Words.{Sized, Ranged, net_in}
use Rattle.lean.specs.Loading.{words_of, loaded_heads, loaded_fields, loaded_sets, loaded_needs}

-- the readings of a net are of 32 bits, and its addresses of 8, as a program's are: their words are in range
pub record Fits (s : Net) : Type 0 where
  pub values_fit :
      (a k v : ℕ) → a < 16 → k < 4 → v < 8
      → value_word (variable_at (process_at (node_at s (address_of a)) k) v) < 4294967553
  pub items_fit :
      (l j i : ℕ) → l < 16 → j < 16 → i < 4
      → item_word (field_at (tuple_at (node_at s (address_of l)) j) i) < 4294967553
  pub readings_fit : (q : ℕ) → q < 512 → RangedTemplate (instruction_at s.code (place_of q))

unfoldable pub NetFits : Type 0
NetFits = (s : Net) (vs : List Val) → Is net.the_row s vs → Fits s

-- ---- the words
pub record Loaded (s : Net) : Type 0 where
  pub net_is : net_in s (words_of s) ≡ s
  pub sized : Sized (words_of s)
  pub ranged : Ranged (words_of s)

unfoldable pub LoadAgrees : Type 0
LoadAgrees = (s : Net) → Shaped s → sound_of s ≡ true → Fits s → Loaded s

-- ---- the tables, at each place that the code has
unfoldable pub HeadsAgree : Type 0
HeadsAgree =
    (s : Net) → Shaped s → sound_of s ≡ true → (q : ℕ) → q < s.length
    → get_or (loaded_heads s.code s.length (replicate 512 (replicate 6 0))) q [] ≡ head_words (instruction_at s.code (place_of q))

unfoldable pub FieldsAgree : Type 0
FieldsAgree =
    (s : Net) → Shaped s → sound_of s ≡ true → (q : ℕ) → q < s.length
    → get_or (loaded_fields s.code s.length (replicate 512 (replicate 4 (replicate 4 0)))) q []
    ≡ template_words (instruction_at s.code (place_of q))

unfoldable pub SetsAgree : Type 0
SetsAgree =
    (s : Net) → Shaped s → sound_of s ≡ true → (q : ℕ) → q < s.length
    → get_or (loaded_sets s.code s.length (replicate 512 (replicate 16 false))) q [] ≡ set_flags (instruction_at s.code (place_of q))

unfoldable pub NeedsAgree : Type 0
NeedsAgree =
    (s : Net) → Shaped s → sound_of s ≡ true → (q : ℕ) (t : Target) (sent next : Place) → q < s.length
    → (instruction_at s.code (place_of q)).action ≡ Action.Eval t sent next
    → get_or (loaded_needs s.code s.length (replicate 512 (replicate 69 false))) q [] ≡ needs_of s.code sent
