-- Describes the code, and is no part of what a reader has to believe: the words of a net's nodes, and the tables of its code.
use Rattle.std.specs.Prelude.{ℕ, Bool, false, List, [], ltb, get_or, set, replicate}
use Rattle.net.specs.Choice.{choose, fold}
use Rattle.net.specs.Records.{place_of, process_at, tuple_at, row_at, address_of, instruction_at}
use Rattle.lean_words.specs.Filled.{filled}
use Rattle.lean_words.specs.Processes.{free_words, process_words}
use Rattle.lean_words.specs.Stores.{no_tuple, tuple_words}
use Rattle.lean_words.specs.Rights.{row_flags}
use Rattle.lean_code.specs.Fields.{template_words}
use Rattle.lean_code.specs.Heads.{head_words, set_flags}
use Rattle.lean_code.specs.Needs.{needs_of, sent_by}
use Rattle.lean.specs.Types.{Node, Instruction, Net}
use Rattle.lean.specs.Words.{Words}
use Rattle.lean.specs.Rounds.{Tables}

-- ---- a node
unfoldable pub slots_of : Node → List (List ℕ)
slots_of x = filled 4 (λ k. process_words (process_at x k)) (replicate 4 free_words)

unfoldable pub store_of : Node → List (List ℕ)
store_of x = filled 16 (λ j. tuple_words (tuple_at x j)) (replicate 16 no_tuple)

unfoldable pub policy_of : Node → List (List Bool)
policy_of x = filled 16 (λ o. row_flags (row_at x (address_of o))) (replicate 16 (replicate 65 false))

-- ---- all nodes, over what the arrays held
unfoldable pub node_of : List Node → ℕ → Node
node_of xs a = get_or xs a (record { rows = []; processes = []; stored = 0; tuples = [] })

unfoldable pub loaded_slots : List Node → List (List (List ℕ)) → List (List (List ℕ))
loaded_slots xs before = filled 16 (λ a. slots_of (node_of xs a)) before

unfoldable pub loaded_counts : List Node → List ℕ → List ℕ
loaded_counts xs before = filled 16 (λ a. (node_of xs a).stored) before

unfoldable pub loaded_tuples : List Node → List (List (List ℕ)) → List (List (List ℕ))
loaded_tuples xs before = filled 16 (λ a. store_of (node_of xs a)) before

unfoldable pub loaded_rows : List Node → List (List (List Bool)) → List (List (List Bool))
loaded_rows xs before = filled 16 (λ a. policy_of (node_of xs a)) before

unfoldable pub words_of : Net → Words
words_of s = record {
  count = s.addresses;
  slots = loaded_slots s.nodes (replicate 16 (replicate 4 (replicate 16 0)));
  stored = loaded_counts s.nodes (replicate 16 0);
  tuples = loaded_tuples s.nodes (replicate 16 (replicate 16 (replicate 6 0)));
  rows = loaded_rows s.nodes (replicate 16 (replicate 16 (replicate 65 false)));
}

-- ---- the code, of a length
unfoldable pub loaded_heads : List Instruction → ℕ → List (List ℕ) → List (List ℕ)
loaded_heads code n before = filled n (λ q. head_words (instruction_at code (place_of q))) before

unfoldable pub loaded_fields : List Instruction → ℕ → List (List (List ℕ)) → List (List (List ℕ))
loaded_fields code n before = filled n (λ q. template_words (instruction_at code (place_of q))) before

unfoldable pub loaded_sets : List Instruction → ℕ → List (List Bool) → List (List Bool)
loaded_sets code n before = filled n (λ q. set_flags (instruction_at code (place_of q))) before

-- the needs of the place that an instruction sends, where it sends one
unfoldable pub needs_at : List Instruction → ℕ → List Bool → List Bool
needs_at code q before =
    choose (ltb (sent_by (instruction_at code (place_of q))).0 512) (needs_of code (sent_by (instruction_at code (place_of q)))) before

unfoldable pub loaded_needs : List Instruction → ℕ → List (List Bool) → List (List Bool)
loaded_needs code n before = fold n (λ q xs. set xs q (needs_at code q (get_or xs q []))) before

unfoldable pub tables_of : List Instruction → ℕ → ℕ → Tables
tables_of code n format = record {
  heads = loaded_heads code n (replicate 512 (replicate 6 0));
  fields = loaded_fields code n (replicate 512 (replicate 4 (replicate 4 0)));
  sets = loaded_sets code n (replicate 512 (replicate 16 false));
  needs = loaded_needs code n (replicate 512 (replicate 69 false));
  format = format;
}
