-- Describes the code, and is no part of what a reader has to believe: starts resolved by the table of bodies, instructions
-- read back from the table of words with their starts resolved, and processes moved to the places of their starts.
use Rattle.std.specs.Prelude.{ℕ, ◌+◌, ◌*◌, ◌%◌, List, get_or, set}
use Rattle.net.specs.Choice.{choose, fold}
use Rattle.net.specs.Records.{address_of, place_of, process_at, node_at, moved_to, with_process, with_node, with_counts}
use Rattle.terms.specs.Numbering.{Start}
use Rattle.terms.specs.Loading.{loaded_in}
use Rattle.linking.specs.Types.{Place, Process, Node, Instruction, Net}
use Rattle.linking.specs.Compiled.{number_of}
use Rattle.linking.specs.NameTable.{start_from, settled_in}

-- ---- the place of a start's word: a place has 16 binary digits
unfoldable pub place_for : Start → Place
place_for x = place_of (number_of x % 65536)

unfoldable pub place_at : List ℕ → ℕ → Place
place_at bodies w = place_for (settled_in bodies (start_from w))

-- ---- every start's word being resolved to its place
module _ (resolve : ℕ → Place) where
  -- the instruction with the number i
  unfoldable pub linked_at : List ℕ → ℕ → Instruction
  linked_at table i = loaded_in table i (resolve (get_or table (9 * i + 7) 0)) (resolve (get_or table (9 * i + 8) 0))

  -- the first n instructions
  unfoldable pub linked_code : List ℕ → ℕ → List Instruction → List Instruction
  linked_code table n code = fold n (λ i cs. set cs i (linked_at table i)) code

  -- a process moved to the place of its start's word; a free slot stays
  unfoldable pub moved_by : ℕ → Process → Process
  moved_by w p = choose p.busy (moved_to p (resolve w)) p

  -- slot j of address a: `starts` has four words for each address
  unfoldable pub moved_slot : List ℕ → ℕ → ℕ → Node → Node
  moved_slot starts a j x = with_process x j (moved_by (get_or starts (4 * a + j) 0) (process_at x j))

  unfoldable pub moved_node : List ℕ → ℕ → Node → Node
  moved_node starts a x = fold 4 (moved_slot starts a) x

  unfoldable pub moved_address : List ℕ → ℕ → Net → Net
  moved_address starts a s = with_node s (address_of a) (moved_node starts a (node_at s (address_of a)))

  unfoldable pub moved_net : List ℕ → Net → Net
  moved_net starts s = fold 16 (moved_address starts) s

  -- the whole: processes in their places, and n instructions of code
  unfoldable pub with_linked : List ℕ → ℕ → Net → Net
  with_linked table n s = record {
    format = s.format;
    addresses = s.addresses;
    length = s.length;
    nodes = s.nodes;
    code = linked_code table n s.code;
  }

  unfoldable pub linked_net : List ℕ → List ℕ → ℕ → Net → Net
  linked_net table starts n s = with_linked table n (with_counts (moved_net starts s) (moved_net starts s).addresses n)
