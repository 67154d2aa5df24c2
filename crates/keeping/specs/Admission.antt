-- Admission (document 01, "Reaching and rights", "Numbers for an image", number 30): whether the processes of a net keep
-- within the rows of their nodes, each within the row for its origin (document 02, slip 10).
use Rattle.std.specs.Prelude.{Bool, List, ltb}
use Rattle.net.specs.Choice.{implies, all}
use Rattle.net.specs.Records.{process_at, row_for, node_at, address_of}
use Rattle.keeping.specs.Types.{Locality, Instruction, Process, Node, Net}
use Rattle.keeping.specs.Keeping.{keeps_of}

-- a process of the node x at address a keeps within the row for its origin
unfoldable pub admits_process : List Instruction → Node → Locality → Process → Bool
admits_process code x a p = implies p.busy (keeps_of code p.at a (row_for x p))

-- so does each process of a node
unfoldable pub admits_node : List Instruction → Locality → Node → Bool
admits_node code a x = all 4 (λ i. admits_process code x a (process_at x i))

-- the same at an address, where it is in use
unfoldable pub admits_at : Net → Locality → Bool
admits_at s a = implies (ltb a.0 s.addresses) (admits_node s.code a (node_at s a))

-- at every address
unfoldable pub admits : Net → Bool
admits s = all 16 (λ i. admits_at s (address_of i))
