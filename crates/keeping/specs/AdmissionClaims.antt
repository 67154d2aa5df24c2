-- What the computed admission means (document 01, "Reaching and rights"): by what a process reaches, and by no test.
use Rattle.std.specs.Prelude.{ℕ, ◌<◌, ◌≤◌, ◌≡◌, ◌↔◌, true, length}
use Rattle.net.specs.Records.{process_at, node_at, instruction_at, row_for}
use Rattle.keeping.specs.Types.{Locality, Place, Net}
use Rattle.keeping.specs.Reaching.{Reaches}
use Rattle.keeping.specs.Keeping.{permits}
use Rattle.keeping.specs.Admission.{admits}

-- each busy process of an address in use keeps within that node's row for its origin: every instruction that it reaches from
-- its place has its right there
pub record StartsWithin (s : Net) : Type 0 where
  pub permitted :
      (a : Locality) (slot : ℕ) (q : Place)
      → a.0 < s.addresses
      → slot < 4
      → (process_at (node_at s a) slot).busy ≡ true
      → Reaches s.code (process_at (node_at s a) slot).at q
      → permits (row_for (node_at s a) (process_at (node_at s a) slot)) a (instruction_at s.code q).action ≡ true

-- the computed check says just that, of every net with no more addresses and instructions than a net has room for
unfoldable pub AdmitsIsWithin : Type 0
AdmitsIsWithin =
    (s : Net)
    → s.addresses ≤ 16
    → length s.code ≤ 512
    → (admits s ≡ true) ↔ StartsWithin s
