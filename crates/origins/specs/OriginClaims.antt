-- The origin of a process in format 1 (document 02, slip 10): "format 1 runs on unchanged". A node's rows are all equal there, so
-- that nothing rests on where code came from: two sound nets that differ in the origins of busy processes alone give every
-- list of picks the same answers, and differ in no more afterwards.
use Rattle.std.specs.Prelude.{ℕ, ◌<◌, ◌≡◌, true, false, List}
use Rattle.net.specs.Records.{node_at, process_at}
use Rattle.net.specs.Shape.{Shaped}
use Rattle.sound.specs.Soundness.{sound_of}
use Rattle.runs.specs.Run.{Ran, ran_from}
use Rattle.origins.specs.Types.{Locality, Process, Node, Net}

-- ---- equal, but for the origins of busy processes

-- both slots are free or both busy; the records are equal, and in a free slot their origins too
pub record AlikeProcess (p p' : Process) : Type 0 where
  pub busy : p.busy ≡ p'.busy
  pub place : p.at ≡ p'.at
  pub variables : p.variables ≡ p'.variables
  pub free : p.busy ≡ false → p.origin ≡ p'.origin

-- the same rows, the same tuples in order, marks included, and each of the 4 slots alike
pub record AlikeNode (x x' : Node) : Type 0 where
  pub rows : x.rows ≡ x'.rows
  pub stored : x.stored ≡ x'.stored
  pub tuples : x.tuples ≡ x'.tuples
  pub processes : (k : ℕ) → k < 4 → AlikeProcess (process_at x k) (process_at x' k)

-- the same format, counts and code, and each of the 16 nodes alike
pub record AlikeNet (s t : Net) : Type 0 where
  pub format : s.format ≡ t.format
  pub addresses : s.addresses ≡ t.addresses
  pub length : s.length ≡ t.length
  pub code : s.code ≡ t.code
  pub nodes : (a : Locality) → a.0 < 16 → AlikeNode (node_at s a) (node_at t a)

-- ---- what follows: the answers in order, and the nets at the end
pub record AlikeRun (r r' : Ran) : Type 0 where
  pub answers : r.answers ≡ r'.answers
  pub net : AlikeNet r.net r'.net

-- the claim: of any two such nets of format 1 and any list of picks, bytes or not. Soundness is asked of both, since it bounds
-- origins: an unsound net answers 10. The arrays of a program have the lengths of `Shaped` (`proofs/Lengths.antt` of `net`)
unfoldable pub OriginIdle : Type 0
OriginIdle =
    (s t : Net) (picks : List ℕ)
    → Shaped s
    → Shaped t
    → sound_of s ≡ true
    → sound_of t ≡ true
    → s.format ≡ 1
    → AlikeNet s t
    → AlikeRun (ran_from s picks) (ran_from t picks)
