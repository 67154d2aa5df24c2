-- Two units in either order (document 02, slip 9). What stands in quotes is its words.
use Rattle.std.specs.Prelude.{ℕ, ◌<◌, ◌≡◌, Bool, true, false, List, [], ◌∷◌, eqb}
use Rattle.net.specs.Choice.{choose, both}
use Rattle.net.specs.Records.{node_at, process_at, instruction_at}
use Rattle.image.specs.Image.{opened_of}
use Rattle.notation.specs.Text.{read_of}
use Rattle.plans.specs.Request.{request_of, targets, is_new}
use Rattle.step.specs.Pick.{host_of, slot_of, spare_of, pick_of}
use Rattle.runs.specs.Run.{ran_from}
use Rattle.order.specs.Types.{Locality, Process, Net, Verdict, TextVerdict, Request}

-- ---- what a pick meets in a net

-- the process in the slot that it names
unfoldable pub process_of : Net → ℕ → Process
process_of s b = process_at (node_at s (host_of b)) (slot_of b)

-- it meets an instruction: 9 and 7 are absent
unfoldable pub meets : Net → ℕ → Bool
meets s b = both (eqb (spare_of b) 0) (process_of s b).busy

-- what that instruction asks for
unfoldable pub asks : Net → ℕ → Request
asks s b = request_of (host_of b) (process_of s b) (instruction_at s.code (process_of s b).at)

-- "its target, where it has one": none where it meets no instruction or lacks a variable, nor of a stop, a fork and a new; of an
-- out to a set "all members" (slip 11)
unfoldable pub targets_of : Net → ℕ → List Locality
targets_of s b = choose (meets s b) (targets (asks s b)) []

-- the instruction is new
unfoldable pub opens : Net → ℕ → Bool
opens s b = both (meets s b) (is_new (asks s b))

-- ---- addresses compared
unfoldable pub same : Locality → Locality → Bool
same l m = eqb l.0 m.0

unfoldable pub among : Locality → List Locality → Bool
among l [] = false
among l (m ∷ ms) = choose (same l m) true (among l ms)

-- ---- the premises on two picks, b and c, in the net before both
pub record Apart (s : Net) (b c : ℕ) : Type 0 where
  -- "let two picks name different addresses, both in use beforehand"
  pub hosts : same (host_of b) (host_of c) ≡ false
  pub used : (host_of b).0 < s.addresses
  pub used' : (host_of c).0 < s.addresses
  -- "no address belongs both to the first pick (its host and its target, where it has one) and to the second": beside the
  -- two hosts, neither host is a target of the other pick, and no target is one of both
  pub host : among (host_of b) (targets_of s c) ≡ false
  pub host' : among (host_of c) (targets_of s b) ≡ false
  pub target : (l : Locality) → among l (targets_of s b) ≡ true → among l (targets_of s c) ≡ false
  -- "the two instructions are not both new"
  pub one_new : both (opens s b) (opens s c) ≡ false

-- ---- what follows: "picking in either order gives each pick the same answer and ends in the same net"
pub record EitherOrder (s : Net) (b c : ℕ) : Type 0 where
  pub answer : (pick_of (pick_of s c).net b).answer ≡ (pick_of s b).answer
  pub answer' : (pick_of (pick_of s b).net c).answer ≡ (pick_of s c).answer
  pub net : (pick_of (pick_of s b).net c).net ≡ (pick_of (pick_of s c).net b).net

-- ---- "let a net come from an accepted image by some picks", or from an accepted text (document 02, slip 3)
pub record EachNet (P : Net → Type 0) : Type 0 where
  pub of_image :
      (image picks : List ℕ) → (opened_of image).answer ≡ Verdict.Accepted → P (ran_from (opened_of image).net picks).net
  pub of_text :
      (text picks : List ℕ) → (read_of text).answer ≡ TextVerdict.Accepted → P (ran_from (read_of text).net picks).net

-- the rule: of every such net and any two picks, bytes or not
unfoldable pub OrderRule : Type 0
OrderRule = EachNet (λ s. (b c : ℕ) → Apart s b c → EitherOrder s b c)
