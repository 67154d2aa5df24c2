-- Demand 3, the tenant rule (document 01, "The tenant rule"), as one claim about two whole runs. What stands in quotes is
-- the words of the two papers, demand 3 (00) and document 01.
use Rattle.std.specs.Prelude.{ℕ, ◌<◌, ◌≡◌, Bool, true, false, List, [], ◌∷◌}
use Rattle.net.specs.Choice.{choose}
use Rattle.net.specs.Records.{node_at, rights_at, row_at, process_at, tuple_at, field_at, instruction_at, pattern_at, no_rights}
use Rattle.image.specs.Image.{opened_of}
use Rattle.step.specs.Pick.{host_of}
use Rattle.tenant.specs.Types.{Locality, Place, Tuple, Rights, Row, Process, Node, Instruction, Net, Answer}
use Rattle.runs.specs.Run.{Ran, ran, run_of}

-- ---- "picks of tenant addresses are struck out, whether or not a pick performs a step"; "a pick is of the address in its
-- first 4 bits, in use or not"
unfoldable pub struck : (Locality → Bool) → List ℕ → List ℕ
struck tenant [] = []
struck tenant (b ∷ bs) = choose (tenant (host_of b)) (struck tenant bs) (b ∷ struck tenant bs)

-- "the remaining answers", in order
unfoldable pub remaining : (Locality → Bool) → List ℕ → List Answer → List Answer
remaining tenant [] xs = []
remaining tenant (b ∷ bs) [] = []
remaining tenant (b ∷ bs) (x ∷ xs) =
    choose (tenant (host_of b)) (remaining tenant bs xs) (x ∷ remaining tenant bs xs)

-- ---- what the two images have equal: of every array what stands below its count, and of starting processes their slots
-- and places

-- "code in every instruction": the action, with its target and its places, and each field of the template
pub record SameInstruction (c c' : Instruction) : Type 0 where
  pub action : c.action ≡ c'.action
  pub count : c.count ≡ c'.count
  pub fields : (i : ℕ) → i < c.count → pattern_at c i ≡ pattern_at c' i

-- "equal .. code": codes of one length, equal in every instruction below it
pub record SameCode (s t : Net) : Type 0 where
  pub length : s.length ≡ t.length
  pub instructions : (p : Place) → p.0 < s.length → SameInstruction (instruction_at s.code p) (instruction_at t.code p)

-- "policies in every right": n, and the rights over each address below the address count
pub record SamePolicy (addresses : ℕ) (r r' : Row) : Type 0 where
  pub creation : r.create ≡ r'.create
  pub rights : (l : Locality) → l.0 < addresses → rights_at r l ≡ rights_at r' l

-- a tuple "whole": each of its fields. Its mark needs no word: "tuples of an image carry their own node's address"
-- (document 02, slip 8), in both images
pub record SameTuple (u u' : Tuple) : Type 0 where
  pub count : u.count ≡ u'.count
  pub fields : (i : ℕ) → i < u.count → field_at u i ≡ field_at u' i

-- "tuples in order and whole"
pub record SameTuples (x x' : Node) : Type 0 where
  pub count : x.stored ≡ x'.stored
  pub tuples : (i : ℕ) → i < x.stored → SameTuple (tuple_at x i) (tuple_at x' i)

-- a starting process in its slot and place: the slot is free in both or busy in both, and where it is busy the process
-- stands at one place. Its origin needs no word: "a starting process has its own node as origin" (slip 10), in both images
pub record SameStart (p p' : Process) : Type 0 where
  pub busy : p.busy ≡ p'.busy
  pub place : p.busy ≡ true → p.at ≡ p'.at

-- "equal policies, tuples and starting processes": a policy is a node's rows, for each origin in use ("its premises speak of each
-- row of a node", document 02, slip 10); "starting processes slot by slot in their places"
pub record SameNode (addresses : ℕ) (x x' : Node) : Type 0 where
  pub policy : (o : Locality) → o.0 < addresses → SamePolicy addresses (row_at x o) (row_at x' o)
  pub tuples : SameTuples x x'
  pub processes : (k : ℕ) → k < 4 → SameStart (process_at x k) (process_at x' k)

-- ---- what is asked of each image. "A policy grants what its row holds": the rights over address l that address a's policy
-- grants to code of origin o, and the right to create
unfoldable pub grants : Net → Locality → Locality → Locality → Rights
grants s a o l = rights_at (row_at (node_at s a) o) l

unfoldable pub creates : Net → Locality → Locality → Bool
creates s a o = (row_at (node_at s a) o).create

-- "at most read means no i, o or e": of the rights held, though i at an address covers reading there
pub record AtMostRead (r : Rights) : Type 0 where
  pub no_take : r.take ≡ false
  pub no_put : r.put ≡ false
  pub no_send : r.send ≡ false

-- "no outside policy grants a right over a tenant's address; a tenant's policy grants no creation and, outside, at most
-- read", in each row
pub record Fenced (tenant : Locality → Bool) (s : Net) : Type 0 where
  pub outside :
      (a o l : Locality)
      → a.0 < s.addresses
      → o.0 < s.addresses
      → tenant a ≡ false
      → tenant l ≡ true
      → grants s a o l ≡ no_rights
  pub no_creation : (a o : Locality) → tenant a ≡ true → o.0 < s.addresses → creates s a o ≡ false
  pub at_most_read :
      (a o l : Locality)
      → tenant a ≡ true
      → o.0 < s.addresses
      → l.0 < s.addresses
      → tenant l ≡ false
      → AtMostRead (grants s a o l)

-- ---- the premises on the nets of the two images. "The tenant's addresses are any set of those below the image's count, the
-- empty and the full one among them"; "equal address counts and code and, at addresses outside the tenant's, equal
-- policies, tuples and starting processes"; and the fence "in each image". "The tenant rule asks one format of both images"
-- (document 02, slip 10)
pub record Alike (tenant : Locality → Bool) (s t : Net) : Type 0 where
  pub below : (a : Locality) → tenant a ≡ true → a.0 < s.addresses
  pub format : s.format ≡ t.format
  pub addresses : s.addresses ≡ t.addresses
  pub code : SameCode s t
  pub nodes : (a : Locality) → a.0 < s.addresses → tenant a ≡ false → SameNode s.addresses (node_at s a) (node_at t a)
  pub fenced : Fenced tenant s
  pub fenced' : Fenced tenant t

-- ---- what follows: "policies in every right", "tuples in order and whole", "processes at the end slot by slot, free or
-- busy, each record whole", so each of a node's parts as a whole. "Equality of tuples between two runs now covers this mark
-- as well" (document 02, slip 8): a tuple's record holds it
pub record Equal (x y : Node) : Type 0 where
  pub policy : x.rows ≡ y.rows
  pub count : x.stored ≡ y.stored
  pub tuples : x.tuples ≡ y.tuples
  pub processes : x.processes ≡ y.processes

-- "the remaining answers are equal in order, as are the final count of addresses and, at each outside address, policy,
-- tuples and processes with their variables"; "all others, opened ones too, are outside"
pub record Agree (tenant : Locality → Bool) (picks picks' : List ℕ) (r r' : Ran) : Type 0 where
  pub answers : remaining tenant picks r.answers ≡ remaining tenant picks' r'.answers
  pub count : r.net.addresses ≡ r'.net.addresses
  pub nodes : (a : Locality) → tenant a ≡ false → Equal (node_at r.net a) (node_at r'.net a)

-- the rule: of every two runs, each of an accepted image (a refused one makes none) and a list of picks, "for every two
-- lists of picks that agree once picks of tenant addresses are struck out"
unfoldable pub TenantRule : Type 0
TenantRule =
    (tenant : Locality → Bool) (image image' picks picks' : List ℕ) (r r' : Ran)
    → run_of image picks ≡ ran r
    → run_of image' picks' ≡ ran r'
    → Alike tenant (opened_of image).net (opened_of image').net
    → struck tenant picks ≡ struck tenant picks'
    → Agree tenant picks picks' r r'
