-- Who put it there (document 02, slip 8): "Each tuple record carries the address of the node where its out was performed;
-- tuples of an image carry their own node's address." Said of every net that an accepted source comes to by picks, so that
-- one may rely on the mark of a tuple that stands there.
use Rattle.std.specs.Prelude.{ℕ, ◌+◌, ◌<◌, ◌≡◌, ◌⊎◌, true, List, Some}
use Rattle.net.specs.declared.locality.Group.{Group}
use Rattle.net.specs.Groups.{member}
use Rattle.net.specs.Records.{node_at, tuple_at, instruction_at}
use Rattle.matching.specs.Matching.{evaluated_of}
use Rattle.image.specs.Image.{opened_of}
use Rattle.notation.specs.Text.{read_of}
use Rattle.plans.specs.Answer.{number_of}
use Rattle.plans.specs.Request.{target_of}
use Rattle.plans.specs.Additions.{tuple_of}
use Rattle.step.specs.Pick.{host_of, pick_of}
use Rattle.rules.specs.DemandOne.{picked_process, picked_action}
use Rattle.runs.specs.Run.{ran_from}
use Rattle.marks.specs.Types.{Locality, Place, Tuple, Node, Target, Action, Net, Verdict, TextVerdict}

-- ---- the nets that are spoken of

-- the net of an accepted source: an image, or a text (slip 3)
pub data Given : Net → Type 0 where
  by_image : (image : List ℕ) → (opened_of image).answer ≡ Verdict.Accepted → Given (opened_of image).net
  by_text : (text : List ℕ) → (read_of text).answer ≡ TextVerdict.Accepted → Given (read_of text).net

-- a net that comes from one by some picks
pub data Comes : Net → Type 0 where
  by_picks : {s : Net} (picks : List ℕ) → Given s → Comes (ran_from s picks).net

-- ---- what a pick does to the tuples

-- the field values of the out that the pick b meets
unfoldable pub values_of : Net → ℕ → Tuple
values_of s b =
    tuple_of (evaluated_of (host_of b) (picked_process s b) (instruction_at s.code (picked_process s b).at))

-- the pick b puts a tuple at l: it is answered 0, its instruction is an out, and l is the out's target or a member of its set
pub data PutsAt (s : Net) (b : ℕ) (l : Locality) : Type 0 where
  by_out :
      {t : Target} {q : Place}
      → number_of (pick_of s b).answer ≡ 0
      → picked_action s b ≡ Action.Out t q
      → target_of (host_of b) (picked_process s b) t ≡ Some l
      → PutsAt s b l
  by_out_all :
      {g : Group} {q : Place}
      → number_of (pick_of s b).answer ≡ 0
      → picked_action s b ≡ Action.OutAll g q
      → member g l ≡ true
      → PutsAt s b l

-- from the node x to the node y one tuple is added, as the newest, with the fields of t and the mark a; the older ones
-- stand where they stood
pub record Added (t : Tuple) (a : Locality) (x y : Node) : Type 0 where
  pub one_more_law : y.stored ≡ x.stored + 1
  pub bears : (tuple_at y x.stored).mark ≡ a
  pub same_count : (tuple_at y x.stored).count ≡ t.count
  pub same_fields : (tuple_at y x.stored).fields ≡ t.fields
  pub older : (i : ℕ) → i < x.stored → tuple_at y i ≡ tuple_at x i

-- the tuple t, with these fields and this mark, stands at the node x
pub record StandsAt (x : Node) (t : Tuple) : Type 0 where
  pub place : ℕ
  pub present : place < x.stored
  pub is : tuple_at x place ≡ t

-- ---- the claim
pub record MarkIsTrue : Type 0 where
  -- in an accepted source's net every tuple bears its own node's address
  pub own :
      (s : Net)
      → Given s
      → (a : Locality) (i : ℕ)
      → i < (node_at s a).stored
      → (tuple_at (node_at s a) i).mark ≡ a
  -- an out to a target, answered 0 in any net, has one
  pub aimed :
      (s : Net) (b : ℕ) (t : Target) (q : Place)
      → number_of (pick_of s b).answer ≡ 0
      → picked_action s b ≡ Action.Out t q
      → (l : Locality) × (target_of (host_of b) (picked_process s b) t ≡ Some l)
  -- at its target, or at each member of its set, one tuple is added, as the newest, and bears the address where the out was
  -- performed: the pick's
  pub added :
      (s : Net) (b : ℕ) (l : Locality)
      → Comes s
      → PutsAt s b l
      → Added (values_of s b) (host_of b) (node_at s l) (node_at (pick_of s b).net l)
  -- every other tuple after any pick, whatever its answer, stood at that node before it, with the same fields and mark
  pub others :
      (s : Net) (b : ℕ) (a : Locality) (i : ℕ)
      → Comes s
      → i < (node_at (pick_of s b).net a).stored
      → (PutsAt s b a × (i ≡ (node_at s a).stored)) ⊎ StandsAt (node_at s a) (tuple_at (node_at (pick_of s b).net a) i)
