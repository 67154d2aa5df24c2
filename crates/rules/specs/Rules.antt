-- The rules from outside (document 01, "One pick", "Reaching and rights"; document 004, sections 2.1 to 2.3): the steps
-- that the process in slot k of address a can make in the net s, as a relation between the net before and the net
-- after, with one rule for each action. A rule has no order of tests: it says what has to hold, and what the net is
-- then. Document 004 lets a step choose any tuple that matches and any address not in use; document 01 takes the oldest
-- tuple and the lowest address, and adds rights, room and the rule for sent code.
use Rattle.std.specs.Prelude.{ℕ, ◌<◌, ◌≡◌, ◌↔◌, true, false, List, Some}
use Rattle.net.specs.Records.{process_at, tuple_at, marked, node_at, instruction_at, row_for, moved_to, copied_to, sent_from, free_process}
use Rattle.net.specs.declared.locality.Group.{Group}
use Rattle.net.specs.Groups.{member}
use Rattle.matching.specs.Matching.{evaluated_of, bound_of}
use Rattle.keeping.specs.Reaching.{Reaches}
use Rattle.keeping.specs.Keeping.{may_take, may_read, may_put, may_send, may_create, permits}
use Rattle.sound.specs.Soundness.{sound_of}
use Rattle.matching.specs.MatchingPromise.{OldestThatFits}
use Rattle.plans.specs.Request.{target_of}
use Rattle.plans.specs.Additions.{tuple_of}
use Rattle.step.specs.Pick.{host_of, slot_of, spare_of, pick_of, with_host, added, added_all, taken, created}
use Rattle.rules.specs.Types.{Locality, Place, Row, Process, Node, Target, Action, Instruction, Evaluated, Net}
use Rattle.rules.specs.Types.{Answer}

-- ---- what the rules speak of

-- the process in slot k of address a, the instruction at its place, and that instruction's template, evaluated
unfoldable pub process_in : Net → Locality → ℕ → Process
process_in s a k = process_at (node_at s a) k

unfoldable pub instruction_in : Net → Locality → ℕ → Instruction
instruction_in s a k = instruction_at s.code (process_in s a k).at

unfoldable pub template_in : Net → Locality → ℕ → Evaluated
template_in s a k = evaluated_of a (process_in s a k) (instruction_in s a k)

-- the row of the hosting node for the process: the one for its origin (document 02, slip 10)
unfoldable pub row_in : Net → Locality → ℕ → Row
row_in s a k = row_for (node_at s a) (process_in s a k)

-- ---- premises

-- the slot is busy, and the action is the one at the place of its process
pub record Stands (s : Net) (a : Locality) (k : ℕ) (action : Action) : Type 0 where
  pub busy : (process_in s a k).busy ≡ true
  pub acts : (instruction_in s a k).action ≡ action

-- the target points to l, and the node l exists (document 004, section 2.1, asks for that in every rule)
pub record Points (s : Net) (a : Locality) (k : ℕ) (t : Target) (l : Locality) : Type 0 where
  pub points : target_of a (process_in s a k) t ≡ Some l
  pub exists : l.0 < s.addresses

-- slot j of the node is free, and every lower one is busy
pub record LowestFree (x : Node) (j : ℕ) : Type 0 where
  pub slot : j < 4
  pub free : (process_at x j).busy ≡ false
  pub lowest : (i : ℕ) → i < j → (process_at x i).busy ≡ true

-- the code from the place `sent` keeps within a row of l: each instruction reached has its right
pub record KeepsWithin (code : List Instruction) (sent : Place) (l : Locality) (row : Row) : Type 0 where
  pub permitted : (q : Place) → Reaches code sent q → permits row l (instruction_at code q).action ≡ true

-- ---- the rules. Above each stands the rule of document 004, in which l :: P is the process P at address l; nodes that
-- stay as they are are left out of it
pub data Reduces (s : Net) (a : Locality) (k : ℕ) : Net → Type 0 where
  -- l :: out(t)@l'.P ∥ l' :: P' ↣ l :: P ∥ l' :: P' ∥ l' :: ⟨et⟩, where t evaluates to et.
  -- The tuple is the newest at its target, which has room for it, and bears the address l (document 02, slip 8)
  OUT :
      {t : Target} {q : Place} {l : Locality}
      → Stands s a k (Action.Out t q)
      → Points s a k t l
      → (template_in s a k).defined ≡ true
      → may_put (row_in s a k) l ≡ true
      → (node_at s l).stored < 16
      → Reduces s a k (added (with_host s a k (moved_to (process_in s a k) q)) l (marked a (tuple_of (template_in s a k))))
  -- l :: in(T)@l'.P ∥ l' :: ⟨et⟩ ↣ l :: Pσ ∥ l' :: nil, where T evaluated matches et with the substitution σ.
  -- The tuple is the oldest that fits, and σ sets the formals
  IN :
      {t : Target} {q : Place} {l : Locality} {i : ℕ}
      → Stands s a k (Action.In t q)
      → Points s a k t l
      → (template_in s a k).defined ≡ true
      → may_take (row_in s a k) l ≡ true
      → OldestThatFits (node_at s l) (template_in s a k) i
      → Reduces s a k
      (taken
      (with_host s a k
      (moved_to (bound_of (process_in s a k) (tuple_at (node_at s l) i) (template_in s a k)) q))
      l
      i)
  -- l :: read(T)@l'.P ∥ l' :: ⟨et⟩ ↣ l :: Pσ ∥ l' :: ⟨et⟩, where T evaluated matches et with the substitution σ.
  -- The right is r or i at l' (document 02, slip 6)
  READ :
      {t : Target} {q : Place} {l : Locality} {i : ℕ}
      → Stands s a k (Action.Read t q)
      → Points s a k t l
      → (template_in s a k).defined ≡ true
      → may_read (row_in s a k) l ≡ true
      → OldestThatFits (node_at s l) (template_in s a k) i
      → Reduces s a k
      (with_host s a k
      (moved_to (bound_of (process_in s a k) (tuple_at (node_at s l) i) (template_in s a k)) q))
  -- l :: eval(Q)@l'.P ∥ l' :: P' ↣ l :: P ∥ l' :: P' | Q.
  -- Q is the code at the sent place; it has a copy of the variables, and l as its origin, and is judged by the row of l' for l
  -- (document 02, slip 10)
  EVAL :
      {t : Target} {sent q : Place} {l : Locality} {j : ℕ}
      → Stands s a k (Action.Eval t sent q)
      → Points s a k t l
      → may_send (row_in s a k) l ≡ true
      → KeepsWithin s.code sent l (row_for (node_at s l) (sent_from a (process_in s a k) sent))
      → LowestFree (node_at s l) j
      → Reduces s a k
      (with_host (with_host s a k (moved_to (process_in s a k) q)) l j (sent_from a (process_in s a k) sent))
  -- L ⊢ l :: newloc(u).P ↣ L ∪ {l'} ⊢ l :: P[l'/u] ∥ l' :: nil, where l' is not in L.
  -- L holds the addresses in use, and l' is the lowest other one; `NewClaims.antt` has the rows of l and l' afterwards
  NEW :
      {v : ℕ} {q : Place}
      → Stands s a k (Action.New v q)
      → may_create (row_in s a k) ≡ true
      → s.addresses < 16
      → Reduces s a k (created s a k (process_in s a k) v q)
  -- l :: P₁ | P₂ ≡ l :: P₁ ∥ l :: P₂, the law (CLONE), from left to right.
  -- P₁ stays in its slot, and P₂ has a copy of the variables; both keep the origin
  FORK :
      {q r : Place} {j : ℕ}
      → Stands s a k (Action.Fork q r)
      → LowestFree (node_at s a) j
      → Reduces s a k
      (with_host (with_host s a k (moved_to (process_in s a k) q)) a j (copied_to (process_in s a k) r))
  -- an out to a set (document 02, slip 11), which document 004 does not have: OUT at each member at once. Each member exists, and
  -- has room for the tuple
  OUT_ALL :
      {g : Group} {q : Place}
      → Stands s a k (Action.OutAll g q)
      → (template_in s a k).defined ≡ true
      → ((l : Locality) → member g l ≡ true → l.0 < s.addresses)
      → ((l : Locality) → member g l ≡ true → may_put (row_in s a k) l ≡ true)
      → ((l : Locality) → member g l ≡ true → (node_at s l).stored < 16)
      → Reduces s a k
      (added_all (with_host s a k (moved_to (process_in s a k) q)) g (marked a (tuple_of (template_in s a k))))

-- l :: P | nil ≡ l :: P, the law (ABS), from left to right: a process that ends, whose slot is freed
pub data Ends (s : Net) (a : Locality) (k : ℕ) : Net → Type 0 where
  NIL : Stands s a k Action.Stop → Ends s a k (with_host s a k free_process)

-- ---- the claims (demand 2, "A pick performs a step when document 01's rules, taken from µKLAIM, allow that step, and
-- only then"). They hold for every byte: one that is not well formed, or of an unused address, allows no step.

-- a pick of a sound net is answered 0 and leaves a net when a rule allows the step to that net, and only then
unfoldable pub StepIsPick : Type 0
StepIsPick =
    (s : Net)
    → sound_of s ≡ true
    → (b : ℕ) (after : Net)
    → (pick_of s b ≡ record { answer = Answer.Performed; net = after })
    ↔ ((spare_of b ≡ 0) × ((host_of b).0 < s.addresses) × Reduces s (host_of b) (slot_of b) after)

-- and it is answered 1 and leaves a net when the process ends so, and only then
unfoldable pub StopIsPick : Type 0
StopIsPick =
    (s : Net)
    → sound_of s ≡ true
    → (b : ℕ) (after : Net)
    → (pick_of s b ≡ record { answer = Answer.Ended; net = after })
    ↔ ((spare_of b ≡ 0) × ((host_of b).0 < s.addresses) × Ends s (host_of b) (slot_of b) after)
