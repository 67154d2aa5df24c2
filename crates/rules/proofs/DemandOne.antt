-- The claims of `specs/DemandOne.antt`: a step that is performed is one that a rule allows, and each rule has its right
-- among its premises; a pick that is refused hands back the net that it was given.
-- Assumes nothing.
use Prim.Native.Nat.{ℕ}
use mathlib.Core.Path.{◌≡◌, refl, ap}
use mathlib.Core.Bool.{Bool}
use native.Mathlib.Omega.{arith}
use Rattle.net.specs.Choice.{choose}
use Rattle.net.proofs.Every.{chosen}
use Rattle.rules.specs.Types.{Locality, Action, Net}
use Rattle.rules.specs.Types.{Answer, Picked}
use Rattle.plans.specs.Answer.{number_of}
use Rattle.plans.specs.Request.{request_of}
use Rattle.step.specs.Pick.{host_of, slot_of, unchanged, performed, stopped, process_step, step_of, slot_step, pick_of}
use Rattle.rules.specs.Rules.{process_in, instruction_in, row_in, Stands, Reduces, OUT, IN, READ, EVAL, NEW, FORK, OUT_ALL}
use Rattle.rules.specs.DemandOne.{Held, out_held, in_held, read_held, eval_held, new_held, fork_held, out_all_held}
use Rattle.rules.specs.DemandOne.{picked_process, picked_action, OnlyWithRight, RefusedChangesNothing}
use Rattle.rules.proofs.Outcomes.{ComesTo, performs, refuses, ends, outcome}
use Rattle.rules.proofs.Rules.{picked_step}

-- ---- only with the right
module _ (s : Net) (a : Locality) (k : ℕ) where
  held_at :
      (x : Action) → Stands s a k x → Held (row_in s a k) a (process_in s a k) x
      → Held (row_in s a k) a (process_in s a k) (instruction_in s a k).action
  held_at x h r = rw h.acts r

  held : (after : Net) → Reduces s a k after → Held (row_in s a k) a (process_in s a k) (instruction_in s a k).action
  held _ (OUT h p d g room) = held_at _ h (out_held p.points g)
  held _ (IN h p d g o) = held_at _ h (in_held p.points g)
  held _ (READ h p d g o) = held_at _ h (read_held p.points g)
  held _ (EVAL h p g within f) = held_at _ h (eval_held p.points g)
  held _ (NEW h g room) = held_at _ h (new_held g)
  held _ (FORK h f) = held_at _ h fork_held
  held _ (OUT_ALL h d used may room) = held_at _ h (out_all_held may)

pub is_performed : (w : Answer) → number_of w ≡ 0 → w ≡ Answer.Performed
unfolding number_of
is_performed Answer.Performed h = refl
is_performed Answer.Ended h = absurd (omega arith)
is_performed Answer.NoTuple h = absurd (omega arith)
is_performed Answer.NoRoom h = absurd (omega arith)
is_performed Answer.NoRight h = absurd (omega arith)
is_performed Answer.NotWithin h = absurd (omega arith)
is_performed Answer.NotSet h = absurd (omega arith)
is_performed Answer.FreeSlot h = absurd (omega arith)
is_performed Answer.NotInUse h = absurd (omega arith)
is_performed Answer.Malformed h = absurd (omega arith)
is_performed Answer.Unsound h = absurd (omega arith)

pub only_with_right : OnlyWithRight
unfolding OnlyWithRight picked_process picked_action row_in process_in instruction_in
only_with_right s b h =
    held s (host_of b) (slot_of b) (pick_of s b).net
    (picked_step s b (pick_of s b).net
    (record { is = λ i. record { answer = is_performed (pick_of s b).answer h i; net = (pick_of s b).net } }))

-- ---- refused changes nothing: a pick performs a step, or ends its process, or leaves the net as it was
pub data Left (s : Net) (r : Picked) : Type 0 where
  was_performed : r.answer ≡ Answer.Performed → Left s r
  was_ended : r.answer ≡ Answer.Ended → Left s r
  as_it_was : r.net ≡ s → Left s r

left : (s : Net) (a : Locality) (k : ℕ) (x : Action) (r : Picked) → ComesTo s a k x r → Left s r
unfolding performed unchanged stopped
left s a k _ _ (performs n) = was_performed refl
left s a k _ _ (refuses n l) = as_it_was refl
left s a k _ _ ends = was_ended refl

or_refused : (s : Net) (b : Bool) (r : Picked) (n : Answer) → Left s r → Left s (choose b r (unchanged n s))
unfolding unchanged
or_refused s b r n h = chosen (Left s) b r _ (λ _. h) (λ _. as_it_was refl)

pub picked_left : (s : Net) (b : ℕ) → Left s (pick_of s b)
unfolding pick_of step_of slot_step process_step request_of
picked_left s b =
    or_refused s _ _ _ (or_refused s _ _ _ (or_refused s _ _ _ (or_refused s _ _ _
    (left s (host_of b) (slot_of b) _ _ (outcome s (host_of b) (slot_of b) _ _ _)))))

number_performed : number_of Answer.Performed ≡ 0
unfolding number_of
number_performed = refl

number_ended : number_of Answer.Ended ≡ 1
unfolding number_of
number_ended = refl

-- what the claim's bound leaves out is a step performed and a process ended, whose nets do change
pub refused_changes_nothing : RefusedChangesNothing
unfolding RefusedChangesNothing
refused_changes_nothing s b l = go (picked_left s b)
  where
    go : Left s (pick_of s b) → (pick_of s b).net ≡ s
    go (was_performed e) = absurd (omega (arith, ap number_of e, number_performed))
    go (was_ended e) = absurd (omega (arith, ap number_of e, number_ended))
    go (as_it_was e) = e
