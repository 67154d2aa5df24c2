-- A pick edits the net at addresses that it concerns, and opens one only if it is new. Assumes nothing.
use Prim.Native.Nat.{ℕ}
use mathlib.Core.Path.{◌≡◌, refl, ap}
use mathlib.Core.Bool.{Bool, true, false}
use Rattle.std.specs.Prelude.{Option, Some, None}
use Rattle.net.specs.Choice.{both}
use Rattle.net.specs.Records.{node_at, with_node, with_tuple}
use Rattle.net.proofs.Laws.{both_i}
use Rattle.net.proofs.Every.{chosen}
use Rattle.plans.specs.Request.{targets, is_new}
use Rattle.step.specs.Pick.{host_of, slot_of, unchanged, performed, with_host, stopped, added, out, out_all, taken, in_found, input}
use Rattle.step.specs.Pick.{read_found, read, started_in, eval, fork, unused, created_at, created, create, carried_out, acting}
use Rattle.step.specs.Pick.{process_step, slot_step, step_of}
use Rattle.step.proofs.EachMember.{all_kept}
use Rattle.step.specs.Types.{Place, Tuple, Process, Node, Evaluated, Answer}
use Rattle.step.specs.declared.machine.Picked.{Picked}
use Rattle.tenant.proofs.Fence.{never}
use Rattle.order.specs.Types.{Locality, Net, Request}
use Rattle.order.specs.OrderRule.{process_of, meets, asks, opens}
use Rattle.order.proofs.Edits.{Edit, none, grow, put, done, openings}
use Rattle.order.proofs.Concerns.{Concern, is_host, Covered, covered, first_among, member_in}

-- the net after a pick is an edit of s at addresses in A
pub record Edited (A : Locality → Type 0) (s : Net) (new : Bool) (r : Picked) : Type 0 where
  pub edit : Edit A
  pub is : r.net ≡ done edit s
  pub still : new ≡ false → openings edit ≡ 0

module _ {A : Locality → Type 0} (s : Net) where
  refuses : (new : Bool) (w : Answer) → Edited A s new (unchanged w s)
  unfolding unchanged done openings
  refuses new w = record { edit = none; is = refl; still = λ _. refl }

  -- a tuple more
  adds : (new : Bool) (s' : Net) (l : Locality) (t : Tuple) → A l → Edited A s new (performed s') → Edited A s new (performed (added s' l t))
  unfolding performed added done openings
  adds new s' l t h f =
      let x : Node = with_tuple (node_at s' l) t in
      record { edit = put l h x f.edit; is = ap (λ (u : Net). with_node u l x) f.is; still = f.still }

  -- ---- each request of the process p at a in slot k
  module _ (a : Locality) (k : ℕ) (hosted : A a) where
    puts : (new : Bool) (p : Process) → Edited A s new (performed (with_host s a k p))
    unfolding performed with_host done openings
    puts new p = record { edit = put a hosted _ none; is = refl; still = λ _. refl }

    puts_two : (new : Bool) (p : Process) (l : Locality) (x : Node) → A l → Edited A s new (performed (with_node (with_host s a k p) l x))
    unfolding performed with_host done openings
    puts_two new p l x h = record { edit = put l h x (put a hosted _ none); is = refl; still = λ _. refl }

    in_edits : (new : Bool) (l : Locality) (q : Place) (i : Option ℕ) (p : Process) → A l → Edited A s new (in_found s a k l q i p)
    unfolding in_found taken
    in_edits new l q (Some i) p h = puts_two new _ l _ h
    in_edits new l q None p h = refuses new _

    read_edits : (new : Bool) (q : Place) (i : Option ℕ) (p : Process) → Edited A s new (read_found s a k q i p)
    unfolding read_found
    read_edits new q (Some i) p = puts new _
    read_edits new q None p = refuses new _

    started_edits :
        (new : Bool) (l : Locality) (p copy : Process) (q : Place) (j : Option ℕ) → A l → Edited A s new (started_in s a k l p copy q j)
    unfolding started_in with_host
    started_edits new l p copy q (Some j) h = puts_two new _ l _ h
    started_edits new l p copy q None h = refuses new _

    stopped_edits : (new : Bool) → Edited A s new (stopped s a k)
    unfolding stopped with_host done openings
    stopped_edits new = record { edit = put a hosted _ none; is = refl; still = λ _. refl }

    created_edits : (p : Process) (v : ℕ) (q : Place) → A (unused s) → Edited A s true (performed (created s a k p v q))
    unfolding performed created created_at done openings
    created_edits p v q h = record {
      edit = put (unused s) h _ (put a hosted _ (grow none));
      is = refl;
      still = λ n. never true refl n;
    }

    done_edits : (p : Process) (t : Evaluated) (r : Request) → Covered A s r → Edited A s (is_new r) (carried_out s a k p t r)
    unfolding carried_out targets is_new out out_all added input read eval create fork
    done_edits p t Request.Lack h = refuses _ _
    done_edits p t Request.Stop h = stopped_edits _
    done_edits p t (Request.Out l q) h =
        chosen (Edited A s _) _ _ _ (λ _. puts_two _ _ l _ (h.each l (first_among l))) (λ _. refuses _ _)
    done_edits p t (Request.In l q) h = in_edits _ l q _ _ (h.each l (first_among l))
    done_edits p t (Request.Read l q) h = read_edits _ q _ _
    done_edits p t (Request.Eval l sent q) h =
        chosen (Edited A s _) _ _ _ (λ _. started_edits _ l p _ q _ (h.each l (first_among l))) (λ _. refuses _ _)
    done_edits p t (Request.New v q) h = chosen (Edited A s true) _ _ _ (λ _. created_edits p v q (h.next refl)) (λ _. refuses _ _)
    done_edits p t (Request.Fork q r) h = started_edits _ a p _ q _ hosted
    done_edits p t (Request.OutAll g q) h =
        chosen (Edited A s _) _ _ _
        (λ _. all_kept g _ (λ s'. Edited A s false (performed s')) _ (puts _ _)
        (λ s' l m f. adds _ s' l _ (h.each l (member_in l g m)) f))
        (λ _. refuses _ _)

    acting_edits : (p : Process) (t : Evaluated) (r : Request) → Covered A s r → Edited A s (is_new r) (acting s a k p t r)
    unfolding acting
    acting_edits p t r h = chosen (Edited A s (is_new r)) _ _ _ (λ _. done_edits p t r h) (λ _. refuses _ _)

-- ---- a pick
opens_met : (s : Net) (b : ℕ) → meets s b ≡ true → is_new (asks s b) ≡ opens s b
unfolding opens both
opens_met s b m = rw m

pub step_edits : (s : Net) (b : ℕ) → Edited (Concern s b) s (opens s b) (step_of s b)
unfolding step_of slot_step process_step meets asks process_of
step_edits s b =
    let refused : (w : Answer) → Edited (Concern s b) s (opens s b) (unchanged w s) = refuses s (opens s b) in
    chosen (Edited _ s _) _ _ _
    (λ spare. chosen (Edited _ s _) _ _ _
    (λ _. chosen (Edited _ s _) _ _ _
    (λ busy.
    let m : meets s b ≡ true = both_i _ _ spare busy in
    rw (← opens_met s b m)
    (acting_edits s (host_of b) (slot_of b) (is_host refl) _ _ (asks s b) (covered s b m)))
    (λ _. refused _)) (λ _. refused _)) (λ _. refused _)
