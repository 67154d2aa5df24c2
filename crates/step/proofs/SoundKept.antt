-- The claim of `specs/SoundKept.antt`: every pick keeps a net sound. Each request that is within a sound net keeps the
-- facts of `NetFacts.antt` of `sound` (`done_kept`), and an instruction of a sound net asks for no other (`SoundRequests.antt`).
-- Assumes nothing.
use Prim.Native.Nat.{ℕ, ◌<◌}
use mathlib.Core.Path.{◌≡◌, refl}
use mathlib.Core.Bool.{true}
use native.Mathlib.Omega.{arith}
use Rattle.std.specs.Prelude.{Option, Some, None}
use Rattle.net.specs.Records.{process_at, node_at, tuple_at, with_node, moved_to, free_process}
use Rattle.matching.specs.Matching.{matched_of}
use borrow.Author.Tests.{ltb-true}
use Rattle.net.proofs.GroupLaws.{members_at}
use Rattle.sound.specs.Soundness.{group_sound, sound_of}
use Rattle.matching.specs.MatchingPromise.{OldestThatFits}
use Rattle.net.proofs.Laws.{choose_true}
use Rattle.net.proofs.Every.{chosen, chosen_lt}
use Rattle.matching.proofs.MatchingPromise.{matching_promise as promise}
use Rattle.step.specs.Types.{Locality, Place, Group, Tuple, Process, Instruction, Net, Evaluated}
use Rattle.step.specs.Types.{Answer, Picked}
use Rattle.step.specs.Types.{Request}
use Rattle.step.specs.Pick.{host_of, slot_of, unchanged, performed, with_host, stopped, out, out_all, in_found, input}
use Rattle.step.specs.Pick.{read_found, read, started_in, eval, fork, create, carried_out, acting, process_step}
use Rattle.step.specs.Pick.{slot_step, step_of, pick_of}
use Rattle.net.specs.Shape.{Shaped}
use Rattle.step.specs.SoundKept.{SoundKept}
use Rattle.sound.proofs.NodeFacts.{TupleOk, Running}
use Rattle.sound.proofs.NodeChanges.{runs, free_slot_law}
use Rattle.sound.proofs.CodeFacts.{InstructionOk}
use Rattle.sound.proofs.NetFacts.{NetOk, sound_apart, net_sound, net_shaped}
use Rattle.sound.proofs.NetChanges.{node_at_law, instruction_at_law}
use Rattle.step.proofs.SoundChanges.{moved, copied, sent_from_law, with_host_law, added_kept, added_all_kept, taken_kept, created_kept}
use Rattle.step.proofs.SoundRequests.{bound, RequestOk, request_ok}
use Rattle.step.proofs.Stores.{stored_same}

-- ---- an answer's net
pub record Kept (r : Picked) : Type 0 where
  pub net_ok : NetOk r.net

pub same_kept : (s : Net) (x : Answer) → NetOk s → Kept (unchanged x s)
unfolding unchanged
same_kept s x ok = record { net_ok = ok }

performed_kept : (s : Net) → NetOk s → Kept (performed s)
unfolding performed
performed_kept s ok = record { net_ok = ok }

-- ---- each request, of the process p that runs at a in slot i
module _
    (s : Net) (ok : NetOk s) (a : Locality) (i : ℕ) (hosted : a.0 < s.addresses) (p : Process)
    (running : Running s.addresses s.length p)
  where
    move_kept :
        (r : Process) (q : Place) → Running s.addresses s.length r → q.0 < s.length
        → NetOk (with_host s a i (moved_to r q))
    move_kept r q g h = with_host_law s ok a i _ hosted (runs _ _ _ (moved _ _ r g q h))

    stopped_kept : Kept (stopped s a i)
    unfolding stopped
    stopped_kept = record { net_ok = with_host_law s ok a i free_process hosted (free_slot_law _ _) }

    out_kept :
        (l : Locality) (q : Place) (t : Tuple) → l.0 < s.addresses → q.0 < s.length
        → TupleOk s.addresses t → Kept (out s a i p l q t)
    unfolding out with_host with_node
    out_kept l q t h g u =
        chosen Kept _ _ _ (λ _. performed_kept _ (added_kept _ (move_kept p q running g) l t h u)) (λ _. same_kept s _ ok)

    out_all_kept :
        (g : Group) (q : Place) (t : Tuple) → group_sound s.addresses g ≡ true → q.0 < s.length
        → TupleOk s.addresses t → Kept (out_all s a i p g q t)
    unfolding out_all with_host with_node group_sound
    out_all_kept g q t h next u =
        chosen Kept _ _ _
        (λ _. performed_kept _
        (added_all_kept _ (move_kept p q running next) g t (λ l m. ltb-true _ _ (members_at g _ h l m)) u))
        (λ _. same_kept s _ ok)

    module _ (l : Locality) (q : Place) (e : Evaluated) (reached : l.0 < s.addresses) (next : q.0 < s.length) where
      oldest : (j : ℕ) → (matched_of p (node_at s l) e).found ≡ Some j → OldestThatFits (node_at s l) e j
      oldest j = (promise.finds p (node_at s l) e j (node_at_law s ok l reached).room).0

      bound_at_law :
          (j : ℕ) → (matched_of p (node_at s l) e).found ≡ Some j
          → Running s.addresses s.length (matched_of p (node_at s l) e).process
      unfolding tuple_at
      bound_at_law j h =
          let x = node_at_law s ok l reached in
          let here = oldest j h in
          rw (promise.binds p (node_at s l) e j h)
          (bound _ _ p _ e running ((x.tuples_ok.holds j (omega (arith, x.room, here.present))).used here.present)
          here.fits)

      in_kept :
          (f : Option ℕ) → (matched_of p (node_at s l) e).found ≡ f
          → Kept (in_found s a i l q f (matched_of p (node_at s l) e).process)
      unfolding in_found with_host with_node
      in_kept (Some j) h =
          performed_kept _
          (taken_kept _ (move_kept _ q (bound_at_law j h) next) l j reached (rw (stored_same s a l i) (oldest j h).present))
      in_kept None h = same_kept s _ ok

      read_kept :
          (f : Option ℕ) → (matched_of p (node_at s l) e).found ≡ f
          → Kept (read_found s a i q f (matched_of p (node_at s l) e).process)
      unfolding read_found
      read_kept (Some j) h = performed_kept _ (move_kept _ q (bound_at_law j h) next)
      read_kept None h = same_kept s _ ok

      started_kept : (copy : Process) → Running s.addresses s.length copy → (j : Option ℕ) → Kept (started_in s a i l p copy q j)
      unfolding started_in with_host with_node
      started_kept copy h (Some j) =
          performed_kept _ (with_host_law _ (move_kept p q running next) l j _ reached (runs _ _ _ h))
      started_kept copy h None = same_kept s _ ok

    create_kept : (v : ℕ) (q : Place) → q.0 < s.length → Kept (create s a i p v q)
    unfolding create
    create_kept v q h =
        chosen_lt Kept s.addresses 16 _ _
        (λ room. performed_kept _ (created_kept s ok a i p v q hosted room running h)) (λ _. same_kept s _ ok)

    pub done_kept : (e : Evaluated) (r : Request) → RequestOk a s.addresses s.length e r → Kept (carried_out s a i p e r)
    unfolding carried_out RequestOk input read eval fork
    done_kept e Request.Lack h = same_kept s _ ok
    done_kept e Request.Stop h = stopped_kept
    done_kept e (Request.Out l q) h = out_kept l q _ h.0 h.1 h.2
    done_kept e (Request.In l q) h = in_kept l q e h.0 h.1 _ refl
    done_kept e (Request.Read l q) h = read_kept l q e h.0 h.1 _ refl
    done_kept e (Request.Eval l sent q) h =
        chosen Kept _ _ _ (λ _. started_kept l q e h.0 h.2 _ (sent_from_law _ _ p running a sent hosted h.1) _) (λ _. same_kept s _ ok)
    done_kept e (Request.New v q) h = create_kept v q h
    done_kept e (Request.Fork q r) h = started_kept a q e hosted h.0 _ (copied _ _ p running r h.1) _
    done_kept e (Request.OutAll g q) h = out_all_kept g q _ h.0 h.1 h.2

    step_kept :
        (c : Instruction) → InstructionOk s.format s.addresses s.length c → Kept (process_step s a i p c)
    unfolding process_step acting
    step_kept c h =
        chosen Kept _ _ _ (λ _. done_kept _ _ (request_ok s.format s.addresses s.length a p c hosted running h))
        (λ _. same_kept s _ ok)

-- ---- a pick
pub slot_below : (b : ℕ) → slot_of b < 4
unfolding slot_of
slot_below b = omega arith

pick_kept : (s : Net) (b : ℕ) → NetOk s → Kept (step_of s b)
unfolding step_of slot_step process_at
pick_kept s b ok =
    chosen Kept _ _ _
    (λ _. chosen_lt Kept (host_of b).0 s.addresses _ _
    (λ hosted. chosen Kept _ _ _
    (λ busy.
    let Node-Ok = node_at_law s ok (host_of b) hosted in
    let running = (Node-Ok.processes_ok.holds (slot_of b) (slot_below b)).running busy in
    step_kept s ok (host_of b) (slot_of b) hosted _ running _ (instruction_at_law s ok _ running.place))
    (λ _. same_kept s _ ok)) (λ _. same_kept s _ ok)) (λ _. same_kept s _ ok)

pub step_sound_kept :
    (s : Net) (b : ℕ) → Shaped s → sound_of s ≡ true
    → (sound_of (step_of s b).net ≡ true) × Shaped (step_of s b).net
step_sound_kept s b shaped sound =
    let ok = (pick_kept s b (sound_apart s shaped sound)).net_ok in
    (net_sound _ ok, net_shaped _ _ _ _ ok)

pub sound_kept : SoundKept
unfolding SoundKept pick_of
sound_kept s b shaped sound = rw choose_true (step_sound_kept s b shaped sound)

-- what a pick promises of a net that a program holds
pub pick_keeps :
    (s : Net) (b : ℕ) (r : Picked) → Shaped s → r ≡ pick_of s b
    → (r ≡ pick_of s b) × (sound_of s ≡ true → sound_of r.net ≡ true)
unfolding SoundKept
pick_keeps s b r shaped e = (e, λ sound. rw e (sound_kept s b shaped sound).0)
