-- The claim `SettledStays` of `specs/Settled.antt`: what each request does leaves every process within its row. The place at which a
-- process goes on is one that it reached (`Onward`), sent code passed the test on arrival, and a new takes no right away.
-- Assumes nothing.
use Prim.Native.Nat.{ℕ, ◌<◌}
use mathlib.Core.Path.{◌≡◌, refl, ap, ◌∙◌}
use mathlib.Core.Bool.{true}
use native.Mathlib.Omega.{arith}
use Rattle.std.specs.Prelude.{Option, Some, None}
use Rattle.net.specs.Records.{node_at, process_at, tuple_at, instruction_at, free_process, moved_to, copied_to, sent_from, with_variable}
use Rattle.net.specs.Records.{row_for, with_process, with_node, with_counts}
use Rattle.net.proofs.Every.{chosen, chosen_lt}
use Rattle.matching.specs.Matching.{matched_of}
use Rattle.matching.specs.MatchingPromise.{OldestThatFits}
use Rattle.matching.proofs.MatchingPromise.{matching_promise as promise}
use Rattle.keeping.specs.Reaching.{Follows, out_next, in_next, read_next, eval_next, new_next, fork_first, fork_second, out_all_next}
use Rattle.keeping.specs.Keeping.{keeps_of}
use Rattle.keeping.specs.ReachingClaims.{KeepsIsEvery}
use Rattle.keeping.proofs.Reached.{keeps_is_every}
use Rattle.sound.proofs.NodeFacts.{Running}
use Rattle.sound.proofs.NetFacts.{NetOk, sound_apart}
use Rattle.sound.proofs.NetChanges.{node_at_law, instruction_at_law}
use Rattle.plans.specs.Request.{at, spoken, asked, request_of}
use Rattle.plans.specs.Additions.{opened_rows, creator_rows}
use Rattle.step.specs.Pick.{host_of, slot_of, unchanged, performed, with_host, stopped, out, out_all, in_found, input, read_found, read}
use Rattle.step.specs.Pick.{started_in, eval, fork, opened, unused, created_at, created, create, carried_out, acting, process_step, slot_step, step_of, pick_of}
use Rattle.step.specs.SoundKept.{SoundKept}
use Rattle.step.proofs.SoundKept.{sound_kept}
use Rattle.step.proofs.SoundRequests.{RequestOk, request_ok}
use Rattle.lean_step.specs.Types.{Locality, Place, Group, Value, Tuple, Process, Node, Action, Net, Evaluated}
use Rattle.lean_step.specs.Types.{Answer, Request, Picked}
use Rattle.lean_step.specs.Settled.{Settled, SettledStays}
use Rattle.lean_step.proofs.Covering.{creator_covers}
use Rattle.lean_step.proofs.Within.{Keeps, Within, free_keeps, keeps_on, process_within, rows_within, new_within}
use Rattle.lean_step.proofs.Within.{node_within, opened_within, host_within, hosts_within, added_within, added_all_within, taken_within}
use Rattle.lean_step.proofs.Within.{admitted_within, within_admitted}

-- ---- each place at which a request goes on follows the action x
Onward : Action → Request → Type 0
Onward x Request.Lack = Unit {0}
Onward x Request.Stop = Unit {0}
Onward x (Request.Out l q) = Follows q x
Onward x (Request.In l q) = Follows q x
Onward x (Request.Read l q) = Follows q x
Onward x (Request.Eval l sent q) = Follows q x
Onward x (Request.New v q) = Follows q x
Onward x (Request.Fork q r) = Follows q x × Follows r x
Onward x (Request.OutAll g q) = Follows q x

at_onward : (x : Action) (f : Locality → Request) → ((l : Locality) → Onward x (f l)) → (aim : Option Locality) → Onward x (at aim f)
unfolding Onward at
at_onward x f h (Some l) = h l
at_onward x f h None = tt

spoken_onward :
    (x : Action) (f : Locality → Request) → ((l : Locality) → Onward x (f l)) → (e : Evaluated) (aim : Option Locality)
    → Onward x (spoken e aim f)
unfolding Onward spoken
spoken_onward x f h e aim = chosen (Onward x) e.defined _ _ (λ _. at_onward x f h aim) (λ _. tt)

asked_onward : (a : Locality) (p : Process) (e : Evaluated) (x : Action) → Onward x (asked a p e x)
unfolding Onward asked
asked_onward a p e Action.Stop = tt
asked_onward a p e (Action.Out t q) = spoken_onward _ _ (λ l. out_next) e _
asked_onward a p e (Action.In t q) = spoken_onward _ _ (λ l. in_next) e _
asked_onward a p e (Action.Read t q) = spoken_onward _ _ (λ l. read_next) e _
asked_onward a p e (Action.Eval t sent q) = at_onward _ _ (λ l. eval_next) _
asked_onward a p e (Action.New v q) = new_next
asked_onward a p e (Action.Fork q r) = (fork_first, fork_second)
asked_onward a p e (Action.OutAll g q) = chosen (Onward _) e.defined _ _ (λ _. out_all_next) (λ _. tt)

-- ---- an answer's net
record Kept (r : Picked) : Type 0 where
  net_within : Within r.net

same_kept : (s : Net) (x : Answer) → Within s → Kept (unchanged x s)
unfolding unchanged
same_kept s x w = record { net_within = w }

performed_kept : (s : Net) → Within s → Kept (performed s)
unfolding performed
performed_kept s w = record { net_within = w }

-- ---- each request, of the process p that runs at a in slot k and keeps within its row
module _
    (s : Net) (ok : NetOk s) (w : Within s) (a : Locality) (k : ℕ) (hosted : a.0 < s.addresses) (p : Process)
    (running : Running s.addresses s.length p) (keeps : Keeps s.code a (node_at s a) p)
  where
    abbrev here : Action
    here = (instruction_at s.code p.at).action

    -- a process like p that goes on at q
    moved_keeps : (r : Process) (q : Place) → r.origin ≡ p.origin → Follows q here → Keeps s.code a (node_at s a) (moved_to r q)
    unfolding moved_to
    moved_keeps r q origin h = keeps_on s.code a (node_at s a) p _ (λ _. running.is_busy) origin h keeps

    move_within : (r : Process) (q : Place) → r.origin ≡ p.origin → Follows q here → Within (with_host s a k (moved_to r q))
    move_within r q origin h = host_within s w a k _ (moved_keeps r q origin h)

    stopped_kept : Kept (stopped s a k)
    unfolding stopped free_process
    stopped_kept = record { net_within = host_within s w a k free_process (free_keeps s.code a _ _ refl) }

    out_kept : (l : Locality) (q : Place) (t : Tuple) → Follows q here → Kept (out s a k p l q t)
    unfolding out
    out_kept l q t h =
        chosen Kept _ _ _ (λ _. performed_kept _ (added_within _ (move_within p q refl h) l t)) (λ _. same_kept s _ w)

    out_all_kept : (g : Group) (q : Place) (t : Tuple) → Follows q here → Kept (out_all s a k p g q t)
    unfolding out_all
    out_all_kept g q t h =
        chosen Kept _ _ _ (λ _. performed_kept _ (added_all_within _ (move_within p q refl h) g t)) (λ _. same_kept s _ w)

    -- a process whose formals are bound has the origin that it had
    module _ (l : Locality) (q : Place) (e : Evaluated) (reached : l.0 < s.addresses) (next : Follows q here) where
      bound_origin : (j : ℕ) → (matched_of p (node_at s l) e).found ≡ Some j → (matched_of p (node_at s l) e).process.origin ≡ p.origin
      unfolding tuple_at
      bound_origin j h =
          let x = node_at_law s ok l reached in
          let oldest : OldestThatFits (node_at s l) e j = (promise.finds p (node_at s l) e j x.room).0 h in
          let few = ((x.tuples_ok.holds j (omega (arith, x.room, oldest.present))).used oldest.present).most in
          ap (λ (r : Process). r.origin) (promise.binds p (node_at s l) e j h)
          ∙ (promise.sets p (tuple_at (node_at s l) j) e few oldest.fits).same_origin

      in_kept :
          (f : Option ℕ) → (matched_of p (node_at s l) e).found ≡ f → Kept (in_found s a k l q f (matched_of p (node_at s l) e).process)
      unfolding in_found
      in_kept (Some j) h = performed_kept _ (taken_within _ (move_within _ q (bound_origin j h) next) l j)
      in_kept None h = same_kept s _ w

      read_kept :
          (f : Option ℕ) → (matched_of p (node_at s l) e).found ≡ f → Kept (read_found s a k q f (matched_of p (node_at s l) e).process)
      unfolding read_found
      read_kept (Some j) h = performed_kept _ (move_within _ q (bound_origin j h) next)
      read_kept None h = same_kept s _ w

    started_kept :
        (l : Locality) (q : Place) (copy : Process) → Follows q here → Keeps s.code l (node_at s l) copy → (j : Option ℕ)
        → Kept (started_in s a k l p copy q j)
    unfolding started_in
    started_kept l q copy next h (Some j) =
        performed_kept _ (hosts_within s w a k _ (moved_keeps p q refl next) l j copy h)
    started_kept l q copy next h None = same_kept s _ w

    -- the test on arrival says just that the sent code keeps within its row
    sent_keeps :
        (l : Locality) (r : Process) → keeps_of s.code r.at l (row_for (node_at s l) r) ≡ true → Keeps s.code l (node_at s l) r
    unfolding KeepsIsEvery
    sent_keeps l r h = record {
      permitted = λ b. (keeps_is_every s.code (omega (arith, ok.code_ok.size_is)) r.at l (row_for (node_at s l) r)).0 h;
    }

    created_within : (v : ℕ) (q : Place) → Follows q here → Within (created s a k p v q)
    unfolding created created_at opened with_counts with_node with_process with_variable
    created_within v q h =
        let f : ℕ = s.format in
        let l : Locality = unused s in
        let r : Process = moved_to (with_variable p v (Value.Address l)) q in
        let x : Node = node_at s a in
        let low : p.origin.0 < 16 = omega (arith, running.origin_ok, ok.addresses_most) in
        node_within _
        (node_within (opened s) (opened_within s w) a _
        (rows_within s.code a (with_process x k r)
        (process_within s.code a x (w.at_each a) k r (moved_keeps (with_variable p v (Value.Address l)) q refl h))
        (creator_rows f x p l) (creator_covers f s.addresses x (node_at_law s ok a hosted).rows_ok p l low)))
        l _ (new_within s.code l (opened_rows f x a p l))

    done_kept : (e : Evaluated) (r : Request) → RequestOk a s.addresses s.length e r → Onward here r → Kept (carried_out s a k p e r)
    unfolding carried_out RequestOk Onward input read eval fork create sent_from copied_to
    done_kept e Request.Lack h o = same_kept s _ w
    done_kept e Request.Stop h o = stopped_kept
    done_kept e (Request.Out l q) h o = out_kept l q _ o
    done_kept e (Request.In l q) h o = in_kept l q e h.0 o _ refl
    done_kept e (Request.Read l q) h o = read_kept l q e h.0 o _ refl
    done_kept e (Request.Eval l sent q) h o =
        chosen Kept _ _ _ (λ within. started_kept l q _ o (sent_keeps l _ within) _) (λ _. same_kept s _ w)
    done_kept e (Request.New v q) h o =
        chosen Kept _ _ _ (λ _. performed_kept _ (created_within v q o)) (λ _. same_kept s _ w)
    done_kept e (Request.Fork q r) h o =
        started_kept a q _ o.0 (keeps_on s.code a (node_at s a) p _ (λ _. running.is_busy) refl o.1 keeps) _
    done_kept e (Request.OutAll g q) h o = out_all_kept g q _ o

    step_kept : Kept (process_step s a k p (instruction_at s.code p.at))
    unfolding process_step acting request_of
    step_kept =
        chosen Kept _ _ _
        (λ _. done_kept _ _
        (request_ok s.format s.addresses s.length a p _ hosted running (instruction_at_law s ok p.at running.place))
        (asked_onward a p _ here))
        (λ _. same_kept s _ w)

-- ---- a pick
slot_below : (b : ℕ) → slot_of b < 4
unfolding slot_of
slot_below b = omega arith

pick_kept : (s : Net) (b : ℕ) → NetOk s → Within s → Kept (pick_of s b)
unfolding pick_of step_of slot_step process_at
pick_kept s b ok w =
    chosen Kept _ _ _
    (λ _. chosen Kept _ _ _
    (λ _. chosen_lt Kept (host_of b).0 s.addresses _ _
    (λ hosted. chosen Kept _ _ _
    (λ busy.
    let running = ((node_at_law s ok (host_of b) hosted).processes_ok.holds (slot_of b) (slot_below b)).running busy in
    step_kept s ok w (host_of b) (slot_of b) hosted _ running ((w.at_each (host_of b)).each (slot_of b)))
    (λ _. same_kept s _ w)) (λ _. same_kept s _ w)) (λ _. same_kept s _ w)) (λ _. same_kept s _ w)

pub settled_within : (s : Net) → Settled s → Within s
settled_within s z = admitted_within s (sound_apart s z.shaped z.sound) z.within

pub settled_stays : SettledStays
unfolding SettledStays SoundKept
settled_stays s b z =
    let kept = sound_kept s b z.shaped z.sound in
    let after = (pick_kept s b (sound_apart s z.shaped z.sound) (settled_within s z)).net_within in
    record {
      shaped = kept.1;
      sound = kept.0;
      within = within_admitted (pick_of s b).net (sound_apart (pick_of s b).net kept.1 kept.0) after;
    }
