-- The claim of `specs/AllOrNone.antt`: an out to a set that is answered 0 leaves the net of `added_all` (`Pick.antt` of `step`), whose
-- stores are read one by one; every other answer leaves the net as it was.
-- Assumes nothing.
use Prim.Native.Nat.{ℕ, ◌<◌}
use mathlib.Core.Path.{◌≡◌, refl, ap, subst, ◌∙◌}
use mathlib.Core.Logic.{◌⊎◌, inl, inr, ◌≢◌}
use mathlib.Core.Bool.{true}
use native.Mathlib.Omega.{arith}
use native.Mathlib.Decide.{ℕ_discrete}
use lib.ListN.{length, length-set}
use borrow.Author.Tests.{ltb-true}
use Rattle.net.specs.Choice.{choose}
use Rattle.net.specs.Records.{node_at, instruction_at, moved_to, with_node, with_tuple}
use Rattle.net.specs.Groups.{member}
use Rattle.net.specs.Shape.{Shaped}
use Rattle.net.proofs.Laws.{choose_true, choose_false}
use Rattle.net.proofs.GroupLaws.{members_at}
use Rattle.plans.specs.Answer.{number_of}
use Rattle.matching.specs.Matching.{evaluated_of}
use Rattle.plans.specs.Request.{asked, request_of}
use Rattle.step.specs.Pick.{host_of, slot_of, performed, with_host, room_at_all, added_all, out_all, carried_out, acting, process_step, pick_of}
use Rattle.step.proofs.Stores.{stored_same, tuples_same, one_more_law, newest, added_all_at}
use Rattle.rules.specs.Types.{Locality, Place, Group, Tuple, Process, Node, Action, Net, Evaluated, Answer, Picked, Request}
use Rattle.rules.specs.Rules.{process_in, instruction_in, Ends, NIL}
use Rattle.rules.specs.DemandOne.{picked_process, picked_action}
use Rattle.rules.specs.AllOrNone.{AllReceive, NoneReceives, picked_tuple, AllOrNone}
use Rattle.rules.proofs.ReadBack.{Gave, through, acted, told, seated}
use Rattle.rules.proofs.Rules.{final_0, picked_stop}
use Rattle.rules.proofs.DemandOne.{is_performed, Left, was_performed, was_ended, as_it_was, picked_left}

-- ---- the stores after an out to the set g by the process in slot k of address a, which then is p
module _
    (s : Net) (size : length s.nodes ≡ 16) (a : Locality) (k : ℕ) (p : Process) (g : Group) (t : Tuple)
    (room : (l : Locality) → member g l ≡ true → (node_at s l).stored < 16)
  where
    moved : Net
    moved = with_host s a k p

    node_is :
        (l : Locality)
        → node_at (added_all moved g t) l ≡ choose (member g l) (with_tuple (node_at moved l) t) (node_at moved l)
    unfolding moved with_host with_node
    node_is = added_all_at moved g t (length-set s.nodes a.0 _ ∙ size)

    all_receive : AllReceive s (added_all moved g t) g t
    unfolding moved
    all_receive = record {
      members = λ l m.
          let is = node_is l ∙ choose_true _ _ _ m in
          let same = stored_same s a l k p in
          let fits : (node_at moved l).stored < 16 = rw same (room l m) in
          record {
            room = room l m;
            one_more_law = ap (λ (x : Node). x.stored) is ∙ one_more_law (node_at moved l) t fits ∙ rw same;
            newest = ap (λ (x : Node). x.tuples) is ∙ newest (node_at moved l) t fits ∙ rw (same, tuples_same s a l k p);
          };
      others = λ l m.
          let is = node_is l ∙ choose_false _ _ _ m in
          record {
            same_count = ap (λ (x : Node). x.stored) is ∙ stored_same s a l k p;
            same_tuples = ap (λ (x : Node). x.tuples) is ∙ tuples_same s a l k p;
          };
    }

-- ---- a pick of an out to a set
module _ (s : Net) (b : ℕ) (g : Group) (q : Place) (shaped : Shaped s) (action : picked_action s b ≡ Action.OutAll g q) where
  done : number_of (pick_of s b).answer ≡ 0 → AllReceive s (pick_of s b).net g (picked_tuple s b)
  unfolding picked_action picked_process picked_tuple process_step request_of asked carried_out out_all room_at_all performed number_of moved
  done zero =
      let a : Locality = host_of b in
      let p : Process = picked_process s b in
      let e : Evaluated = evaluated_of a p (instruction_at s.code p.at) in
      let gave : Gave Answer.Performed (pick_of s b).net (pick_of s b) =
      record { is = λ i. record { answer = is_performed (pick_of s b).answer zero i; net = (pick_of s b).net } } in
      let acts =
      subst (λ (x : Action). Gave Answer.Performed (pick_of s b).net (acting s a (slot_of b) p e (asked a p e x))) action
      (seated final_0 s b gave).acts in
      let t = told final_0 s a (slot_of b) p e _ (Request.OutAll g q) acts in
      let act = acted final_0 s a (slot_of b) p e (Request.OutAll g q) t.rest in
      let fits = through final_0 Answer.NoRoom s _ _ (omega arith) act.rest in
      subst (λ (n : Net). AllReceive s n g (picked_tuple s b)) (ap (λ (r : Picked). r.net) fits.rest.is)
      (all_receive s shaped.nodes_are a (slot_of b) (moved_to p q) g (picked_tuple s b)
      (λ l m. ltb-true _ _ (members_at g _ fits.test l m)))

  -- it is no stop
  not_ended : (after : Net) → Ends s (host_of b) (slot_of b) after → ⊥
  unfolding picked_action picked_process process_in instruction_in
  not_ended _ (NIL h) = let z : ◌≡◌ {A = ℕ} 0 1 = cc h.acts in omega arith

  same_net : number_of (pick_of s b).answer ≢ 0 → Left s (pick_of s b) → (pick_of s b).net ≡ s
  unfolding number_of
  same_net n (was_performed e) = absurd (n (ap number_of e))
  same_net n (was_ended e) =
      absurd (not_ended _ (picked_stop s b _ (record { is = λ i. record { answer = e i; net = (pick_of s b).net } })))
  same_net n (as_it_was e) = e

  none_receives : (after : Net) → after ≡ s → NoneReceives s after
  none_receives after e = rw e (record { stores = λ l. record { same_count = refl; same_tuples = refl } })

  either :
      Dec (number_of (pick_of s b).answer ≡ 0)
      → ((number_of (pick_of s b).answer ≡ 0) × AllReceive s (pick_of s b).net g (picked_tuple s b))
      ⊎ ((number_of (pick_of s b).answer ≢ 0) × NoneReceives s (pick_of s b).net)
  either (yes zero) = inl (zero, done zero)
  either (no n) = inr (n, none_receives _ (same_net n (picked_left s b)))

pub all_or_none : AllOrNone
unfolding AllOrNone
all_or_none s b g q shaped action = either s b g q shaped action (ℕ_discrete _ 0)
