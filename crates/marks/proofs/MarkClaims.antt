-- The claim of `specs/MarkClaims.antt`: a pick performs a step that a rule of `rules` allows, or ends its process, or leaves
-- the net as it was; what each does to the tuples is said in `Nodes.antt`.
-- Assumes nothing.
use Prim.Native.Nat.{ℕ, ◌<◌}
use mathlib.Core.Path.{◌≡◌, refl, sym, ap, subst, ◌∙◌}
use mathlib.Core.Logic.{◌⊎◌, inl, inr}
use mathlib.Core.Bool.{Bool, true, false}
use native.Mathlib.Omega.{arith}
use lib.ListN.{length}
use Rattle.std.specs.Prelude.{Some}
use Rattle.net.specs.Records.{node_at, tuple_at}
use Rattle.net.specs.declared.locality.Group.{Group}
use Rattle.net.specs.Groups.{member}
use Rattle.sound.proofs.NetFacts.{NetOk, net_sound}
use Rattle.sound.proofs.NetChanges.{node_at_law}
use Rattle.plans.specs.Answer.{number_of}
use Rattle.plans.specs.Request.{target_of}
use Rattle.plans.specs.Additions.{tuple_of}
use Rattle.step.specs.Pick.{host_of, slot_of, pick_of}
use Rattle.rules.specs.Types.{Answer, Row}
use Rattle.rules.specs.Rules.{process_in, instruction_in, template_in, Stands}
use Rattle.rules.specs.Rules.{Reduces, OUT, IN, READ, EVAL, NEW, FORK, OUT_ALL, Ends, NIL, StepIsPick, StopIsPick}
use Rattle.rules.specs.DemandOne.{Held, out_held, picked_process, picked_action, OnlyWithRight}
use Rattle.rules.proofs.DemandOne.{Left, was_performed, was_ended, as_it_was, is_performed, picked_left, only_with_right}
use Rattle.rules.proofs.Rules.{step_is_pick, stop_is_pick}
use Rattle.marks.specs.Types.{Locality, Place, Process, Node, Target, Action, Net}
use Rattle.marks.specs.MarkClaims.{values_of, PutsAt, by_out, by_out_all, Added, StandsAt, MarkIsTrue}
use Rattle.marks.proofs.Nodes.{Stood, PutOr, stays, host_stood, hosts_stood, in_stood, created_stood}
use Rattle.marks.proofs.Nodes.{out_added, out_or, all_added, all_or, passed_stood}
use Rattle.marks.proofs.Starts.{own_marks_law, comes_ok}

-- ---- a net's arrays
module _ (s : Net) (ok : NetOk s) (l : Locality) (h : l.0 < s.addresses) where
  node_in_law : l.0 < length s.nodes
  node_in_law = omega (arith, ok.addresses_most, ok.nodes_ok.size_is)

  size : length (node_at s l).tuples ≡ 16
  size = (node_at_law s ok l h).tuples_ok.size_is

-- ---- the step of an out, to its target
record OutStep (s : Net) (a : Locality) (k : ℕ) (t : Target) (after : Net) : Type 0 where
  l : Locality
  points : target_of a (process_in s a k) t ≡ Some l
  adds : Added (tuple_of (template_in s a k)) a (node_at s l) (node_at after l)

same_target : (t u : Target) (q r : Place) → Action.Out u r ≡ Action.Out t q → u ≡ t
same_target t u q r e = cc

same_address : (l m : Locality) → Some m ≡ Some l → m ≡ l
same_address l m e = cc

same_group : (g h : Group) (q r : Place) → Action.OutAll h r ≡ Action.OutAll g q → h ≡ g
same_group g h q r e = cc

module _ (s : Net) (a : Locality) (k : ℕ) where
  -- no other action stands where y does
  no_other :
      {C : Type 0} (y : Action) → (instruction_in s a k).action ≡ y → (x : Action) → Stands s a k x
      → (x ≡ y → ◌≡◌ {A = ℕ} 0 1) → C
  no_other y e x h f = let z = f (sym h.acts ∙ e) in absurd (omega arith)

  module _ (t : Target) (q : Place) (e : (instruction_in s a k).action ≡ Action.Out t q) where
    out_step : NetOk s → (after : Net) → Reduces s a k after → OutStep s a k t after
    out_step ok _ (OUT {t = u} {q = r} {l = l} h p d g room) =
        let same = same_target t u q r (sym h.acts ∙ e) in
        record {
          l = l;
          points = subst (λ (x : Target). target_of a (process_in s a k) x ≡ Some l) same p.points;
          adds = out_added s a k _ l _ (size s ok l p.exists) room (node_in_law s ok l p.exists);
        }
    out_step ok _ (IN h p d g o) = no_other _ e _ h (λ w. cc w)
    out_step ok _ (READ h p d g o) = no_other _ e _ h (λ w. cc w)
    out_step ok _ (EVAL h p g within f) = no_other _ e _ h (λ w. cc w)
    out_step ok _ (NEW h g room) = no_other _ e _ h (λ w. cc w)
    out_step ok _ (FORK h f) = no_other _ e _ h (λ w. cc w)
    out_step ok _ (OUT_ALL h d used r room) = no_other _ e _ h (λ w. cc w)

  -- the step of an out to a set, at a member
  module _ (g : Group) (q : Place) (e : (instruction_in s a k).action ≡ Action.OutAll g q) (l : Locality) (m : member g l ≡ true) where
    all_step :
        NetOk s → (after : Net) → Reduces s a k after
        → Added (tuple_of (template_in s a k)) a (node_at s l) (node_at after l)
    all_step ok _ (OUT h p d r room) = no_other _ e _ h (λ w. cc w)
    all_step ok _ (IN h p d r o) = no_other _ e _ h (λ w. cc w)
    all_step ok _ (READ h p d r o) = no_other _ e _ h (λ w. cc w)
    all_step ok _ (EVAL h p r within f) = no_other _ e _ h (λ w. cc w)
    all_step ok _ (NEW h r room) = no_other _ e _ h (λ w. cc w)
    all_step ok _ (FORK h f) = no_other _ e _ h (λ w. cc w)
    all_step ok _ (OUT_ALL {g = f} {q = r} h d used held room) =
        let in_it : member f l ≡ true = ap (λ (x : Group). member x l) (same_group g f q r (sym h.acts ∙ e)) ∙ m in
        all_added s a k _ l _ (size s ok l (used l in_it)) (room l in_it) f in_it ok.nodes_ok.size_is

-- the right that it has is one at its target
held_points :
    (row : Row) (a : Locality) (p : Process) (t : Target) (q : Place) → Held row a p (Action.Out t q)
    → (l : Locality) × (target_of a p t ≡ Some l)
held_points row a p t q (out_held {l = l} points g) = (l, points)

out_points :
    (s : Net) (b : ℕ) (t : Target) (q : Place) → number_of (pick_of s b).answer ≡ 0 → picked_action s b ≡ Action.Out t q
    → (l : Locality) × (target_of (host_of b) (picked_process s b) t ≡ Some l)
unfolding OnlyWithRight
out_points s b t q h e = held_points _ _ _ t q (subst (Held _ _ _) e (only_with_right s b h))

by_member : {C : Type 0} (x : Bool) → (x ≡ true → C) → (x ≡ false → C) → C
by_member true f g = f refl
by_member false f g = g refl

-- ---- what stands at c after the pick b: put by it, or there before
record PutOrStood (s : Net) (b : ℕ) (c : Locality) (y : Node) : Type 0 where
  each : (i : ℕ) → i < y.stored → (PutsAt s b c × (i ≡ (node_at s c).stored)) ⊎ StandsAt (node_at s c) (tuple_at y i)

module _ (s : Net) (b : ℕ) (c : Locality) (y : Node) where
  stood : Stood (node_at s c) y → PutOrStood s b c y
  stood h = record { each = λ i l. inr (h.each i l) }

  put : (l : Locality) → PutsAt s b l → PutOr s l c y → PutOrStood s b c y
  put l puts h = record {
    each = λ i g.
        elim (h.each i g) [
          | inl there ↦ inl (subst (PutsAt s b) there.0 puts, there.1)
          | inr stands ↦ inr stands
        ];
  }

-- ---- a pick
module _ (s : Net) (ok : NetOk s) (b : ℕ) where
  step : number_of (pick_of s b).answer ≡ 0 → Reduces s (host_of b) (slot_of b) (pick_of s b).net
  unfolding StepIsPick
  step h =
      ((step_is_pick s (net_sound s ok) b (pick_of s b).net).0
      (λ i. record { answer = is_performed (pick_of s b).answer h i; net = (pick_of s b).net })).2

  end : (pick_of s b).answer ≡ Answer.Ended → Ends s (host_of b) (slot_of b) (pick_of s b).net
  unfolding StopIsPick
  end h = ((stop_is_pick s (net_sound s ok) b (pick_of s b).net).0 (λ i. record { answer = h i; net = (pick_of s b).net })).2

  out_at :
      (t : Target) (q : Place) → number_of (pick_of s b).answer ≡ 0 → picked_action s b ≡ Action.Out t q
      → OutStep s (host_of b) (slot_of b) t (pick_of s b).net
  unfolding picked_action picked_process instruction_in process_in
  out_at t q h e = out_step s (host_of b) (slot_of b) t q e ok (pick_of s b).net (step h)

  all_at :
      (g : Group) (q : Place) → number_of (pick_of s b).answer ≡ 0 → picked_action s b ≡ Action.OutAll g q → (l : Locality)
      → member g l ≡ true → Added (tuple_of (template_in s (host_of b) (slot_of b))) (host_of b) (node_at s l) (node_at (pick_of s b).net l)
  unfolding picked_action picked_process instruction_in process_in
  all_at g q h e l m = all_step s (host_of b) (slot_of b) g q e l m ok (pick_of s b).net (step h)

  added_at : (l : Locality) → PutsAt s b l → Added (values_of s b) (host_of b) (node_at s l) (node_at (pick_of s b).net l)
  unfolding values_of picked_process process_in instruction_in template_in
  added_at l (by_out {t} {q} h e g) =
      let z = out_at t q h e in
      subst (λ (m : Locality). Added (values_of s b) (host_of b) (node_at s m) (node_at (pick_of s b).net m))
      (same_address l z.l (sym z.points ∙ g)) z.adds
  added_at l (by_out_all {g} {q} h e m) = all_at g q h e l m

  performed_or :
      number_of (pick_of s b).answer ≡ 0 → (after : Net) → Reduces s (host_of b) (slot_of b) after → (c : Locality)
      → PutOrStood s b c (node_at after c)
  unfolding picked_action picked_process instruction_in process_in
  performed_or z _ (OUT {l = l} h p d g room) c =
      put s b c _ l (by_out z h.acts p.points) (out_or s _ _ _ l _ (size s ok l p.exists) room c)
  performed_or z _ (IN {l = l} {i = i} h p d g o) c =
      stood s b c _ (in_stood s _ _ _ l i (node_at_law s ok l p.exists).room (size s ok l p.exists) c)
  performed_or z _ (READ h p d g o) c = stood s b c _ (host_stood s _ _ _ c)
  performed_or z _ (EVAL h p g within f) c = stood s b c _ (hosts_stood s _ _ _ _ _ _ c)
  performed_or z _ (NEW h g room) c = stood s b c _ (created_stood s _ _ _ _ _ c)
  performed_or z _ (FORK h f) c = stood s b c _ (hosts_stood s _ _ _ _ _ _ c)
  performed_or z _ (OUT_ALL {g = g} h d used r room) c =
      by_member (member g c)
      (λ m. put s b c _ c (by_out_all z h.acts m)
      (all_or s _ _ _ c _ (size s ok c (used c m)) (room c m) g m ok.nodes_ok.size_is))
      (λ m. stood s b c _ (passed_stood s _ _ _ g _ c ok.nodes_ok.size_is m))

  ended_or : (after : Net) → Ends s (host_of b) (slot_of b) after → (c : Locality) → PutOrStood s b c (node_at after c)
  ended_or _ (NIL h) c = stood s b c _ (host_stood s _ _ _ c)

  picked_or : (c : Locality) → PutOrStood s b c (node_at (pick_of s b).net c)
  unfolding number_of
  picked_or c = go (picked_left s b)
    where
      go : Left s (pick_of s b) → PutOrStood s b c (node_at (pick_of s b).net c)
      go (was_performed e) = let z = ap number_of e in performed_or z _ (step z) c
      go (was_ended e) = ended_or _ (end e) c
      go (as_it_was e) =
          subst (λ (u : Net). PutOrStood s b c (node_at u c)) (sym e) (stood s b c _ (stays (node_at s c)))

pub mark_is_true : MarkIsTrue
mark_is_true = record {
  own = own_marks_law;
  aimed = out_points;
  added = λ s b l n p. added_at s (comes_ok s n) b l p;
  others = λ s b a i n h. (picked_or s (comes_ok s n) b a).each i h;
}
