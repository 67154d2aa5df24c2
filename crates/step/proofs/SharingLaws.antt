-- An out to a set, made on all nodes of the net (`specs/Sharing.antt`), is the pick of the definition (`step_of`).
-- Assumes nothing.
use Prim.Native.Nat.{ℕ, zero, suc, ◌+◌, ◌≤◌}
use mathlib.Core.Path.{◌≡◌, refl, ap, ◌∙◌}
use mathlib.Core.Bool.{Bool, true, false}
use mathlib.Core.List.{List}
use lib.ListN.{set}
use lib.Seq.{set-get_or}
use Rattle.net.specs.Choice.{choose, fold}
use Rattle.net.specs.Records.{address_of, marked, node_at, row_for, with_node, with_process, with_tuple, put_in}
use Rattle.net.specs.Shape.{Shaped}
use Rattle.net.specs.Groups.{member}
use Rattle.net.proofs.FoldLaws.{fold_more, fold_end}
use Rattle.plans.specs.Additions.{tuple_of}
use Rattle.plans.specs.Request.{granted}
use Rattle.plans.specs.Plan.{going, refusing, all_plan, granted_plan, plan_of}
use Rattle.step.specs.Types.{Locality, Group, Tuple, Process, Node, Net, Evaluated, Answer, Request, Plan, Picked}
use Rattle.step.specs.Pick.{host_of, slot_of, unchanged, performed, with_host, added, room_at_all, added_all, out_all}
use Rattle.step.specs.Pick.{carried_out, acting, step_of}
use Rattle.step.specs.PutBack.{changes}
use Rattle.step.specs.Turn.{Turn, group_of, no_group, turn_plan, asking, turn_of, seated, seat_of, seat_at, turn_at}
use Rattle.step.specs.Sharing.{Shared, node_in, room_in, given_below, share_plan, shared_by, shared_of, with_nodes, shared_at}
use Rattle.step.proofs.PutBack.{chosen}
use Rattle.step.proofs.TurnLaws.{p, Does, made_by}

-- ---- the nodes by themselves, and in the net
fold_as :
    {A B : Type 0} (h : A → B) (f : ℕ → A → A) (g : ℕ → B → B) → ((i : ℕ) (x : A) → h (f i x) ≡ g i (h x)) → (n : ℕ) (x : A)
    → h (fold n f x) ≡ fold n g (h x)
unfolding fold
fold_as h f g e zero x = refl
fold_as h f g e (suc n) x = e n (fold n f x) ∙ ap (g n) (fold_as h f g e n x)

module _ (s : Net) where
  given_at_law :
      (t : Tuple) (i : ℕ) (ys : List Node) (m : Bool)
      → with_nodes s (set ys i (choose m (with_tuple (node_in ys i) t) (node_in ys i)))
      ≡ choose m (added (with_nodes s ys) (address_of i) t) (with_nodes s ys)
  unfolding with_nodes node_in added node_at with_node choose
  given_at_law t i ys true = refl
  given_at_law t i ys false = ap (with_nodes s) (set-get_or ys i _)

  given_is : (xs : List Node) (g : Group) (t : Tuple) → with_nodes s (given_below 16 xs g t) ≡ added_all (with_nodes s xs) g t
  unfolding given_below added_all
  given_is xs g t = fold_as (with_nodes s) _ _ (λ i ys. given_at_law t i ys (member g (address_of i))) 16 xs

  chosen_nodes : (b : Bool) (xs : List Node) (s' : Net) → with_nodes s xs ≡ s' → with_nodes s (choose b xs s.nodes) ≡ choose b s' s
  unfolding choose with_nodes
  chosen_nodes true xs s' e = e
  chosen_nodes false xs s' e = refl

-- ---- what a plan comes to, of an out of the tuple t to the set g by the process in slot k of a
module _ (s : Net) (a : Locality) (k : ℕ) where
  all_back : Group → Tuple → Plan → Picked
  all_back g t plan = record {
    answer = plan.answer;
    net = choose (changes plan.answer) (added_all (with_host s a k plan.process) g t) s;
  }

  all_kept : (g : Group) (t : Tuple) (y : Node) (x : Answer) → changes x ≡ false → all_back g t (refusing x y) ≡ unchanged x s
  unfolding all_back refusing unchanged choose
  all_kept g t y x e = rw e

  module _ (p : Process) (y : Node) (e : Evaluated) where
    all_acts :
        (req : Request) → ((group_of req).0 ≡ 0 → ⊥)
        → all_back (group_of req) (marked a (tuple_of e))
        (plan_of s.format a (row_for (node_at s a) p) p y e s.addresses (room_at_all s (group_of req)) req)
        ≡ acting s a k p e req
    unfolding group_of no_group all_back plan_of granted_plan all_plan going acting carried_out out_all performed changes choose
    all_acts Request.Lack n = absurd (n refl)
    all_acts Request.Stop n = absurd (n refl)
    all_acts (Request.Out l q) n = absurd (n refl)
    all_acts (Request.In l q) n = absurd (n refl)
    all_acts (Request.Read l q) n = absurd (n refl)
    all_acts (Request.Eval l sent q) n = absurd (n refl)
    all_acts (Request.New v q) n = absurd (n refl)
    all_acts (Request.Fork q r) n = absurd (n refl)
    all_acts (Request.OutAll g q) n =
        chosen (all_back g _) (granted (row_for (node_at s a) p) (Request.OutAll g q)) _ _ _ _
        (chosen (all_back g _) (room_at_all s g) _ _ _ _ refl (all_kept g _ y Answer.NoRoom refl))
        (all_kept g _ y Answer.NoRight refl)

-- the same on the nodes
in_net :
    (s : Net) (t : Turn)
    → shared_at s (shared_of s.nodes t)
    ≡ all_back s (host_of t.seat.pick) (slot_of t.seat.pick) t.group
    (marked (host_of t.seat.pick) (tuple_of t.template))
    (turn_plan t (node_at s (host_of t.seat.pick)) (room_at_all s t.group))
unfolding shared_at shared_of share_plan shared_by all_back room_in room_at_all node_in node_at with_host with_node with_nodes
in_net s t =
    ap {B = Picked} (λ (z : Net). record { answer = (share_plan s.nodes t).answer; net = z })
    (chosen_nodes s (changes (share_plan s.nodes t).answer) _ _ (given_is s _ t.group _))

-- ---- the turn that the code has, where its set is not empty
pub share_is :
    (s : Net) (b : ℕ) (turn : Turn) (r : Picked) → Shaped s → turn ≡ turn_at s b → (turn.group.0 ≡ 0 → ⊥)
    → r ≡ shared_at s (shared_of s.nodes turn) → r ≡ step_of s b
unfolding Does turn_at turn_of asking seat_at seat_of seated
share_is s b turn r shaped ht some hr =
    hr
    ∙ ap (λ (t : Turn). shared_at s (shared_of s.nodes t)) ht
    ∙ in_net s (turn_at s b)
    ∙ made_by s b (all_back s (host_of b) (slot_of b) (turn_at s b).group _) _ _ (all_kept s _ _ _ _ _) shaped
    (λ _. all_acts s (host_of b) (slot_of b) (p s b) _ (turn_at s b).template (turn_at s b).request
    (λ e. some (ap (λ (t : Turn). t.group.0) ht ∙ e)))

-- ---- straight lines: each value is what its call promises
pub shared_net :
    (s : Net) (t : Turn) (r : Shared) → r ≡ shared_of s.nodes t
    → ◌≡◌ {A = Picked}
    (record {
      answer = r.answer;
      net = record { format = s.format; addresses = s.addresses; length = s.length; nodes = r.nodes; code = s.code };
    })
    (shared_at s (shared_of s.nodes t))
unfolding shared_at with_nodes
shared_net s t r e = ap (shared_at s) e

module _ (xs₀ : List Node) (g : Group) (t : Tuple) where
  pub given_none : xs₀ ≡ given_below 0 xs₀ g t
  unfolding given_below fold
  given_none = refl

  pub given_more :
      (i : ℕ) (xs : List Node) (x : Node) → xs ≡ given_below i xs₀ g t
      → x ≡ choose (member g (address_of i)) (with_tuple (node_in xs i) t) (node_in xs i)
      → set xs i x ≡ given_below (i + 1) xs₀ g t
  unfolding given_below
  given_more i xs x h e = fold_more _ xs₀ i xs (set xs i x) h (ap (set xs i) e)

  pub given_all : (i : ℕ) (xs : List Node) → xs ≡ given_below i xs₀ g t → i ≤ 16 → 16 ≤ i → xs ≡ given_below 16 xs₀ g t
  unfolding given_below
  given_all i xs h l e = fold_end _ xs₀ i 16 xs h l e

module _ (xs : List Node) (t : Turn) (host : Locality) (is : host ≡ host_of t.seat.pick) where
  pub shared_as :
      (p : Process) (k : ℕ) (x : Node) (m : Tuple) (ys : List Node) → k ≡ slot_of t.seat.pick
      → x ≡ with_process (node_in xs host.0) k p → m ≡ marked host (tuple_of t.template)
      → ys ≡ given_below 16 (set xs host.0 x) t.group m → ys ≡ shared_by xs t p
  unfolding shared_by
  shared_as p k x m ys hk hx hm h = h ∙ rw (hx, hm, hk, is)

  module _ (room : Bool) (plan : Plan) (seen : room ≡ room_in xs t.group) (drawn : plan ≡ turn_plan t (node_in xs host.0) room) where
    plan_is : plan ≡ share_plan xs t
    unfolding share_plan
    plan_is = drawn ∙ rw (seen, is)

    pub share_as :
        (ys : List Node) → ys ≡ choose (changes plan.answer) (shared_by xs t plan.process) xs
        → ◌≡◌ {A = Shared} (record { answer = plan.answer; nodes = ys }) (shared_of xs t)
    unfolding shared_of
    share_as ys e =
        ap {B = Shared} (λ (zs : List Node). record { answer = plan.answer; nodes = zs }) e
        ∙ ap (λ (z : Plan). record { answer = z.answer; nodes = choose (changes z.answer) (shared_by xs t z.process) xs }) plan_is
