-- A pick passes through an edit of addresses that it does not concern: on the edited net it has the same answer, and the net
-- after it is the same one, edited. Assumes nothing.
use Prim.Native.Nat.{ℕ, ◌<◌}
use mathlib.Core.Path.{◌≡◌, refl, ap}
use mathlib.Core.Bool.{Bool, true, false}
use native.Mathlib.Omega.{arith}
use lib.Dec.{eqb}
use borrow.Author.Tests.{lt-ltb}
use Rattle.std.specs.Prelude.{Option, Some, None}
use Rattle.net.specs.Choice.{choose}
use Rattle.net.specs.Records.{node_at, with_node}
use Rattle.net.specs.Groups.{member}
use Rattle.net.proofs.Laws.{choose_true, both_i}
use Rattle.plans.specs.Request.{targets, is_new}
use Rattle.step.specs.Pick.{host_of, slot_of, spare_of, unchanged, performed, with_host, stopped, added, out, room_at_all, added_all, out_all}
use Rattle.step.specs.Pick.{taken, in_found, input}
use Rattle.step.specs.Pick.{read_found, read, started_in, eval, fork, unused, created_at, created, create, carried_out, acting}
use Rattle.step.specs.Pick.{process_step, slot_step, step_of}
use Rattle.step.proofs.EachMember.{room_same, all_through}
use Rattle.step.specs.Types.{Place, Group, Tuple, Process, Node, Evaluated, Answer}
use Rattle.step.specs.declared.machine.Picked.{Picked}
use Rattle.tenant.proofs.Fence.{choose_both}
use Rattle.order.specs.Types.{Locality, Net, Request}
use Rattle.order.specs.OrderRule.{process_of, meets, asks, opens}
use Rattle.order.proofs.Edits.{Edit, done, openings, format_kept, code_kept, count_is, node_kept, grow_through, put_through}
use Rattle.order.proofs.Concerns.{Concern, is_host, Covered, covered, first_among, member_in}

-- an answer and its net, edited
unfoldable pub through : {A : Locality → Type 0} → Edit A → Picked → Picked
through e r = record { answer = r.answer; net = done e r.net }

-- a pick of an address in use
hosted_step :
    (s : Net) (b : ℕ) → (host_of b).0 < s.addresses
    → step_of s b ≡ choose (eqb (spare_of b) 0) (slot_step s (host_of b) (slot_of b)) (unchanged Answer.Malformed s)
unfolding step_of
hosted_step s b h =
    ap (λ (r : Picked). choose (eqb (spare_of b) 0) r (unchanged Answer.Malformed s))
    (choose_true _ _ _ (lt-ltb (host_of b).0 s.addresses h))

module _ {A B : Locality → Type 0} (away : (l : Locality) → A l → B l → ⊥) (e : Edit A) where
  through_choose : (b : Bool) (x y : Picked) → through e (choose b x y) ≡ choose b (through e x) (through e y)
  unfolding choose
  through_choose true x y = refl
  through_choose false x y = refl

  through_unchanged : (w : Answer) (s : Net) → through e (unchanged w s) ≡ unchanged w (done e s)
  unfolding through unchanged
  through_unchanged w s = refl

  through_performed : (s : Net) → through e (performed s) ≡ performed (done e s)
  unfolding through performed
  through_performed s = refl

  same_node : (s : Net) (l : Locality) → B l → node_at (done e s) l ≡ node_at s l
  same_node = node_kept away e

  same_put : (s : Net) (l : Locality) (x : Node) → B l → done e (with_node s l x) ≡ with_node (done e s) l x
  same_put = put_through away e

  same_count : (s : Net) → openings e ≡ 0 → (done e s).addresses ≡ s.addresses
  same_count s h = let count = count_is e s in omega (arith, count)

  host_through : (s : Net) (a : Locality) (k : ℕ) (p : Process) → B a → done e (with_host s a k p) ≡ with_host (done e s) a k p
  unfolding with_host
  host_through s a k p h = simp (same_put, same_node)

  added_through : (s : Net) (l : Locality) (t : Tuple) → B l → done e (added s l t) ≡ added (done e s) l t
  unfolding added
  added_through s l t h = simp (same_put, same_node)

  -- at each member of a set of addresses in B
  module _ (g : Group) (each : (l : Locality) → member g l ≡ true → B l) where
    room_through : (s : Net) → room_at_all (done e s) g ≡ room_at_all s g
    room_through s = room_same g (done e s) s (λ l m. ap (λ (x : Node). x.stored) (same_node s l (each l m)))

    added_all_through : (s : Net) (t : Tuple) → done e (added_all s g t) ≡ added_all (done e s) g t
    added_all_through s t = all_through g t (done e) (λ s' l m. added_through s' l t (each l m)) s

  taken_through : (s : Net) (l : Locality) (i : ℕ) → B l → done e (taken s l i) ≡ taken (done e s) l i
  unfolding taken
  taken_through s l i h = simp (same_put, same_node)

  created_through :
      (s : Net) (a : Locality) (k : ℕ) (p : Process) (v : ℕ) (q : Place) → B a → B (unused s) → openings e ≡ 0
      → done e (created s a k p v q) ≡ created (done e s) a k p v q
  unfolding created created_at unused
  created_through s a k p v q h g n = simp (same_put, same_node, grow_through, format_kept, same_count)

  ruleset passing = (
    through_choose,
    through_unchanged,
    through_performed,
    host_through,
    added_through,
    taken_through,
    created_through,
    same_node,
    same_count,
    code_kept,
  )

  -- ---- each request of the process p at a in slot k
  module _ (s : Net) (a : Locality) (k : ℕ) (hosted : B a) where
    in_through :
        (l : Locality) (q : Place) (i : Option ℕ) (p : Process) → B l
        → through e (in_found s a k l q i p) ≡ in_found (done e s) a k l q i p
    unfolding in_found
    in_through l q (Some i) p h = simp passing
    in_through l q None p h = simp passing

    read_through : (q : Place) (i : Option ℕ) (p : Process) → through e (read_found s a k q i p) ≡ read_found (done e s) a k q i p
    unfolding read_found
    read_through q (Some i) p = simp passing
    read_through q None p = simp passing

    started_through :
        (l : Locality) (p copy : Process) (q : Place) (j : Option ℕ) → B l
        → through e (started_in s a k l p copy q j) ≡ started_in (done e s) a k l p copy q j
    unfolding started_in
    started_through l p copy q (Some j) h = simp passing
    started_through l p copy q None h = simp passing

    stopped_through : through e (stopped s a k) ≡ stopped (done e s) a k
    unfolding stopped through
    stopped_through = simp passing

    all_passing :
        (g : Group) (p : Process) (q : Place) (t : Tuple) → ((l : Locality) → member g l ≡ true → B l)
        → through e (out_all s a k p g q t) ≡ out_all (done e s) a k p g q t
    unfolding out_all
    all_passing g p q t each = simp (passing, room_through g each, added_all_through g each)

    done_through :
        (p : Process) (t : Evaluated) (r : Request) → Covered B s r → (is_new r ≡ true → openings e ≡ 0)
        → through e (carried_out s a k p t r) ≡ carried_out (done e s) a k p t r
    unfolding carried_out targets is_new out input read eval create fork
    done_through p t Request.Lack h n = simp passing
    done_through p t Request.Stop h n = stopped_through
    done_through p t (Request.Out l q) h n = let g : B l = h.each l (first_among l) in simp passing
    done_through p t (Request.In l q) h n = let g : B l = h.each l (first_among l) in simp (passing, in_through)
    done_through p t (Request.Read l q) h n = let g : B l = h.each l (first_among l) in simp (passing, read_through)
    done_through p t (Request.Eval l sent q) h n = let g : B l = h.each l (first_among l) in simp (passing, started_through)
    done_through p t (Request.New v q) h n =
        let g : B (unused s) = h.next refl in let m : openings e ≡ 0 = n refl in simp passing
    done_through p t (Request.Fork q r) h n = simp (passing, started_through)
    done_through p t (Request.OutAll g q) h n = all_passing g p q _ (λ l m. h.each l (member_in l g m))

    acting_through :
        (p : Process) (t : Evaluated) (r : Request) → Covered B s r → (is_new r ≡ true → openings e ≡ 0)
        → through e (acting s a k p t r) ≡ acting (done e s) a k p t r
    unfolding acting
    acting_through p t r h n = simp (passing, done_through)

  -- ---- a pick
  module _
      (s : Net) (b : ℕ) (hosted : B (host_of b)) (within : meets s b ≡ true → Covered B s (asks s b))
      (still : opens s b ≡ true → openings e ≡ 0)
    where
      slot_through :
          eqb (spare_of b) 0 ≡ true → through e (slot_step s (host_of b) (slot_of b)) ≡ slot_step (done e s) (host_of b) (slot_of b)
      unfolding slot_step process_step meets asks process_of opens
      slot_through spare =
          simp passing
          (choose_both _ _ _ _ _
          (λ busy.
          let m : meets s b ≡ true = both_i _ _ spare busy in
          acting_through s (host_of b) (slot_of b) hosted _ _ (asks s b) (within m) (λ h. still (both_i _ _ m h)))
          refl)

      pick_through : (host_of b).0 < s.addresses → through e (step_of s b) ≡ step_of (done e s) b
      pick_through used =
          let count = count_is e s in
          rw (hosted_step s b used, hosted_step (done e s) b (omega (arith, count)))
          (simp passing (choose_both _ _ _ _ _ slot_through refl))

pub step_through :
    {A : Locality → Type 0} (e : Edit A) (s : Net) (b : ℕ) → ((l : Locality) → A l → Concern s b l → ⊥)
    → (host_of b).0 < s.addresses → (opens s b ≡ true → openings e ≡ 0) → through e (step_of s b) ≡ step_of (done e s) b
step_through e s b away used still = pick_through {B = Concern s b} away e s b (is_host refl) (covered s b) still used
