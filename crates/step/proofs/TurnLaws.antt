-- One pick on the few records that it concerns (`specs/Turn.antt`, `specs/PutBack.antt`) is the pick of the definition
-- (`step_of`). Assumes nothing.
use Prim.Native.Nat.{ℕ, ◌<◌, ◌≤◌}
use mathlib.Core.Path.{◌≡◌, refl, sym, ap, ◌∙◌}
use mathlib.Core.Bool.{Bool, true, false}
use mathlib.Core.List.{List, []}
use native.Mathlib.Omega.{arith}
use native.Mathlib.Decide.{dec_lt}
use lib.Dec.{eqb, ltb}
use lib.ListN.{length, get_or, set, get_or-eq_default}
use borrow.Author.Tests.{ltb-true, lt-ltb, le-ltb}
use Rattle.net.specs.Choice.{choose, both}
use Rattle.net.specs.Records.{node_at, process_at, instruction_at, row_for, with_process, with_node, with_counts, sent_from, zero_instruction, place_of}
use Rattle.matching.specs.Matching.{evaluated_of}
use Rattle.keeping.specs.Keeping.{keeps_of}
use Rattle.plans.specs.Request.{request_of, asked, granted}
use Rattle.plans.specs.Plan.{plan_of, refusing}
use Rattle.net.proofs.Laws.{choose_true, choose_false, both_l, both_r}
use Rattle.net.proofs.ReadingLaws.{never}
use Rattle.step.specs.Types.{Locality, Place, Group, Action, Row, Process, Node, Instruction, Net, Evaluated, Answer, Request, Plan, Picked}
use Rattle.step.specs.Pick.{host_of, slot_of, spare_of, step_of, slot_step, process_step, acting, carried_out, unchanged}
use Rattle.step.specs.PutBack.{changes, put_back, host_after, count_after, targeted}
use Rattle.step.specs.Turn.{Seat, Turn, ready, refusal, met, index_in, seated, seat_of, seat_at, target_in, source_in, asking, turn_of, turn_at}
use Rattle.step.specs.Turn.{sent_within, seat_plan, turn_plan, plan_with, plan_at, sends_code, group_of}
use Rattle.net.specs.Shape.{Shaped}
use Rattle.net.proofs.Past.{past_node}
use Rattle.step.proofs.PutBack.{back, Standing, row_length, plan_in, target, source, put_back_is}

pub refusing_as : (x y : Answer) (z : Node) (plan : Plan) → x ≡ y → plan ≡ refusing x z → plan ≡ refusing y z
refusing_as x y z plan e h = h ∙ ap (λ (w : Answer). refusing w z) e

pub planned_by :
    (f : ℕ) (h a : Locality) (row : Row) (p : Process) (y : Node) (e : Evaluated) (n : ℕ) (w : Bool) (r : Request) (x : Plan) → h ≡ a
    → x ≡ plan_of f h row p y e n w r → x ≡ plan_of f a row p y e n w r
planned_by f h a row p y e n w r x d k = k ∙ ap (λ (l : Locality). plan_of f l row p y e n w r) d

-- no code is sent, so none can go beyond a row
pub nothing_sent :
    (code : List Instruction) (a : Locality) (p : Process) (y : Node) (req : Request) (x : Bool) → x ≡ sends_code req → x ≡ false
    → true ≡ sent_within code a p y req
unfolding sends_code sent_within
nothing_sent code a p y Request.Lack x e h = refl
nothing_sent code a p y Request.Stop x e h = refl
nothing_sent code a p y (Request.Out l q) x e h = refl
nothing_sent code a p y (Request.In l q) x e h = refl
nothing_sent code a p y (Request.Read l q) x e h = refl
nothing_sent code a p y (Request.Eval l sent q) x e h = never (sym h ∙ e)
nothing_sent code a p y (Request.New v q) x e h = refl
nothing_sent code a p y (Request.Fork q q') x e h = refl
nothing_sent code a p y (Request.OutAll g q) x e h = refl

-- ---- a plan put back, node by node
module _ (s : Net) (b : ℕ) (l : Locality) (plan : Plan) (x : Bool) where
  pub put_is : (a : Locality) (host : Node) (n : ℕ) → a ≡ host_of b → x ≡ true → x ≡ changes plan.answer
      → host ≡ host_after s.format plan (slot_of b) l (get_or (set s.nodes l.0 plan.target) a.0 past_node)
      → n ≡ count_after plan.opens s.addresses
      → ◌≡◌ {A = Net} (record { format = s.format; addresses = n; length = s.length; nodes = set (set s.nodes l.0 plan.target) a.0 host; code = s.code })
      (put_back s (host_of b) (slot_of b) l plan)
  unfolding put_back targeted with_node with_counts node_at
  put_is a host n e t c h m = rw (h, m, e) (sym (choose_true _ _ _ (sym c ∙ t)))

  pub put_nothing : x ≡ false → x ≡ changes plan.answer → s ≡ put_back s (host_of b) (slot_of b) l plan
  unfolding put_back
  put_nothing f c = sym (choose_false _ _ _ (sym c ∙ f))

-- ---- the instruction that a ready pick meets
past_code : (s : Net) (a : Locality) (k : ℕ) (p : Process) → length s.code ≡ 512 → 512 ≤ p.at.0
    → process_step s a k p zero_instruction ≡ process_step s a k p (instruction_at s.code p.at)
unfolding instruction_at process_step request_of asked acting granted carried_out choose zero_instruction
past_code s a k p l h =
    ap (process_step s a k p) (sym (get_or-eq_default s.code (record { action = Action.Stop; count = 0; template = [] }) {n = p.at.0} (omega arith)))

meets : (s : Net) (a : Locality) (k b n : ℕ) (p : Process) → length s.code ≡ 512 → ready b n p ≡ true
    → process_step s a k p (met b n p (instruction_at s.code (place_of (index_in p.at))))
    ≡ process_step s a k p (instruction_at s.code p.at)
unfolding met index_in instruction_at choose both
meets s a k b n p l r =
    elim (dec_lt p.at.0 512) [
      | yes h ↦ rw (r, lt-ltb p.at.0 512 h)
      | no h ↦ rw (r, le-ltb p.at.0 512 (omega arith)) (past_code s a k p l (omega arith))
    ]

-- ---- a pick that is not ready, where `made` is what a refusal comes to
module _ (s : Net) (made : Answer → Picked) (kept : (x : Answer) → changes x ≡ false → made x ≡ unchanged x s) where
  in_order :
      (x w z : Bool) (next : Picked) → both x (both w z) ≡ false
      → made (choose x (choose w Answer.FreeSlot Answer.NotInUse) Answer.Malformed)
      ≡ choose x (choose w (choose z next (unchanged Answer.FreeSlot s)) (unchanged Answer.NotInUse s))
      (unchanged Answer.Malformed s)
  unfolding choose both changes
  in_order true true true next e = never (sym e)
  in_order true true false next e = kept Answer.FreeSlot refl
  in_order true false z next e = kept Answer.NotInUse refl
  in_order false w z next e = kept Answer.Malformed refl

refused_back :
    (s : Net) (b : ℕ) (l : Locality) (y : Node) (x : Answer) → changes x ≡ false
    → back s (host_of b) (slot_of b) l (refusing x y) ≡ unchanged x s
unfolding refusing unchanged
refused_back s b l y x e =
    ap {B = Picked} (λ (z : Net). record { answer = x; net = z })
    (sym (put_nothing s b l (refusing x y) false refl (sym e)))

-- ---- a pick that is ready
ready_step :
    (x y z : Bool) (next : Picked) (s : Net) → both x (both y z) ≡ true
    → next
    ≡ choose x (choose y (choose z next (unchanged Answer.FreeSlot s)) (unchanged Answer.NotInUse s))
    (unchanged Answer.Malformed s)
unfolding choose both
ready_step true true true next s e = refl
ready_step true true false next s e = never e
ready_step true false z next s e = never e
ready_step false y z next s e = never e

-- ---- the pick
module _ (s : Net) (b : ℕ) where
  unfoldable pub p : Process
  p = process_at (node_at s (host_of b)) (slot_of b)

  -- past the last address no slot is busy
  low : Shaped s → p.busy ≡ true → (host_of b).0 < 16
  unfolding p node_at process_at
  low shaped busy =
      elim (dec_lt (host_of b).0 16) [
        | yes h ↦ h
        | no h ↦ never (ap (λ (x : Node). (process_at x (slot_of b)).busy)
            (sym (get_or-eq_default s.nodes past_node {n = (host_of b).0} (omega (arith, shaped.nodes_are)))) ∙ busy)
      ]

  standing : Shaped s → ready b s.addresses p ≡ true → Standing s (host_of b) (slot_of b)
  unfolding ready p
  standing shaped r =
      let rest = both_r (eqb (spare_of b) 0) _ r in
      let busy = both_r (ltb (host_of b).0 s.addresses) _ rest in
      record {
        size = shaped.nodes_are;
        rights = row_length _ (shaped.each_node (host_of b) (low shaped busy));
        low = low shaped busy;
        used = ltb-true _ _ (both_l _ _ rest);
        busy = busy;
      }

  -- what `made` makes of the plan of its turn is the pick, if it is what the request comes to where the pick is ready
  module _
      (made : Plan → Picked) (y : Node) (within : Bool)
      (kept : (x : Answer) → changes x ≡ false → made (refusing x y) ≡ unchanged x s)
    where
      unfoldable pub Does : Type 0
      Does =
          ready b s.addresses p ≡ true
          → made
          (plan_of s.format (host_of b) (row_for (node_at s (host_of b)) p) p y (turn_at s b).template s.addresses within
          (turn_at s b).request)
          ≡ acting s (host_of b) (slot_of b) p (turn_at s b).template (turn_at s b).request

      made_if : (x : Bool) → x ≡ ready b s.addresses p → Shaped s → Does → made (turn_plan (turn_at s b) y within) ≡ step_of s b
      unfolding Does ready refusal step_of slot_step process_step p turn_plan seat_plan turn_at turn_of asking seat_at seat_of seated
      made_if true q shaped does =
          ap made (choose_true _ _ _ (sym q))
          ∙ does (sym q)
          ∙ meets s (host_of b) (slot_of b) b s.addresses p shaped.code_is (sym q)
          ∙ ready_step _ _ _ _ s (sym q)
      made_if false q shaped does =
          ap made (choose_false _ _ _ (sym q)) ∙ in_order s (λ x. made (refusing x y)) kept _ _ _ _ (sym q)

      pub made_by : Shaped s → Does → made (turn_plan (turn_at s b) y within) ≡ step_of s b
      made_by = made_if _ refl

  -- of the turn, the plan and the net that the code has, where the turn's set is empty
  pub turn_is :
      (turn : Turn) (plan : Plan) (after : Net) → Shaped s → turn ≡ turn_at s b → turn.group.0 ≡ 0 → plan ≡ plan_at s turn
      → after ≡ put_back s (host_of b) (slot_of b) turn.target plan
      → ◌≡◌ {A = Picked} (record { answer = plan.answer; net = after }) (step_of s b)
  unfolding Does plan_in target source plan_at plan_with turn_at turn_of asking seat_at seat_of seated p
  turn_is turn plan after shaped ht none hp hn =
      ap {B = Picked} (λ (z : Net). record { answer = plan.answer; net = z }) hn
      ∙ ap (back s (host_of b) (slot_of b) turn.target) hp
      ∙ ap (λ (t : Turn). back s (host_of b) (slot_of b) t.target (plan_at s t)) ht
      ∙ made_by (back s (host_of b) (slot_of b) (turn_at s b).target) _ _ (refused_back s b _ _) shaped
      (λ r. put_back_is s (host_of b) (slot_of b) (standing shaped r) p (turn_at s b).template (turn_at s b).request
      (sym (ap (λ (t : Turn). t.group.0) ht) ∙ none))

-- ---- straight lines: each value is what its call promises
pub seat_as :
    (b f n : ℕ) (x : Node) (k : ℕ) (row : Row) (i : ℕ)
    → k ≡ slot_of b
    → row ≡ row_for x (process_at x k)
    → i ≡ index_in (process_at x k).at
    → ◌≡◌ {A = Seat} (record { pick = b; format = f; addresses = n; process = process_at x k; row = row; index = i })
    (seat_of b f n x)
unfolding seat_of seated
seat_as b f n x k row i h r d = rw (r, d, h)

pub turned_as :
    (z : Seat) (c m : Instruction) (host target source : Locality) (req : Request) (e : Evaluated) (x : Bool) (g : Group)
    → host ≡ host_of z.pick
    → m ≡ met z.pick z.addresses z.process c
    → req ≡ request_of host z.process m
    → e ≡ evaluated_of host z.process m
    → target ≡ target_in host z.addresses req
    → source ≡ source_in host req
    → x ≡ sends_code req
    → g ≡ group_of req
    → ◌≡◌ {A = Turn}
    (record { seat = z; request = req; template = e; target = target; source = source; sends = x; group = g })
    (turn_of z c)
unfolding turn_of asking
turned_as z c m host target source req e x g a d r t l o y u = rw (u, y, o, l, t, r, a, d)

pub slot_as : (x y : Node) (p : Process) (k j : ℕ) → k ≡ j → y ≡ with_process x k p → y ≡ with_process x j p
slot_as x y p k j e h = h ∙ ap (λ (i : ℕ). with_process x i p) e

pub low_as : (a l : Locality) → a.0 < 16 → (a.0 < 16 → l.0 < 16) → l.0 < 16
low_as a l h f = f h

pub turn_at_law :
    (s : Net) (b : ℕ) (a : Locality) (seat : Seat) (turn : Turn)
    → a ≡ host_of b
    → seat ≡ seat_of b s.format s.addresses (node_at s a)
    → turn ≡ turn_of seat (instruction_at s.code (place_of seat.index))
    → turn ≡ turn_at s b
unfolding turn_at seat_at
turn_at_law s b a seat turn ha hs ht =
    ht
    ∙ ap (λ (z : Seat). turn_of z (instruction_at s.code (place_of z.index)))
    (hs ∙ ap (λ (x : Locality). seat_of b s.format s.addresses (node_at s x)) ha)

-- sent code, judged by the row of the process that would start
pub within_as : (code : List Instruction) (a : Locality) (p r : Process) (y : Node) (l : Locality) (sent : Place) (row : Row) (x : Bool)
    → r ≡ sent_from a p sent → row ≡ row_for y r → x ≡ keeps_of code sent l row → x ≡ keeps_of code sent l (row_for y (sent_from a p sent))
within_as code a p r y l sent row x e b d = d ∙ ap (keeps_of code sent l) (b ∙ ap (row_for y) e)

-- a turn that sends no code has the plan by which none is judged
pub unsent_as :
    (s : Net) (b : ℕ) (turn : Turn) (plan : Plan) → turn ≡ turn_at s b → turn.sends ≡ false
    → plan ≡ turn_plan turn (node_at s turn.source) true → plan ≡ plan_at s turn
unfolding plan_at plan_with turn_at turn_of asking
unsent_as s b turn plan e h d =
    d
    ∙ ap (turn_plan turn (node_at s turn.source))
    (nothing_sent s.code (host_of turn.seat.pick) turn.seat.process (node_at s turn.source) turn.request turn.sends
    (rw e refl) h)

pub drawn_as :
    (code : List Instruction) (turn : Turn) (a : Locality) (y : Node) (within : Bool) (plan : Plan) → a ≡ host_of turn.seat.pick
    → within ≡ sent_within code a turn.seat.process y turn.request → plan ≡ turn_plan turn y within → plan ≡ plan_with code turn y
unfolding plan_with
drawn_as code turn a y within plan e w d =
    d ∙ ap (turn_plan turn y) (w ∙ ap (λ (x : Locality). sent_within code x turn.seat.process y turn.request) e)
