-- In format 1 nothing rests on an origin: on a net whose origins are forgotten a pick has the same answer, and the nets after it
-- are equal once their origins are forgotten. Assumes nothing.
use Prim.Native.Nat.{ℕ, ◌<◌}
use mathlib.Core.Path.{◌≡◌, refl, sym, ap, ◌∙◌}
use mathlib.Core.Bool.{Bool, true, false}
use native.Mathlib.Omega.{arith}
use lib.Dec.{eqb}
use borrow.Author.Tests.{ltb-true}
use Rattle.std.specs.Prelude.{Option, Some, None}
use Rattle.net.specs.Choice.{choose}
use Rattle.net.specs.Records.{node_at, process_at}
use Rattle.step.specs.Pick.{host_of, slot_of, spare_of, unchanged, with_host, stopped, added, out, room_at_all, added_all, out_all, taken}
use Rattle.step.specs.Pick.{in_found, input}
use Rattle.step.specs.Pick.{read_found, read, started_in, eval, fork, unused, created_at, created, create, carried_out, acting}
use Rattle.step.specs.Pick.{process_step, slot_step, step_of}
use Rattle.step.proofs.EachMember.{room_same, all_through}
use Rattle.step.specs.Types.{Place, Group, Tuple, Evaluated, Request, Answer}
use Rattle.step.specs.declared.machine.Picked.{Picked}
use Rattle.origins.specs.Types.{Locality, Process, Node, Net}
use Rattle.origins.proofs.Forgetting.{forget_process, forget, process_twice, forget_twice, forget_busy}
use Rattle.origins.proofs.Forgetting.{forget_place, forget_moved, forget_variable, forget_copied, forget_sent}
use Rattle.origins.proofs.Forgetting.{forget_free, forget_row_for, forget_stored, process_at_law, forget_slot}
use Rattle.origins.proofs.Forgetting.{forget_with_rows, forget_with_process, forget_with_tuple, forget_without}
use Rattle.origins.proofs.Forgetting.{forget_zero, forget_format, forget_addresses, forget_code, node_at_law, forget_with_node}
use Rattle.origins.proofs.Forgetting.{forget_opened, seen, seen_choose, seen_unchanged, seen_performed}
use Rattle.origins.proofs.Matching.{evaluated_same, request_same, found_same, matched_forget}
use Rattle.origins.proofs.OneRow.{OneRow, row_only, row_sent, row_forgotten, creator_alike, opened_alike}

-- ---- changes of a net
host_forget :
    (s : Net) (a : Locality) (k : ℕ) (p : Process) → forget (with_host s a k p) ≡ with_host (forget s) a k (forget_process p)
unfolding with_host
host_forget s a k p = simp (forget_with_node, forget_with_process, node_at_law)

added_forget : (s : Net) (l : Locality) (t : Tuple) → forget (added s l t) ≡ added (forget s) l t
unfolding added
added_forget s l t = simp (forget_with_node, forget_with_tuple, node_at_law)

room_forget : (s : Net) (g : Group) → room_at_all (forget s) g ≡ room_at_all s g
room_forget s g = room_same g (forget s) s (λ l _. ap (λ (x : Node). x.stored) (node_at_law s l) ∙ forget_stored (node_at s l))

added_all_forget : (s : Net) (g : Group) (t : Tuple) → forget (added_all s g t) ≡ added_all (forget s) g t
added_all_forget s g t = all_through g t forget (λ s' l _. added_forget s' l t) s

taken_forget : (s : Net) (l : Locality) (i : ℕ) → forget (taken s l i) ≡ taken (forget s) l i
unfolding taken
taken_forget s l i = simp (forget_with_node, forget_without, node_at_law)

created_forget :
    (s : Net) (a : Locality) (k : ℕ) (p : Process) (v : ℕ) (q : Place) → OneRow s → p.origin.0 < 16
    → forget (created s a k p v q) ≡ created (forget s) a k (forget_process p) v q
unfolding created created_at unused
created_forget s a k p v q one low =
    let f = one.format_is in
    simp (
      forget_with_node,
      forget_with_rows,
      forget_with_process,
      forget_moved,
      forget_variable,
      forget_opened,
      forget_zero,
      forget_format,
      forget_addresses,
      node_at_law,
      creator_alike,
      opened_alike,
      forget_row_for,
      row_forgotten,
      row_only,
    )

created_twice :
    (s : Net) (a : Locality) (k : ℕ) (p : Process) (v : ℕ) (q : Place) → OneRow s → p.origin.0 < 16
    → forget (created (forget s) a k (forget_process p) v q) ≡ created (forget s) a k (forget_process p) v q
created_twice s a k p v q one low =
    let e = created_forget s a k p v q one low in
    ap forget (sym e) ∙ forget_twice _ ∙ e

-- how forgetting passes inward
ruleset inward = (
  seen_choose,
  seen_unchanged,
  seen_performed,
  host_forget,
  added_forget,
  room_forget,
  added_all_forget,
  taken_forget,
  created_forget,
  created_twice,
  process_twice,
  forget_twice,
  forget_busy,
  forget_place,
  forget_moved,
  forget_copied,
  forget_sent,
  forget_free,
  forget_row_for,
  forget_stored,
  forget_slot,
  forget_addresses,
  forget_code,
  row_forgotten,
  row_sent,
  row_only,
  process_at_law,
  node_at_law,
  evaluated_same,
  request_same,
  found_same,
  matched_forget,
)

-- ---- each request of the process p at a in slot k
module _ (s : Net) (a : Locality) (k : ℕ) where
  in_forget :
      (l : Locality) (q : Place) (i : Option ℕ) (p : Process)
      → seen (in_found (forget s) a k l q i (forget_process p)) ≡ seen (in_found s a k l q i p)
  unfolding in_found
  in_forget l q (Some i) p = simp inward
  in_forget l q None p = simp inward

  read_forget :
      (q : Place) (i : Option ℕ) (p : Process)
      → seen (read_found (forget s) a k q i (forget_process p)) ≡ seen (read_found s a k q i p)
  unfolding read_found
  read_forget q (Some i) p = simp inward
  read_forget q None p = simp inward

  -- the copy's origin is forgotten too, whoever sent it
  started_forget :
      (l : Locality) (p copy : Process) (q : Place) (j : Option ℕ)
      → seen (started_in s a k l p copy q j) ≡ started_in (forget s) a k l (forget_process p) (forget_process copy) q j
  unfolding started_in
  started_forget l p copy q (Some j) = simp inward
  started_forget l p copy q None = simp inward

  stopped_forget : seen (stopped (forget s) a k) ≡ seen (stopped s a k)
  unfolding stopped seen
  stopped_forget = simp inward

module _ (s : Net) (one : OneRow s) (a : Locality) (here : a.0 < 16) (k : ℕ) where
  module _ (p : Process) (low : p.origin.0 < 16) (e : Evaluated) where
    done_forget : (r : Request) → seen (carried_out (forget s) a k (forget_process p) e r) ≡ seen (carried_out s a k p e r)
    unfolding carried_out out out_all input read eval create fork
    done_forget Request.Lack = simp inward
    done_forget Request.Stop = stopped_forget s a k
    done_forget (Request.Out l q) = simp inward
    done_forget (Request.In l q) = simp (inward, in_forget)
    done_forget (Request.Read l q) = simp (inward, read_forget)
    done_forget (Request.Eval l sent q) = simp (inward, started_forget)
    done_forget (Request.New v q) = simp inward
    done_forget (Request.Fork q r) = simp (inward, started_forget)
    done_forget (Request.OutAll g q) = simp inward

    acting_forget : (r : Request) → seen (acting (forget s) a k (forget_process p) e r) ≡ seen (acting s a k p e r)
    unfolding acting
    acting_forget r = simp (inward, done_forget)

  slot_forget : seen (slot_step (forget s) a k) ≡ seen (slot_step s a k)
  unfolding slot_step process_step
  slot_forget =
      let p : Process = process_at (node_at s a) k in
      simp (inward, acting_forget p ((one.nodes a).low k))

-- ---- a pick
choose_under : {A : Type 0} (b : Bool) (x x' y : A) → (b ≡ true → x ≡ x') → choose b x y ≡ choose b x' y
unfolding choose
choose_under true x x' y f = f refl
choose_under false x x' y f = refl

pub step_forget : (s : Net) (b : ℕ) → OneRow s → seen (step_of (forget s) b) ≡ seen (step_of s b)
unfolding step_of
step_forget s b one =
    simp inward
    (ap (λ (r : Picked). choose (eqb (spare_of b) 0) r (unchanged Answer.Malformed (forget s)))
    (choose_under _ _ _ _
    (λ e. slot_forget s one (host_of b) (omega (arith, ltb-true (host_of b).0 s.addresses e, one.few)) (slot_of b))))

-- two nets that are equal once their origins are forgotten
pub step_same : (s t : Net) (b : ℕ) → OneRow s → OneRow t → forget s ≡ forget t → seen (step_of s b) ≡ seen (step_of t b)
step_same s t b one one' e = sym (step_forget s b one) ∙ ap (λ (u : Net). seen (step_of u b)) e ∙ step_forget t b one'
