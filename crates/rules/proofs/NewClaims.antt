-- The claims of `specs/NewClaims.antt`: a new that is answered 0 leaves the net of `created` (`Pick.antt` of `step`), whose rows
-- are read one by one.
-- Assumes nothing.
use Prim.Native.Nat.{ℕ, ◌<◌}
use mathlib.Core.Path.{◌≡◌, sym, ap, subst, ◌∙◌}
use mathlib.Core.Logic.{◌≢◌}
use mathlib.Core.Bool.{true, false}
use mathlib.Core.List.{List}
use native.Mathlib.Omega.{arith}
use native.Mathlib.Decide.{ℕ_discrete}
use lib.Dec.{eqb}
use lib.ListN.{length, get_or, set, length-set, get_or-replicate}
use lib.Seq.{get_or-set_same, get_or-set_other}
use borrow.Author.Tests.{ltb-true, eq-eqb, ne_eqb}
use Rattle.net.specs.Records.{process_at, node_at, row_at, row_for, zero_row, alike, with_node, with_rows, with_counts}
use Rattle.net.specs.Shape.{Shaped}
use Rattle.net.proofs.Laws.{choose_true, choose_false}
use Rattle.net.proofs.NodeLaws.{row_in_law}
use Rattle.net.proofs.Past.{past_row, past_node}
use Rattle.sound.proofs.NodeFacts.{RowsOk}
use Rattle.sound.proofs.NetFacts.{NetOk, sound_apart}
use Rattle.sound.proofs.NetChanges.{node_at_law}
use Rattle.plans.specs.Answer.{number_of}
use Rattle.plans.specs.Additions.{gaining, opened_rows, creator_rows}
use Rattle.plans.specs.Request.{asked, request_of}
use Rattle.plans.proofs.PlanLaws.{own_in_law}
use Rattle.step.specs.Pick.{host_of, slot_of, performed, opened, unused, created_at, created, create, carried_out, process_step, pick_of}
use Rattle.rules.specs.Types.{Locality, Place, Row, Process, Node, Action, Net, Answer, Picked, Request}
use Rattle.rules.specs.DemandOne.{picked_process, picked_action}
use Rattle.rules.specs.NewClaims.{OthersStay, OpenedByOrigin, OpenedAlike, NewByOrigin, NewAlike}
use Rattle.rules.proofs.ReadBack.{Gave, through, acted, seated}
use Rattle.rules.proofs.Rules.{final_0}
use Rattle.rules.proofs.DemandOne.{is_performed}

-- ---- two places of a list set anew
module _ {A : Type 0} (xs : List A) (i j : ℕ) (x y d : A) where
  second : j < length xs → get_or (set (set xs i x) j y) j d ≡ y
  second h = get_or-set_same (set xs i x) j y d (rw length-set h)

  first : i ≢ j → i < length xs → get_or (set (set xs i x) j y) i d ≡ x
  first n h = get_or-set_other (set xs i x) j i y d n ∙ get_or-set_same xs i x d h

  neither : (c : ℕ) → c ≢ i → c ≢ j → get_or (set (set xs i x) j y) c d ≡ get_or xs c d
  neither c m n = get_or-set_other (set xs i x) j c y d n ∙ get_or-set_other xs i c x d m

apart : (c d : Locality) → c ≢ d → c.0 ≢ d.0
apart c d n e = n (λ i. record { 0 = e i })

-- a row of equal rows
read : (o : Locality) (rows rows' : List Row) → rows ≡ rows' → get_or rows o.0 past_row ≡ get_or rows' o.0 past_row
read o rows rows' e = ap (λ (rs : List Row). get_or rs o.0 past_row) e

-- ---- the net after a new by the process p in slot k of address a
module _
    (s : Net) (ok : NetOk s) (a : Locality) (k : ℕ) (p : Process) (v : ℕ) (q : Place) (used : a.0 < s.addresses)
    (room : s.addresses < 16) (low : p.origin.0 < s.addresses)
  where
    after : Net
    after = created s a k p v q

    l : Locality
    l = unused s

    x : Node
    x = node_at s a

    rows_ok : RowsOk s.format s.addresses x.rows
    unfolding x
    rows_ok = (node_at_law s ok a used).rows_ok

    -- each node
    new_node : (node_at after l).rows ≡ opened_rows s.format x a p l
    unfolding after l x created created_at opened unused with_counts with_node node_at with_rows
    new_node = ap (λ (y : Node). y.rows) (second s.nodes a.0 s.addresses _ _ past_node (omega (arith, ok.nodes_ok.size_is)))

    creator_node : (node_at after a).rows ≡ creator_rows s.format x p l
    unfolding after l x created created_at opened unused with_counts with_node node_at with_rows
    creator_node =
        ap (λ (y : Node). y.rows)
        (first s.nodes a.0 s.addresses _ _ past_node (λ e. omega (arith, e)) (omega (arith, ok.nodes_ok.size_is)))

    other_node : (c : Locality) → c ≢ a → c ≢ l → node_at after c ≡ node_at s c
    unfolding after l created created_at opened unused with_counts with_node node_at
    other_node c m n = neither s.nodes a.0 s.addresses _ _ past_node c.0 (apart c a m) (apart c l n)

    others : OthersStay s after a l
    unfolding OthersStay
    others c m n = ap (λ (y : Node). y.rows) (other_node c m n)

    -- format 2
    module _ (f : eqb s.format 1 ≡ false) where
      gain : Row
      gain = gaining (row_at x a) l

      new_rows : (node_at after l).rows ≡ set (set x.rows a.0 gain) s.addresses gain
      unfolding gain l unused opened_rows
      new_rows =
          new_node ∙ choose_false _ _ _ f
          ∙ ap (λ (r : Row). set (set x.rows a.0 (gaining r l)) s.addresses (gaining r l))
          (sym (own_in_law x a (omega arith)))

      creator_rows_law : (node_at after a).rows ≡ set x.rows p.origin.0 (gaining (row_at x p.origin) l)
      unfolding creator_rows
      creator_rows_law =
          creator_node ∙ choose_false _ _ _ f
          ∙ ap (λ (r : Row). set x.rows p.origin.0 (gaining r l)) (sym (row_in_law x p (omega arith)))

      -- the row for the new origin at each address in use
      none : (c : Locality) → c.0 < s.addresses → row_at (node_at after c) l ≡ zero_row
      unfolding row_at l unused OthersStay
      none c h =
          elim (ℕ_discrete c.0 a.0) [
            | yes e ↦ let same : c ≡ a = λ i. record { 0 = e i } in
                rw same
                (read l _ _ creator_rows_law
                ∙ get_or-set_other x.rows p.origin.0 s.addresses _ past_row (λ d. omega (arith, d))
                ∙ rows_ok.barred f s.addresses (omega arith) room)
            | no n ↦ read l _ _
                (others c (λ e. n (ap (λ (y : Locality). y.0) e)) (λ e. omega (arith, ap (λ (y : Locality). y.0) e)))
                ∙ (node_at_law s ok c h).rows_ok.barred f s.addresses (omega arith) room
          ]

      by_origin : OpenedByOrigin s after a p.origin l
      unfolding x l unused gain row_at
      by_origin =
          let size : length x.rows ≡ 16 = rows_ok.each_ok.size_is in
          record {
            for_itself = read l _ _ new_rows ∙ second x.rows a.0 s.addresses _ _ past_row (omega arith);
            for_creator =
                read a _ _ new_rows
                ∙ first x.rows a.0 s.addresses _ _ past_row (λ e. omega (arith, e)) (omega arith);
            for_others = λ c m n.
                read c _ _ new_rows
                ∙ neither x.rows a.0 s.addresses _ _ past_row c.0 (apart c a n) (apart c l m);
            creator_gains =
                read p.origin _ _ creator_rows_law ∙ get_or-set_same x.rows p.origin.0 _ past_row (omega arith);
            creator_keeps = λ c n.
                read c _ _ creator_rows_law ∙ get_or-set_other x.rows p.origin.0 c.0 _ past_row (apart c p.origin n);
            barred = none;
            others_stay = others;
          }

    -- format 1
    module _ (f : eqb s.format 1 ≡ true) where
      any_row : (d : Locality) → d.0 < 16 → row_for x p ≡ row_at x d
      unfolding row_at
      any_row d h =
          sym (row_in_law x p (omega arith)) ∙ rows_ok.as_first f p.origin.0 (omega arith)
          ∙ sym (rows_ok.as_first f d.0 h)

      each_row :
          (rows : List Row) → rows ≡ alike (gaining (row_for x p) l) → (c d : Locality) → c.0 < 16 → d.0 < 16
          → get_or rows c.0 past_row ≡ gaining (row_at x d) l
      unfolding alike
      each_row rows e c d h g =
          read c _ _ e ∙ get_or-replicate 16 c.0 _ past_row h ∙ ap (λ (r : Row). gaining r l) (any_row d g)

      all_alike : OpenedAlike s after a l
      unfolding x row_at opened_rows creator_rows
      all_alike = record {
        new_rows = each_row _ (new_node ∙ choose_true _ _ _ f);
        creator_rows_law = each_row _ (creator_node ∙ choose_true _ _ _ f);
        others_stay = others;
      }

-- ---- a pick of a new that was answered 0
record Made (s : Net) (b v : ℕ) (q : Place) : Type 0 where
  ok : NetOk s
  used : (host_of b).0 < s.addresses
  room : s.addresses < 16
  low : (picked_process s b).origin.0 < s.addresses
  net_is : created s (host_of b) (slot_of b) (picked_process s b) v q ≡ (pick_of s b).net

slot_below : (b : ℕ) → slot_of b < 4
unfolding slot_of
slot_below b = omega arith

made :
    (s : Net) (b v : ℕ) (q : Place) → Shaped s → picked_action s b ≡ Action.New v q → number_of (pick_of s b).answer ≡ 0
    → Made s b v q
unfolding picked_action picked_process process_at process_step request_of asked carried_out create performed number_of
made s b v q shaped action zero =
    let a : Locality = host_of b in
    let gave : Gave Answer.Performed (pick_of s b).net (pick_of s b) =
    record { is = λ i. record { answer = is_performed (pick_of s b).answer zero i; net = (pick_of s b).net } } in
    let seat = seated final_0 s b gave in
    let ok = sound_apart s shaped seat.sound in
    let act = acted final_0 s a (slot_of b) _ _ (Request.New v q) (rw action at seat.acts) in
    let done = through final_0 Answer.NoRoom s _ _ (omega arith) act.rest in
    record {
      ok = ok;
      used = seat.used;
      room = ltb-true _ _ done.test;
      low = (((node_at_law s ok a seat.used).processes_ok.holds (slot_of b) (slot_below b)).running seat.busy).origin_ok;
      net_is = ap (λ (r : Picked). r.net) done.rest.is;
    }

-- ---- the claims
pub new_by_origin : NewByOrigin
unfolding NewByOrigin after l
new_by_origin s b v q shaped two action zero =
    let m = made s b v q shaped action zero in
    subst (λ (t : Net). OpenedByOrigin s t (host_of b) (picked_process s b).origin (unused s)) m.net_is
    (by_origin s m.ok (host_of b) (slot_of b) (picked_process s b) v q m.used m.room m.low
    (ne_eqb s.format 1 (λ e. omega arith)))

pub new_alike : NewAlike
unfolding NewAlike after l
new_alike s b v q shaped one action zero =
    let m = made s b v q shaped action zero in
    subst (λ (t : Net). OpenedAlike s t (host_of b) (unused s)) m.net_is
    (all_alike s m.ok (host_of b) (slot_of b) (picked_process s b) v q m.used m.room m.low
    (eq-eqb s.format 1 one))
