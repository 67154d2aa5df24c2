-- A plan put back into the net is the step (`specs/PutBack.antt`, `specs/Pick.antt`): the code changes the target first and
-- then the host, the definition the host first, and the two changes may be exchanged.
-- Assumes nothing.
use Prim.Native.Nat.{ℕ, ◌+◌, ◌<◌, ◌≤◌}
use mathlib.Core.Path.{◌≡◌, refl, sym, ap, ◌∙◌}
use mathlib.Core.Bool.{Bool, true, false}
use mathlib.Core.List.{List}
use native.Mathlib.Omega.{arith}
use native.Mathlib.Decide.{dec_lt, ℕ_discrete}
use lib.Dec.{ltb}
use lib.ListN.{length, get_or, set, get_or-eq_default}
use lib.Seq.{set-get_or, set-set, set_comm, get_or-set_same, get_or-set_other}
use borrow.Author.Tests.{lt-ltb, le-ltb, ltb-true, not-true}
use Rattle.std.specs.Prelude.{Option, Some, None}
use Rattle.net.specs.Choice.{choose, both}
use Rattle.net.specs.Records.{process_at, node_at, rights_at, row_for, with_node, with_rows, with_process, with_tuple, with_counts, without_tuple}
use Rattle.net.specs.Records.{tuple_at, after_taking, free_slot, no_rights, zero_row, put_in, taken_from, started_at_slot, started_on}
use Rattle.net.specs.Records.{marked, moved_to, copied_to, sent_from, free_process, zero_node, with_variable}
use Rattle.net.specs.Shape.{ShapedNode}
use Rattle.keeping.specs.Keeping.{keeps_of}
use Rattle.net.proofs.Laws.{choose_true}
use Rattle.net.proofs.Every.{chosen_lt}
use Rattle.net.proofs.Lowest.{first_cases}
use Rattle.matching.proofs.MatchingPromise.{matching_promise as matching}
use Rattle.keeping.proofs.KeepingPromise.{keeping_promise as keeping}
use Rattle.step.specs.Types.{Locality, Place, Group, Value, Tuple, Rights, Row, Process, Node, Net, Evaluated}
use Rattle.step.specs.Types.{Answer, Picked}
use Rattle.step.specs.Types.{Request}
use Rattle.plans.specs.Request.{granted, is_new}
use Rattle.net.specs.Choice.{all, implies, fold}
use Rattle.net.specs.Groups.{halved, member, all_members}
use Rattle.step.specs.Pick.{room_at_all, added_all, out_all}
use Rattle.step.specs.Pick.{with_host, stopped, out, input, in_found, read, read_found, started_in, eval, fork, create, created}
use Rattle.step.specs.Pick.{created_at, unused, carried_out, acting, unchanged, performed, added, taken, opened}
use Rattle.plans.specs.Additions.{tuple_of, opened_rows, creator_rows}
use Rattle.step.specs.Types.{Plan}
use Rattle.plans.specs.Plan.{going, refusing, changing, stop_plan, out_plan, in_plan, read_plan, start_plan, eval_plan}
use Rattle.plans.specs.Plan.{opening, new_plan, all_plan, granted_plan, plan_of}
use Rattle.step.specs.Turn.{near, target_in, source_in, no_group, group_of}
use Rattle.step.specs.PutBack.{changes, host_after, count_after, targeted}
use Rattle.step.specs.PutBack.{put_back}
use Rattle.step.specs.Turn.{sent_within}

-- the net and the answer of a plan put back
abbrev pub back : Net → Locality → ℕ → Locality → Plan → Picked
back s a k l plan = record { answer = plan.answer; net = put_back s a k l plan }

-- a choice of plans put back is the choice of what they come to
pub chosen : {A : Type 0} (f : A → Picked) (b : Bool) (x y : A) (u v : Picked) → f x ≡ u → f y ≡ v → f (choose b x y) ≡ choose b u v
unfolding choose
chosen f true x y u v g h = g
chosen f false x y u v g h = h

-- the same, each case under its test
chosen_if : (f : Plan → Picked) (b : Bool) (x y : Plan) (u v : Picked) → (b ≡ true → f x ≡ u) → (b ≡ false → f y ≡ v) → f (choose b x y) ≡ choose b u v
unfolding choose
chosen_if f true x y u v g h = g refl
chosen_if f false x y u v g h = h refl

-- ---- two places of a list changed in either order
module _ {A : Type 0} (xs : List A) (i j : ℕ) (d : A) (f g : A → A) where
  Either : Type 0
  Either =
      set (set xs j (f (get_or xs j d))) i (g (get_or (set xs j (f (get_or xs j d))) i d))
      ≡ set (set xs i (g (get_or xs i d))) j (f (get_or (set xs i (g (get_or xs i d))) j d))

  apart : (i ≡ j → ⊥) → Either
  unfolding Either
  apart n =
      let x = get_or xs i d in
      let y = get_or xs j d in
      ap (λ (z : A). set (set xs j (f y)) i (g z)) (get_or-set_other xs j i (f y) d n)
      ∙ set_comm xs j i (f y) (g x) (λ e. n (sym e))
      ∙ ap (λ (z : A). set (set xs i (g x)) j (f z)) (sym (get_or-set_other xs i j (g x) d (λ e. n (sym e))))

-- at one and the same place, where the changes themselves may be exchanged
together : {A : Type 0} (xs : List A) (i : ℕ) (d : A) (f g : A → A) → i < length xs
    → g (f (get_or xs i d)) ≡ f (g (get_or xs i d)) → Either xs i i d f g
unfolding Either
together xs i d f g l h =
    let x = get_or xs i d in
    ap (λ z. set (set xs i (f x)) i (g z)) (get_or-set_same xs i (f x) d l)
    ∙ set-set xs i (f x) (g (f x))
    ∙ ap (set xs i) h
    ∙ sym (set-set xs i (g x) (f (g x)))
    ∙ ap (λ z. set (set xs i (g x)) i (f z)) (sym (get_or-set_same xs i (g x) d l))

in_either_order : {A : Type 0} (xs : List A) (i j : ℕ) (d : A) (f g : A → A) → i < length xs
    → (i ≡ j → g (f (get_or xs i d)) ≡ f (g (get_or xs i d))) → Either xs i j d f g
in_either_order xs i j d f g l h =
    elim (ℕ_discrete i j) [
      | yes e ↦ rw (← e) (together xs i d f g l (h e))
      | no n ↦ apart xs i j d f g n
    ]

-- ---- changes of one node that may be exchanged with a change of its process
tuple_process : (x : Node) (t : Tuple) (k : ℕ) (p : Process) → with_process (with_tuple x t) k p ≡ with_tuple (with_process x k p) t
unfolding with_process with_tuple choose
tuple_process x t k p =
    elim (dec_lt x.stored 16) [
      | yes h ↦ rw (lt-ltb x.stored 16 h)
      | no h ↦ rw (le-ltb x.stored 16 (omega arith))
    ]

taking_process : (x : Node) (i k : ℕ) (p : Process) → with_process (without_tuple x i) k p ≡ without_tuple (with_process x k p) i
unfolding with_process without_tuple after_taking tuple_at
taking_process x i k p = refl

process_process : (x : Node) (j k : ℕ) (c p : Process) → (j ≡ k → ⊥) → with_process (with_process x j c) k p ≡ with_process (with_process x k p) j c
unfolding with_process
process_process x j k c p n = rw (set_comm x.processes j k c p n)

slot_free : (x : Node) (j : ℕ) → free_slot x ≡ Some j → (process_at x j).busy ≡ false
unfolding free_slot
slot_free x j =
    first_cases (λ r. r ≡ Some j → (process_at x j).busy ≡ false) 4 _ Some None
    (λ i h e. let same : i ≡ j = cc in rw (← same) (not-true _ h.holds))
    (λ e. let z : ◌≡◌ {A = ℕ} 0 1 = cc in absurd (omega arith))

-- ---- a right is held only over an address that a row has
none_past : (row : Row) (l : Locality) (f : Rights → Bool) → length row.rights ≡ 16 → f no_rights ≡ false → 16 ≤ l.0 → f (rights_at row l) ≡ false
unfolding rights_at no_rights
none_past row l f e z g = ap f (get_or-eq_default row.rights no_rights {n = l.0} (omega arith)) ∙ z

over : (row : Row) (l : Locality) (f : Rights → Bool) → length row.rights ≡ 16 → f no_rights ≡ false → f (rights_at row l) ≡ true → l.0 < 16
over row l f e z h = go (dec_lt l.0 16)
  where
    go : Dec (l.0 < 16) → l.0 < 16
    go (yes p) = p
    go (no q) = let y : ◌≡◌ {A = ℕ} 0 1 = cc (none_past row l f e z (omega arith)) in absurd (omega arith)

near_is : (l a : Locality) → l.0 < 16 → near l a ≡ l
unfolding near
near_is l a h = choose_true _ _ _ (lt-ltb l.0 16 h)

-- ---- a plan put back where the process p stands at a in slot k
module _ (s : Net) (a : Locality) (k : ℕ) (size : length s.nodes ≡ 16) (low : a.0 < 16) where
  refusing_back : (l : Locality) (answer : Answer) (y : Node) → changes answer ≡ false → back s a k l (refusing answer y) ≡ unchanged answer s
  unfolding put_back refusing unchanged choose
  refusing_back l answer y e = rw e

  -- the target changed by f, and the process moved
  Moved : Answer → Locality → Process → (Node → Node) → Picked
  Moved w l p f = record { answer = w; net = with_node (with_host s a k p) l (f (node_at (with_host s a k p) l)) }

  moved_back : (w : Answer) (l : Locality) (p : Process) (f : Node → Node) → changes w ≡ true
      → (a.0 ≡ l.0 → with_process (f (node_at s a)) k p ≡ f (with_process (node_at s a) k p))
      → back s a k l (record { answer = w; process = p; target = f (node_at s l); opens = false }) ≡ Moved w l p f
  unfolding put_back Moved host_after count_after targeted with_counts with_host with_node node_at choose both Either
  moved_back w l p f c h =
      rw c
      (ap {B = Picked} (λ (ns : List Node). record { answer = w; net = record { format = s.format; addresses = s.addresses; length = s.length; nodes = ns; code = s.code } })
      (in_either_order s.nodes a.0 l.0 _ f (λ x. with_process x k p) (omega arith) h))

  -- the target as it was
  same_target : (l : Locality) (p : Process) → with_node (with_host s a k p) l (node_at (with_host s a k p) l) ≡ with_host s a k p
  unfolding with_node node_at
  same_target l p = rw set-get_or

  kept_back : (w : Answer) (l : Locality) (p : Process) → changes w ≡ true
      → back s a k l (record { answer = w; process = p; target = node_at s l; opens = false }) ≡ record { answer = w; net = with_host s a k p }
  unfolding Moved
  kept_back w l p c = moved_back w l p (λ x. x) c (λ _. refl) ∙ ap {B = Picked} (λ (z : Net). record { answer = w; net = z }) (same_target l p)

  module _ (l : Locality) where
    stop_back : back s a k l (stop_plan (node_at s l)) ≡ stopped s a k
    unfolding stop_plan stopped changes
    stop_back = kept_back Answer.Ended l free_process refl

    going_back : (p : Process) (f : Node → Node) → (a.0 ≡ l.0 → with_process (f (node_at s a)) k p ≡ f (with_process (node_at s a) k p))
        → back s a k l (going p (f (node_at s l))) ≡ performed (with_node (with_host s a k p) l (f (node_at (with_host s a k p) l)))
    unfolding going performed changes Moved
    going_back p f h = moved_back Answer.Performed l p f refl h

    out_back : (p : Process) (q : Place) (t : Tuple) → back s a k l (out_plan p (node_at s l) q t) ≡ out s a k p l q t
    unfolding out_plan changing put_in out added changes
    out_back p q t =
        chosen (λ c. back s a k l (changing (moved_to p q) Answer.NoRoom (node_at s l) c)) (ltb (node_at s l).stored 16) _ _ _ _
        (going_back (moved_to p q) (λ y. with_tuple y t) (λ _. tuple_process (node_at s a) t k (moved_to p q)))
        (refusing_back l Answer.NoRoom _ refl)

    -- a tuple that is stored can be taken
    taken_plan : (p : Process) (y : Node) (i : ℕ) → i < y.stored → changing p Answer.NoTuple y (taken_from y i) ≡ going p (without_tuple y i)
    unfolding changing taken_from choose
    taken_plan p y i h = rw (lt-ltb i y.stored h)

    in_back : (p : Process) (q : Place) (found : Option ℕ) → ((i : ℕ) → found ≡ Some i → i < (node_at s l).stored)
        → back s a k l (in_plan p (node_at s l) q found) ≡ in_found s a k l q found p
    unfolding in_plan in_found taken changes
    in_back p q (Some i) h =
        ap (back s a k l) (taken_plan (moved_to p q) (node_at s l) i (h i refl))
        ∙ going_back (moved_to p q) (λ y. without_tuple y i) (λ _. taking_process (node_at s a) i k (moved_to p q))
    in_back p q None h = refusing_back l Answer.NoTuple _ refl

    read_back_law : (p : Process) (q : Place) (found : Option ℕ) → back s a k l (read_plan p (node_at s l) q found) ≡ read_found s a k q found p
    unfolding read_plan read_found going performed changes
    read_back_law p q (Some i) = kept_back Answer.Performed l (moved_to p q) refl
    read_back_law p q None = refusing_back l Answer.NoTuple _ refl

    -- a free slot is not the one in which a process stands
    other_slot : (process_at (node_at s a) k).busy ≡ true → (j : ℕ) → free_slot (node_at s l) ≡ Some j → a.0 ≡ l.0 → j ≡ k → ⊥
    other_slot busy j f e q =
        let free = slot_free (node_at s l) j f in
        let same : a ≡ l = λ i. record { 0 = e i } in
        let z : ◌≡◌ {A = ℕ} 0 1 = cc in omega arith

    module _ (busy : (process_at (node_at s a) k).busy ≡ true) (p copy : Process) (q : Place) where
      started_back : (slot : Option ℕ) → free_slot (node_at s l) ≡ slot
          → back s a k l (changing (moved_to p q) Answer.NoRoom (node_at s l) (started_at_slot (node_at s l) copy slot))
          ≡ started_in s a k l p copy q slot
      unfolding started_at_slot started_in changing choose changes with_host
      started_back (Some j) f =
          going_back (moved_to p q) (λ y. with_process y j copy)
          (λ e. process_process (node_at s a) j k copy (moved_to p q) (other_slot busy j f e))
      started_back None f = refusing_back l Answer.NoRoom _ refl

      start_back : back s a k l (start_plan p (node_at s l) copy q) ≡ started_in s a k l p copy q (free_slot (node_at s l))
      unfolding start_plan started_on
      start_back = started_back (free_slot (node_at s l)) refl

    eval_back :
        (process_at (node_at s a) k).busy ≡ true → (p : Process) (sent q : Place)
        → back s a k l (eval_plan a p (node_at s l) sent q (keeps_of s.code sent l (row_for (node_at s l) (sent_from a p sent)))) ≡ eval s a k p l sent q
    unfolding eval_plan eval changes
    eval_back busy p sent q =
        chosen (back s a k l) (keeps_of s.code sent l (row_for (node_at s l) (sent_from a p sent))) _ _ _ _
        (start_back busy p (sent_from a p sent) q) (refusing_back l Answer.NotWithin _ refl)

  -- an out to the empty set, "which only moves the process on" (document 02, slip 11)
  none_receives : (p : Process) (q : Place) (t : Tuple) → out_all s a k p no_group q t ≡ performed (with_host s a k (moved_to p q))
  unfolding out_all room_at_all added_all all_members all implies member both halved fold choose no_group
  none_receives p q t = refl

  none_back : (p : Process) (g : Group) (q : Place) (t : Tuple) → g.0 ≡ 0 → back s a k a (all_plan p (node_at s a) q true) ≡ out_all s a k p g q t
  unfolding all_plan choose going performed changes no_group
  none_back p g q t e =
      let none : g ≡ no_group = λ i. record { 0 = e i } in
      kept_back Answer.Performed a (moved_to p q) refl
      ∙ sym (ap (λ (h : Group). out_all s a k p h q t) none ∙ none_receives p q t)

  -- a new address is not the host's
  module _ (used : a.0 < s.addresses) (p : Process) (v : ℕ) (q : Place) where
    open_back : (s.addresses < 16) → back s a k (unused s) (opening s.format a p (node_at s a) v q (unused s)) ≡ performed (created s a k p v q)
    unfolding put_back opening host_after count_after targeted with_counts with_node node_at changes choose both performed created created_at opened unused Either
        creator_rows row_for moved_to with_variable
    open_back room =
        rw (lt-ltb s.addresses 16 room)
        (ap {B = Picked} (λ (ns : List Node). record { answer = Answer.Performed; net = record { format = s.format; addresses = s.addresses + 1; length = s.length; nodes = ns; code = s.code } })
        (in_either_order s.nodes a.0 s.addresses _ (λ _. with_rows zero_node (opened_rows s.format (node_at s a) a p (unused s)))
        (λ x. with_rows (with_process x k (moved_to (with_variable p v (Value.Address (unused s))) q)) (creator_rows s.format x p (unused s)))
        (omega arith) (λ e. absurd (omega arith))))

    new_back : back s a k (near (unused s) a) (new_plan s.format a p (node_at s a) v q s.addresses) ≡ create s a k p v q
    unfolding new_plan create changes unused
    new_back =
        chosen_if (back s a k (near (unused s) a)) (ltb s.addresses 16) _ _ _ _
        (λ h. rw (near_is (unused s) a (ltb-true _ _ h)) (open_back (ltb-true _ _ h)))
        (λ h. refusing_back (near (unused s) a) Answer.NoRoom _ refl)

-- ---- the row that a process is judged by has every address
pub row_length : (x : Node) → ShapedNode x → (p : Process) → length (row_for x p).rights ≡ 16
unfolding row_for zero_row
row_length x shape p =
    chosen_lt (λ (r : Row). length r.rights ≡ 16) p.origin.0 16 _ _ (λ h. (shape.each_row p.origin h).rights_are) (λ h. refl)

-- ---- every request of a process that stands in a slot of an address in use
pub record Standing (s : Net) (a : Locality) (k : ℕ) : Type 0 where
  pub size : length s.nodes ≡ 16
  pub rights : (p : Process) → length (row_for (node_at s a) p).rights ≡ 16
  pub low : a.0 < 16
  pub used : a.0 < s.addresses
  pub busy : (process_at (node_at s a) k).busy ≡ true

module _ (s : Net) (a : Locality) (k : ℕ) (seat : Standing s a k) (p : Process) (e : Evaluated) where
  unfoldable pub target : Request → Locality
  target req = target_in a s.addresses req

  unfoldable pub source : Request → Node
  source req = node_at s (source_in a req)

  -- the plan of a request in the net
  unfoldable pub plan_in : Request → Plan
  plan_in req =
      plan_of s.format a (row_for (node_at s a) p) p (source req) e s.addresses (sent_within s.code a p (source req) req) req

  here : (l : Locality) (f : Rights → Bool) → f no_rights ≡ false → f (rights_at (row_for (node_at s a) p) l) ≡ true → near l a ≡ l
  here l f z h = near_is l a (over (row_for (node_at s a) p) l f (seat.rights p) z h)

  granted_back : (req : Request) → (group_of req).0 ≡ 0 → granted (row_for (node_at s a) p) req ≡ true
      → back s a k (target req)
      (granted_plan s.format a p (source req) e s.addresses (sent_within s.code a p (source req) req) req)
      ≡ carried_out s a k p e req
  unfolding granted target source target_in source_in group_of is_new choose granted_plan sent_within carried_out input read fork no_rights
      changes unused
  granted_back Request.Lack none g = refusing_back s a k seat.size seat.low a Answer.NotSet _ refl
  granted_back Request.Stop none g = stop_back s a k seat.size seat.low a
  granted_back (Request.Out l q) none g =
      rw (here l (λ r. r.put) refl (sym (keeping.puts _ l) ∙ g)) (out_back s a k seat.size seat.low l p q (marked a (tuple_of e)))
  granted_back (Request.In l q) none g =
      rw (here l (λ r. r.take) refl (sym (keeping.takes _ l) ∙ g))
      (in_back s a k seat.size seat.low l _ q _ (matching.stored p (node_at s l) e))
  granted_back (Request.Read l q) none g =
      rw (here l (λ r. choose r.take true r.read) refl (sym (keeping.reads _ l) ∙ g)) (read_back_law s a k seat.size seat.low l _ q _)
  granted_back (Request.Eval l sent q) none g =
      rw (here l (λ r. r.send) refl (sym (keeping.sends _ l) ∙ g))
      (eval_back s a k seat.size seat.low l seat.busy p sent q)
  granted_back (Request.New v q) none g = new_back s a k seat.size seat.low seat.used p v q
  granted_back (Request.Fork q q') none g = start_back s a k seat.size seat.low a seat.busy p (copied_to p q') q
  granted_back (Request.OutAll h q) none g = none_back s a k seat.size seat.low p h q _ none

  -- that of an out to a set is in `SharingLaws.antt`
  pub put_back_is : (req : Request) → (group_of req).0 ≡ 0 → back s a k (target req) (plan_in req) ≡ acting s a k p e req
  unfolding plan_in plan_of acting changes
  put_back_is req none =
      chosen_if (back s a k (target req)) (granted (row_for (node_at s a) p) req) _ _ _ _ (granted_back req none)
      (λ g. refusing_back s a k seat.size seat.low (target req) Answer.NoRight _ refl)
