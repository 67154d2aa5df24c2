-- The tuples of a net after picks, and those that were taken, are the tuples before and those that were put: at one pick, by
-- what it does to the counts of the nodes, and over a list of picks. Assumes nothing.
use Prim.Native.Nat.{ℕ, zero, suc, ◌+◌, ◌<◌, ◌≤◌}
use mathlib.Core.Path.{◌≡◌, refl, sym, ap, ◌∙◌}
use mathlib.Core.Logic.{◌≢◌, inl, inr}
use mathlib.Core.Bool.{true, false}
use mathlib.Core.List.{List, [], ◌∷◌, map}
use native.Mathlib.Omega.{arith}
use native.Mathlib.Numerals.{add-one}
use lib.ListN.{length, get_or, set, length-map, length-set, length-append, get_or-map}
use lib.Seq.{map-set_same, get_or-set_same, get_or-set_other}
use lib.Dec.{eqb}
use borrow.Author.Tests.{lt-ltb, ltb-true}
use Rattle.std.specs.Prelude.{Option, Some, None}
use Rattle.net.specs.Choice.{choose, fold}
use Rattle.net.specs.Records.{process_at, node_at, with_process, with_tuple, with_node, with_rows, with_counts, without_tuple, zero_node, moved_to}
use Rattle.net.specs.Records.{address_of}
use Rattle.net.specs.Groups.{member, members_below, members_of}
use Rattle.net.specs.Shape.{Shaped}
use Rattle.net.proofs.Laws.{choose_true, choose_false, split}
use Rattle.net.proofs.Every.{chosen, chosen_lt}
use Rattle.net.proofs.FoldLaws.{fold_keeps}
use Rattle.net.proofs.GroupLaws.{members_at}
use Rattle.matching.specs.Matching.{matched_of}
use Rattle.matching.proofs.MatchingPromise.{matching_promise as matching}
use Rattle.sound.specs.Soundness.{group_sound, sound_of}
use Rattle.sound.proofs.NetFacts.{NetOk, sound_apart}
use Rattle.sound.proofs.NetChanges.{node_at_law, instruction_at_law}
use Rattle.plans.specs.Answer.{number_of}
use Rattle.plans.specs.Request.{at, spoken, asked, request_of}
use Rattle.step.specs.Types.{Locality, Place, Group, Tuple, Process, Node, Net, Target, Action, Evaluated}
use Rattle.step.specs.Types.{Answer, Request}
use Rattle.step.specs.declared.machine.Picked.{Picked}
use Rattle.step.specs.Pick.{host_of, slot_of, unchanged, performed, with_host, stopped, added, out, room_at_all, added_all, out_all, taken}
use Rattle.step.specs.Pick.{in_found, input, read_found}
use Rattle.step.specs.Pick.{read, started_in, eval, fork, opened, unused, created_at, created, create, carried_out, acting}
use Rattle.step.specs.Pick.{process_step, slot_step, step_of, pick_of}
use Rattle.step.specs.SoundKept.{SoundKept}
use Rattle.step.proofs.SoundRequests.{RequestOk, request_ok}
use Rattle.step.proofs.SoundKept.{sound_kept}
use Rattle.run.specs.Run.{answered, ran_from}
use Rattle.totals.specs.TotalClaims.{tuples_of, met, puts, takes, answered0, summed}

-- ---- sums of a list's first numbers
sum : ℕ → List ℕ → ℕ
sum n cs = fold n (λ a count. count + get_or cs a 0) 0

sum_past : (n l v : ℕ) (cs : List ℕ) → n ≤ l → sum n (set cs l v) ≡ sum n cs
unfolding sum fold
sum_past zero l v cs h = refl
sum_past (suc n) l v cs h =
    let rest = sum_past n l v cs (omega arith) in
    let last : get_or (set cs l v) n 0 ≡ get_or cs n 0 = get_or-set_other cs l n v 0 (λ e. omega arith) in
    omega (arith, rest, last)

sum_at : (n v : ℕ) (cs : List ℕ) → n < length cs → sum (suc n) (set cs n v) + get_or cs n 0 ≡ sum (suc n) cs + v
unfolding sum fold
sum_at n v cs g =
    let rest = sum_past n n v cs (omega arith) in
    let last : get_or (set cs n v) n 0 ≡ v = get_or-set_same cs n v 0 g in
    omega (arith, rest, last)

sum_before :
    (n l v : ℕ) (cs : List ℕ) → n ≢ l → sum n (set cs l v) + get_or cs l 0 ≡ sum n cs + v
    → sum (suc n) (set cs l v) + get_or cs l 0 ≡ sum (suc n) cs + v
unfolding sum fold
sum_before n l v cs d rest =
    let last : get_or (set cs l v) n 0 ≡ get_or cs n 0 = get_or-set_other cs l n v 0 d in
    omega (arith, rest, last)

sum_set : (n l v : ℕ) (cs : List ℕ) → l < n → l < length cs → sum n (set cs l v) + get_or cs l 0 ≡ sum n cs + v
sum_set zero l v cs h g = absurd (omega arith)
sum_set (suc n) l v cs h g =
    elim (split l n h) [
      | inl below ↦ sum_before n l v cs (λ e. omega arith) (sum_set n l v cs below g)
      | inr e ↦ rw e (sum_at n v cs (omega arith))
    ]

-- nought at the place behind them
set_zero : (n : ℕ) (cs : List ℕ) → get_or (set cs n 0) n 0 ≡ 0
set_zero n [] = refl
set_zero zero (c ∷ cs) = refl
set_zero (suc n) (c ∷ cs) = set_zero n cs

sum_open : (n : ℕ) (cs : List ℕ) → sum (n + 1) (set cs n 0) ≡ sum n cs
unfolding sum fold
sum_open n cs =
    ap (λ (m : ℕ). sum m (set cs n 0)) (add-one n)
    ∙ (let rest = sum_past n n 0 cs (omega arith) in let last = set_zero n cs in omega (arith, rest, last))

-- ---- the tuple counts of a net's nodes
counts : Net → List ℕ
counts s = map (λ (x : Node). x.stored) s.nodes

count_at : (s : Net) (l : Locality) → (node_at s l).stored ≡ get_or (counts s) l.0 0
unfolding counts node_at
count_at s l = sym (get_or-map (λ (x : Node). x.stored) s.nodes l.0 _)

tuples_sum : (s : Net) → tuples_of s ≡ sum s.addresses (counts s)
unfolding tuples_of sum
tuples_sum s = λ i. fold s.addresses (λ a count. count + count_at s (address_of a) i) 0

map_set : {A B : Type 0} (f : A → B) (xs : List A) (i : ℕ) (y : A) → map f (set xs i y) ≡ set (map f xs) i (f y)
map_set f [] i y = refl
map_set f (x ∷ xs) zero y = refl
map_set {B = B} f (x ∷ xs) (suc i) y = ap (λ (zs : List B). f x ∷ zs) (map_set f xs i y)

module _ (s : Net) where
  node_counts : (l : Locality) (x : Node) → counts (with_node s l x) ≡ set (counts s) l.0 x.stored
  unfolding counts with_node
  node_counts l x = map_set (λ (y : Node). y.stored) s.nodes l.0 x

  -- a node in use is replaced
  node_sum :
      (l : Locality) (x : Node) → l.0 < s.addresses → s.addresses ≤ length s.nodes
      → tuples_of (with_node s l x) + (node_at s l).stored ≡ tuples_of s + x.stored
  unfolding with_node counts
  node_sum l x h g =
      let after = tuples_sum (with_node s l x) ∙ ap (sum s.addresses) (node_counts l x) in
      let size = length-map s.nodes (λ (y : Node). y.stored) in
      let change = sum_set s.addresses l.0 x.stored (counts s) h (omega (arith, size)) in
      omega (arith, after, tuples_sum s, change, count_at s l)

  -- by one with as many tuples
  counts_same : (l : Locality) (x : Node) → x.stored ≡ (node_at s l).stored → counts (with_node s l x) ≡ counts s
  unfolding counts with_node node_at
  counts_same l x e = map-set_same (λ (y : Node). y.stored) s.nodes l.0 x _ e

  -- an address is opened
  opened_counts : counts (opened s) ≡ counts s
  unfolding counts opened with_counts
  opened_counts = refl

  opened_count : (l : Locality) → (node_at s l).stored ≡ (node_at (opened s) l).stored
  unfolding node_at opened with_counts
  opened_count l = refl

  -- a process is replaced
  module _ (a : Locality) (k : ℕ) (p : Process) where
    host_counts : counts (with_host s a k p) ≡ counts s
    unfolding with_host with_process
    host_counts = counts_same a _ refl

    host_tuples : tuples_of (with_host s a k p) ≡ tuples_of s
    unfolding with_host with_node
    host_tuples = tuples_sum (with_host s a k p) ∙ ap (sum s.addresses) host_counts ∙ sym (tuples_sum s)

    host_stored : (l : Locality) → (node_at (with_host s a k p) l).stored ≡ (node_at s l).stored
    host_stored l =
        count_at (with_host s a k p) l ∙ ap (λ (cs : List ℕ). get_or cs l.0 0) host_counts ∙ sym (count_at s l)

-- ---- what an answer comes to, where the pick met the action x
record Moves (s : Net) (x : Action) (r : Picked) : Type 0 where
  moved : tuples_of r.net + answered0 r.answer (takes x) ≡ tuples_of s + answered0 r.answer (puts x)

module _ (s : Net) (x : Action) where
  refuses : (y : Answer) → eqb (number_of y) 0 ≡ false → Moves s x (unchanged y s)
  unfolding unchanged answered0
  refuses y h =
      let none : (n : ℕ) → choose (eqb (number_of y) 0) n 0 ≡ 0 = λ n. choose_false _ _ _ h in
      record { moved = omega (arith, none (takes x), none (puts x)) }

  performs : (t : Net) → tuples_of t + takes x ≡ tuples_of s + puts x → Moves s x (performed t)
  unfolding performed answered0 number_of choose
  performs t h = record { moved = h }

  stops : (t : Net) → tuples_of t ≡ tuples_of s → Moves s x (record { answer = Answer.Ended; net = t })
  unfolding answered0 number_of choose
  stops t h = record { moved = omega (arith, h) }

put_stored : (y : Node) (u : Tuple) → y.stored < 16 → (with_tuple y u).stored ≡ y.stored + 1
unfolding with_tuple
put_stored y u h = ap (λ (z : Node). z.stored) (choose_true _ _ _ (lt-ltb y.stored 16 h))

-- ---- a tuple put at each member of a set, each in use and with room
module _
    (s : Net) (g : Group) (u : Tuple) (used : (l : Locality) → member g l ≡ true → l.0 < s.addresses)
    (free : (l : Locality) → member g l ≡ true → (node_at s l).stored < 16) (size : s.addresses ≤ length s.nodes)
  where
    -- at the members below i
    record Put (i : ℕ) (t : Net) : Type 0 where
      tuples_are : tuples_of t ≡ tuples_of s + length (members_below i g)
      addresses_are : t.addresses ≡ s.addresses
      nodes_are : length t.nodes ≡ length s.nodes
      ahead : (l : Locality) → i ≤ l.0 → (node_at t l).stored ≡ (node_at s l).stored

    one_more_law : (i : ℕ) → member g (address_of i) ≡ true → length (members_below (suc i) g) ≡ length (members_below i g) + 1
    unfolding members_below
    one_more_law i m =
        length-append (members_below i g) _ ∙ ap (λ (ls : List Locality). length (members_below i g) + length ls) (choose_true _ _ _ m)

    no_more : (i : ℕ) → member g (address_of i) ≡ false → length (members_below (suc i) g) ≡ length (members_below i g)
    unfolding members_below
    no_more i m =
        length-append (members_below i g) _ ∙ ap (λ (ls : List Locality). length (members_below i g) + length ls) (choose_false _ _ _ m)
        ∙ omega arith

    other_stored : (t : Net) (i : ℕ) (l : Locality) → suc i ≤ l.0 → (node_at (added t (address_of i) u) l).stored ≡ (node_at t l).stored
    unfolding added node_at with_node
    other_stored t i l h = ap (λ (x : Node). x.stored) (get_or-set_other t.nodes i l.0 _ _ (λ e. omega arith))

    put_next : (i : ℕ) (t : Net) → member g (address_of i) ≡ true → Put i t → Put (suc i) (added t (address_of i) u)
    unfolding added with_node
    put_next i t m h =
        let l : Locality = address_of i in
        let y : Node = node_at t l in
        let stored = h.ahead l (omega arith) in
        let more = put_stored y u (omega (arith, stored, free l m)) in
        let whole = node_sum t l (with_tuple y u) (omega (arith, used l m, h.addresses_are)) (omega (arith, h.addresses_are, h.nodes_are)) in
        record {
          tuples_are = omega (arith, whole, more, h.tuples_are, one_more_law i m);
          addresses_are = h.addresses_are;
          nodes_are = length-set t.nodes i _ ∙ h.nodes_are;
          ahead = λ c d. other_stored t i c d ∙ h.ahead c (omega arith);
        }

    put_past : (i : ℕ) (t : Net) → member g (address_of i) ≡ false → Put i t → Put (suc i) t
    put_past i t m h = record {
      tuples_are = omega (arith, h.tuples_are, no_more i m);
      addresses_are = h.addresses_are;
      nodes_are = h.nodes_are;
      ahead = λ c d. h.ahead c (omega arith);
    }

    put_none : Put 0 s
    unfolding members_below
    put_none = record { tuples_are = omega arith; addresses_are = refl; nodes_are = refl; ahead = λ l _. refl }

    all_tuples_law : tuples_of (added_all s g u) ≡ tuples_of s + length (members_of g)
    unfolding added_all members_of
    all_tuples_law =
        (fold_keeps Put _ s 16 put_none
        (λ i t _ h. chosen (Put (suc i)) (member g (address_of i)) _ _ (λ m. put_next i t m h) (λ m. put_past i t m h))
        ).tuples_are

-- ---- each request, of the process p at a in slot k
module _ (s : Net) (ok : NetOk s) (a : Locality) (k : ℕ) (hosted : a.0 < s.addresses) (p : Process) where
  room : s.addresses ≤ length s.nodes
  room = omega (arith, ok.addresses_most, ok.nodes_ok.size_is)

  -- the host's process changes, and then the node at l
  change :
      (l : Locality) (r : Process) (x : Node) → l.0 < s.addresses
      → tuples_of (with_node (with_host s a k r) l x) + (node_at s l).stored ≡ tuples_of s + x.stored
  unfolding with_host with_node
  change l r x h =
      let size = length-set s.nodes a.0 (with_process (node_at s a) k r) in
      let whole = node_sum (with_host s a k r) l x h (omega (arith, size, room)) in
      omega (arith, whole, host_tuples s a k r, host_stored s a k r l)

  out_moves : (t : Target) (l : Locality) (q : Place) (u : Tuple) → l.0 < s.addresses → Moves s (Action.Out t q) (out s a k p l q u)
  unfolding out added with_tuple puts takes number_of
  out_moves t l q u h =
      chosen_lt (Moves s (Action.Out t q)) (node_at s l).stored 16 _ _
      (λ free.
      let r = moved_to p q in
      let stored = host_stored s a k r l in
      let y = node_at (with_host s a k r) l in
      let more : (with_tuple y u).stored ≡ y.stored + 1 = put_stored y u (omega (arith, stored)) in
      let whole = change l r (with_tuple y u) h in
      performs s _ _ (omega (arith, whole, more, stored)))
      (λ _. refuses s _ Answer.NoRoom refl)

  -- whose set is one of addresses in use
  out_all_moves :
      (g : Group) (q : Place) (u : Tuple) → group_sound s.addresses g ≡ true
      → Moves s (Action.OutAll g q) (out_all s a k p g q u)
  unfolding out_all room_at_all group_sound puts takes number_of with_host with_node
  out_all_moves g q u m =
      chosen (Moves s (Action.OutAll g q)) _ _ _
      (λ free.
      let r = moved_to p q in
      let size = length-set s.nodes a.0 (with_process (node_at s a) k r) in
      let whole =
      all_tuples_law (with_host s a k r) g u (λ l h. ltb-true _ _ (members_at g _ m l h))
      (λ l h. omega (arith, host_stored s a k r l, ltb-true (node_at s l).stored 16 (members_at g _ free l h)))
      (omega (arith, size, room)) in
      performs s _ _ (omega (arith, whole, host_tuples s a k r)))
      (λ _. refuses s _ Answer.NoRoom refl)

  in_moves :
      (t : Target) (l : Locality) (q : Place) (e : Evaluated) → l.0 < s.addresses → (f : Option ℕ)
      → (matched_of p (node_at s l) e).found ≡ f
      → Moves s (Action.In t q) (in_found s a k l q f (matched_of p (node_at s l) e).process)
  unfolding in_found taken without_tuple puts takes number_of
  in_moves t l q e h (Some i) g =
      let r = moved_to (matched_of p (node_at s l) e).process q in
      let stored = host_stored s a k r l in
      let present = matching.stored p (node_at s l) e i g in
      let whole = change l r (without_tuple (node_at (with_host s a k r) l) i) h in
      performs s _ _ (omega (arith, whole, stored, present))
  in_moves t l q e h None g = refuses s _ Answer.NoTuple refl

  -- an action that puts and takes nothing
  module _ (x : Action) (no_put : puts x ≡ 0) (no_take : takes x ≡ 0) where
    same : (t : Net) → tuples_of t ≡ tuples_of s → Moves s x (performed t)
    same t h = performs s x t (omega (arith, h))

    read_moves : (q : Place) (f : Option ℕ) (r : Process) → Moves s x (read_found s a k q f r)
    unfolding read_found number_of
    read_moves q (Some i) r = same _ (host_tuples s a k _)
    read_moves q None r = refuses s x Answer.NoTuple refl

    start_moves : (l : Locality) (copy : Process) (q : Place) (j : Option ℕ) → Moves s x (started_in s a k l p copy q j)
    unfolding started_in number_of
    start_moves l copy q (Some j) =
        same _ (host_tuples (with_host s a k (moved_to p q)) l j copy ∙ host_tuples s a k (moved_to p q))
    start_moves l copy q None = refuses s x Answer.NoRoom refl

  -- the new address has no tuples
  created_counts : (v : ℕ) (q : Place) → counts (created s a k p v q) ≡ set (counts s) s.addresses 0
  unfolding created created_at unused with_rows with_process zero_node
  created_counts v q =
      node_counts _ (unused s) _
      ∙ ap (λ (cs : List ℕ). set cs s.addresses 0) (counts_same (opened s) a _ (opened_count s a) ∙ opened_counts s)

  created_tuples : (v : ℕ) (q : Place) → tuples_of (created s a k p v q) ≡ tuples_of s
  unfolding created created_at opened with_counts with_node
  created_tuples v q =
      tuples_sum (created s a k p v q) ∙ ap (sum (s.addresses + 1)) (created_counts v q)
      ∙ sum_open s.addresses (counts s) ∙ sym (tuples_sum s)

  create_moves : (v : ℕ) (q : Place) → Moves s (Action.New v q) (create s a k p v q)
  unfolding create puts takes number_of
  create_moves v q =
      chosen (Moves s (Action.New v q)) _ _ _ (λ _. same (Action.New v q) refl refl _ (created_tuples v q))
      (λ _. refuses s _ Answer.NoRoom refl)

  stop_moves : Moves s Action.Stop (stopped s a k)
  unfolding stopped
  stop_moves = stops s _ _ (host_tuples s a k _)

  -- ---- by the action, whose request is within the net
  module _ (e : Evaluated) (x : Action) where
    abbrev Acts : Request → Type 0
    Acts r = RequestOk a s.addresses s.length e r → Moves s x (acting s a k p e r)

    acts : (r : Request) → Moves s x (carried_out s a k p e r) → Moves s x (acting s a k p e r)
    unfolding acting number_of
    acts r h = chosen (Moves s x) _ _ _ (λ _. h) (λ _. refuses s x Answer.NoRight refl)

    lacks : Acts Request.Lack
    unfolding carried_out number_of
    lacks _ = acts Request.Lack (refuses s x Answer.NotSet refl)

    at_acts : (aim : Option Locality) (f : Locality → Request) → ((l : Locality) → Acts (f l)) → Acts (at aim f)
    unfolding at
    at_acts (Some l) f h = h l
    at_acts None f h = lacks

    spoken_acts : (aim : Option Locality) (f : Locality → Request) → ((l : Locality) → Acts (f l)) → Acts (spoken e aim f)
    unfolding spoken
    spoken_acts aim f h = chosen Acts e.defined _ _ (λ _. at_acts aim f h) (λ _. lacks)

  asked_moves :
      (e : Evaluated) (x : Action) → RequestOk a s.addresses s.length e (asked a p e x)
      → Moves s x (acting s a k p e (asked a p e x))
  unfolding asked RequestOk carried_out input read eval fork puts takes number_of
  asked_moves e Action.Stop h = acts e _ Request.Stop stop_moves
  asked_moves e (Action.Out t q) h =
      spoken_acts e _ _ (λ l. Request.Out l q) (λ l g. acts e _ _ (out_moves t l q _ g.0)) h
  asked_moves e (Action.In t q) h =
      spoken_acts e _ _ (λ l. Request.In l q) (λ l g. acts e _ _ (in_moves t l q e g.0 _ refl)) h
  asked_moves e (Action.Read t q) h =
      spoken_acts e _ _ (λ l. Request.Read l q) (λ l g. acts e _ _ (read_moves _ refl refl q _ _)) h
  asked_moves e (Action.Eval t sent q) h =
      at_acts e _ _ (λ l. Request.Eval l sent q)
      (λ l g. acts e _ _
      (chosen (Moves s (Action.Eval t sent q)) _ _ _ (λ _. start_moves _ refl refl l _ q _)
      (λ _. refuses s _ Answer.NotWithin refl))) h
  asked_moves e (Action.New v q) h = acts e _ _ (create_moves v q)
  asked_moves e (Action.Fork q r) h = acts e _ _ (start_moves _ refl refl a _ q _)
  asked_moves e (Action.OutAll g q) h =
      chosen (Acts e (Action.OutAll g q)) e.defined _ _ (λ _ ok. acts e _ _ (out_all_moves g q _ ok.0)) (λ _. lacks e _) h

-- ---- a pick
slot_below : (b : ℕ) → slot_of b < 4
unfolding slot_of
slot_below b = omega arith

step_moves : (s : Net) (b : ℕ) → NetOk s → Moves s (met s b).action (step_of s b)
unfolding step_of slot_step process_step met number_of process_at request_of
step_moves s b ok =
    let x : Action = (met s b).action in
    chosen (Moves s x) _ _ _
    (λ _. chosen_lt (Moves s x) (host_of b).0 s.addresses _ _
    (λ hosted. chosen (Moves s x) _ _ _
    (λ busy.
    let Node-Ok = node_at_law s ok (host_of b) hosted in
    let running = (Node-Ok.processes_ok.holds (slot_of b) (slot_below b)).running busy in
    let fetched = instruction_at_law s ok _ running.place in
    asked_moves s ok (host_of b) (slot_of b) hosted _ _ _ (request_ok s.format s.addresses s.length (host_of b) _ _ hosted running fetched))
    (λ _. refuses s x Answer.FreeSlot refl)) (λ _. refuses s x Answer.NotInUse refl)) (λ _. refuses s x Answer.Malformed refl)

pick_moves : (s : Net) (b : ℕ) → NetOk s → Moves s (met s b).action (pick_of s b)
unfolding pick_of number_of
pick_moves s b ok = chosen (Moves s _) _ _ _ (λ _. step_moves s b ok) (λ _. refuses s _ Answer.Unsound refl)

-- ---- over a list of picks
pub run_balance :
    (s : Net) (picks : List ℕ) → Shaped s → sound_of s ≡ true
    → tuples_of (ran_from s picks).net + summed takes s picks ≡ tuples_of s + summed puts s picks
unfolding ran_from answered summed SoundKept
run_balance s [] shaped sound = refl
run_balance s (b ∷ bs) shaped sound =
    let kept = sound_kept s b shaped sound in
    let rest = run_balance (pick_of s b).net bs kept.1 kept.0 in
    let first = (pick_moves s b (sound_apart s shaped sound)).moved in
    omega (arith, rest, first)
