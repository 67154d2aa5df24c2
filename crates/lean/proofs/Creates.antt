-- A new on words that stand for a sound net is the new of the lean step, in either format. Assumes nothing.
use Prim.Native.Nat.{ℕ, ◌+◌, ◌<◌, ◌%◌}
use mathlib.Core.Path.{◌≡◌, refl, sym, ap, ap₂, ◌∙◌}
use mathlib.Core.Logic.{◌≢◌}
use mathlib.Core.Bool.{Bool}
use mathlib.Core.List.{List, []}
use native.Mathlib.Omega.{arith}
use native.Mathlib.Decide.{ℕ_discrete}
use lib.Dec.{ltb}
use lib.ListN.{length, get_or, set, length-set}
use lib.Seq.{get_or-set_same, get_or-set_other, set-set}
use borrow.Author.Tests.{lt-ltb, ltb-true}
use Rattle.net.specs.Choice.{choose}
use Rattle.net.specs.Records.{address_of, node_at, row_for, with_process, with_variable, moved_to, with_rows, with_node, with_counts, zero_node}
use Rattle.net.specs.declared.tuple.Value.{Value}
use Rattle.net.proofs.Laws.{choose_true}
use Rattle.net.proofs.Past.{past_node}
use Rattle.sound.proofs.CodeFacts.{Acts, Bare}
use Rattle.plans.specs.Answer.{number_of}
use Rattle.plans.specs.Request.{asked}
use Rattle.plans.specs.Additions.{own_row, opened_rows, creator_rows}
use Rattle.step.specs.Pick.{unchanged, performed, opened, unused, created_at, created, create, carried_out}
use Rattle.lean_step.specs.LeanStep.{at_variable, lean_acting}
use Rattle.lean_words.specs.Filled.{filled}
use Rattle.lean_words.specs.Processes.{process_in}
use Rattle.lean_words.specs.Rights.{row_in}
use Rattle.lean_words.proofs.FilledLaws.{length_filled, filled_at, filled_whole}
use Rattle.lean_code.specs.Heads.{alone_words, action_words, head_words}
use Rattle.lean_code.specs.Ranged.{RangedSlot}
use Rattle.lean_code.proofs.BoundLaws.{slot_anew}
use Rattle.lean_code.proofs.Rewritten.{variable_anew, place_anew}
use Rattle.lean_code.proofs.WordLaws.{value_address}
use Rattle.lean.specs.Types.{Place, Process, Node, Action, Instruction, Net, Picked}
use Rattle.lean.specs.Words.{Words, Grid, processes_in, rows_in, node_with, node_in, net_in, slot_at, with_slot, with_word}
use Rattle.lean.specs.Actions.{Created, created_with, open_of, create_of}
use Rattle.lean.specs.Rounds.{after_created, create_words}
use Rattle.lean.specs.Standing.{Seated, Agrees}
use Rattle.lean.proofs.ActionTypes.{CreateAgrees}
use Rattle.lean.proofs.Aims.{seat_ranged, seat_origin, seat_row, seat_acts, seat_head, alike}
use Rattle.lean.proofs.Frame.{process_anew, node_in_law, row_at_law, with_slot_law}
use Rattle.lean.proofs.Opened.{others_rows, creator_rows_law, opened_rows_law}
use Rattle.lean.proofs.Seats.{net_ok, nodes_are, code_below, seat_host, seat_running}
use Rattle.lean.proofs.Starts.{alone_step}
use Rattle.lean.proofs.StoreChanges.{slot_ranged}

-- ---- two nodes anew, and the count
module _ (start : Net) (size : length start.nodes ≡ 16) (w w' : Words) (a b : ℕ) (x y : Node) (apart : a ≢ b) (host : a < 16) (low : b < 16)
    (others : (i : ℕ) → i ≢ a → i ≢ b → node_in w' i ≡ node_in w i) (here : node_in w' a ≡ x) (there : node_in w' b ≡ y) where
  abbrev old : List Node
  old = filled 16 (node_in w) start.nodes

  sized : length old ≡ 16
  sized = length_filled (node_in w) start.nodes 16 ∙ size

  each : (i : ℕ) → i < 16 → node_in w' i ≡ get_or (set (set old a x) b y) i past_node
  each i h = go (ℕ_discrete i b) (ℕ_discrete i a)
    where
      go : Dec (i ≡ b) → Dec (i ≡ a) → node_in w' i ≡ get_or (set (set old a x) b y) i past_node
      go (yes e) _ = rw e (there ∙ sym (get_or-set_same (set old a x) b y past_node (omega (arith, length-set old a x, sized))))
      go (no n) (yes e) =
          rw e
          (here ∙ sym (get_or-set_other (set old a x) b a y past_node apart ∙ get_or-set_same old a x past_node (omega (arith, sized))))
      go (no n) (no m) =
          others i m n
          ∙ sym
          (get_or-set_other (set old a x) b i y past_node n ∙ get_or-set_other old a i x past_node m
          ∙ filled_at (node_in w) start.nodes past_node 16 i h (omega arith))

  two_anew : net_in start w' ≡ with_node (with_node (with_counts (net_in start w) w'.count start.length) (address_of a) x) (address_of b) y
  unfolding net_in with_node with_counts
  two_anew =
      ap
      (λ (xs : List Node).
      record { format = start.format; addresses = w'.count; length = start.length; nodes = xs; code = start.code })
      (filled_whole past_node 16 (node_in w') start.nodes size (set (set old a x) b y)
      (length-set (set old a x) b y ∙ length-set old a x ∙ sized) each)

-- ---- two words of one slot
word_word :
    (slots : List (List (List ℕ))) (a k i j x y : ℕ) → Grid 16 4 slots
    → with_word (with_word slots a k i x) a k j y ≡ with_slot slots a k (set (set (slot_at slots a k) i x) j y)
unfolding with_word with_slot slot_at
word_word slots a k i j x y g =
    let row = get_or slots (a % 16) [] in
    let us = set (get_or row (k % 4) []) i x in
    let host : a % 16 < 16 = omega arith in
    let slot : k % 4 < 4 = omega arith in
    rw (
      get_or-set_same slots (a % 16) (set row (k % 4) us) [] (omega (arith, g.long)),
      get_or-set_same row (k % 4) us [] (omega (arith, g.wide (a % 16) host)),
    ) (simp set-set)

module _
    (start : Net) (w : Words) (a k : ℕ) (ws : List ℕ) (p : Process) (c : Instruction) (seat : Seated start w a k ws p c)
    (v : ℕ) (q : Place) (act : c.action ≡ Action.New v q) (room : w.count < 16)
  where
    abbrev s : Net
    s = net_in start w

    abbrev h : List ℕ
    h = head_words c

    abbrev n : ℕ
    n = w.count

    abbrev o : ℕ
    o = get_or ws 9 0

    abbrev x : Node
    x = node_at (net_in start w) (address_of a)

    known : (v < 8) × (q.0 < start.length) × Bare c
    unfolding Acts
    known = seat_acts start w a k ws p c seat (Action.New v q) act

    -- ---- the process
    abbrev us : List ℕ
    us = set (set ws v n) 8 q.0

    process_is : process_in us ≡ moved_to (with_variable p v (Value.Address (address_of n))) q
    process_is =
        let size = (seat_ranged start w a k ws p c seat).size in
        let few = known.0 in
        place_anew (set ws v n) (length-set ws v n ∙ size) (rw (get_or-set_other ws v 8 n 0 (λ e. omega arith)) seat.busy) q.0
        (omega (arith, known.1, code_below start w seat.stands))
        ∙ ap (λ (r : Process). moved_to r q)
        (variable_anew ws size seat.busy v n few ∙ ap₂ (λ (r : Process). with_variable r v) seat.decoded (value_address n (omega arith)))

    words_ranged : RangedSlot us
    words_ranged =
        let few = known.0 in
        slot_anew (set ws v n) 8 q.0
        (slot_anew ws v n (seat_ranged start w a k ws p c seat) (λ e. omega arith) (λ _. omega arith))
        (λ e. omega (arith, e)) (λ l. absurd (omega arith))

    slots_are : with_word (with_word w.slots a k (get_or h 4 0 % 16) n) a k 8 (get_or h 3 0) ≡ with_slot w.slots a k us
    unfolding action_words alone_words
    slots_are =
        let few = known.0 in
        let near : v % 16 ≡ v = omega arith in
        word_word w.slots a k (get_or h 4 0 % 16) 8 n (get_or h 3 0) seat.stands.sized.slots_are
        ∙ ap (with_slot w.slots a k)
        (rw (
          seat.words_are,
          seat_head start w a k ws p c seat (Action.New v q) 4 act,
          near,
          seat_head start w a k ws p c seat (Action.New v q) 3 act,
        ))

    -- ---- the rows
    used : a < n
    used = seat.used

    host : a < 16
    host = seat_host start w a k ws p c seat

    apart : a ≢ n
    apart e = omega (arith, used)

    origin : o < 16
    origin = omega (arith, seat_origin start w a k ws p c seat, (seat_running start w a k ws p c seat).origin_ok)

    abbrev rows : List (List (List Bool))
    rows = open_of start.format w.rows a o n

    grid : Grid 16 65 (get_or w.rows a [])
    grid = record { long = seat.stands.sized.rows_are.wide a host; wide = λ i l. seat.stands.sized.each_row a i host l }

    node_is : x ≡ node_in w a
    node_is = node_in_law start (nodes_are start w seat.stands) w a host

    rows_are : x.rows ≡ rows_in (get_or w.rows a [])
    unfolding node_in node_with
    rows_are = ap (λ (y : Node). y.rows) node_is

    row_is : row_for x p ≡ row_in (get_or (get_or w.rows a []) o [])
    row_is =
        let near : a % 16 ≡ a = omega (arith, host) in
        let low : o % 16 ≡ o = omega (arith, origin) in
        seat_row start w a k ws p c seat ∙ ap₂ (λ (i j : ℕ). row_in (get_or (get_or w.rows i []) j [])) near low

    own_is : own_row x (address_of a) ≡ row_in (get_or (get_or w.rows a []) a [])
    unfolding own_row
    own_is = choose_true _ _ _ (lt-ltb a 16 host) ∙ row_at_law start (nodes_are start w seat.stands) w a host a host

    -- ---- the nodes
    abbrev w' : Words
    w' = record { count = n + 1; slots = with_slot w.slots a k us; stored = w.stored; tuples = w.tuples; rows = rows }

    slots_at : with_slot w.slots a k us ≡ set w.slots a (set (get_or w.slots a []) k us)
    slots_at = with_slot_law w.slots a k us host seat.slot

    others : (i : ℕ) → i ≢ a → i ≢ n → node_in w' i ≡ node_in w i
    unfolding node_in
    others i u m =
        ap₂ (λ (ss : List (List ℕ)) (rs : List (List Bool)). node_with ss (get_or w.stored i 0) (get_or w.tuples i []) rs)
        (ap (λ (ss : List (List (List ℕ))). get_or ss i []) slots_at ∙ get_or-set_other w.slots a i (set (get_or w.slots a []) k us) [] u)
        (others_rows w.rows a o n host origin room apart seat.stands.sized.rows_are.long grid start.format i u m)

    processes_are : processes_in (get_or (with_slot w.slots a k us) a []) ≡ set x.processes k (moved_to (with_variable p v (Value.Address (address_of n))) q)
    unfolding node_in node_with
    processes_are =
        ap (λ (ss : List (List (List ℕ))). processes_in (get_or ss a [])) slots_at
        ∙ ap processes_in (get_or-set_same w.slots a (set (get_or w.slots a []) k us) [] (omega (arith, host, seat.stands.sized.slots_are.long)))
        ∙ process_anew (get_or w.slots a []) k us (seat.stands.sized.slots_are.wide a host)
        ∙ ap₂ (λ (ps : List Process) (z : Process). set ps k z) (ap (λ (y : Node). y.processes) (sym node_is)) process_is

    creator_is :
        node_in w' a
        ≡ with_rows (with_process x k (moved_to (with_variable p v (Value.Address (address_of n))) q)) (creator_rows start.format x p (address_of n))
    unfolding node_in node_with with_rows with_process
    creator_is = λ d. record {
      rows =
          creator_rows_law w.rows a o n host origin room apart seat.stands.sized.rows_are.long grid x p rows_are
          (seat_origin start w a k ws p c seat) row_is own_is start.format d;
      processes = processes_are d;
      stored = sym (ap (λ (y : Node). y.stored) node_is) d;
      tuples = sym (ap (λ (y : Node). y.tuples) node_is) d;
    }

    -- the new node: none of its records is in use
    zero_is : node_in w n ≡ zero_node
    unfolding node_at net_in
    zero_is =
        sym (node_in_law start (nodes_are start w seat.stands) w n room)
        ∙ ((net_ok start w seat.stands).nodes_ok.holds n room).unused (omega arith)

    opened-is : node_in w' n ≡ with_rows zero_node (opened_rows start.format x (address_of a) p (address_of n))
    unfolding node_in node_with with_rows
    opened-is = λ d. record {
      rows =
          opened_rows_law w.rows a o n host origin room apart seat.stands.sized.rows_are.long grid x p rows_are
          (seat_origin start w a k ws p c seat) row_is own_is start.format d;
      processes =
          (ap (λ (ss : List (List (List ℕ))). processes_in (get_or ss n [])) slots_at
          ∙ ap processes_in (get_or-set_other w.slots a n (set (get_or w.slots a []) k us) [] (λ e. apart (sym e)))
          ∙ ap (λ (y : Node). y.processes) zero_is) d;
      stored = ap (λ (y : Node). y.stored) zero_is d;
      tuples = ap (λ (y : Node). y.tuples) zero_is d;
    }

    created_is :
        Agrees start
        (after_created w
        (created_with 0 (n + 1) (with_word (with_word w.slots a k (get_or h 4 0 % 16) n) a k 8 (get_or h 3 0))
        (open_of start.format w.rows a (get_or (slot_at w.slots a k) 9 0) n)))
        (performed (created s (address_of a) k p v q))
    unfolding after_created performed created created_at opened unused number_of net_in
    created_is =
        rw (slots_are, seat.words_are)
        (record {
          answer_is = refl;
          net_is = two_anew start (nodes_are start w seat.stands) w w' a n _ _ apart host room others creator_is opened-is;
          ranged = record {
            slots_in = slot_ranged w.slots a k us seat.stands.ranged.slots_in words_ranged;
            tuples_ranged = seat.stands.ranged.tuples_ranged;
          };
        })

pub create_agrees : CreateAgrees
unfolding CreateAgrees create_words create_of lean_acting at_variable asked carried_out create unchanged choose number_of after_created net_in
create_agrees start w a k ws p c seat v q act =
    rw (alone_step start w a k ws p c seat (Action.New v q) act)
    (alike (λ (x : Created) (r : Picked). Agrees start (after_created w x) r) (ltb w.count 16) _ _ _ _
    (λ e. created_is start w a k ws p c seat v q act (ltb-true w.count 16 e))
    (λ _. record { answer_is = refl; net_is = refl; ranged = seat.stands.ranged }))
