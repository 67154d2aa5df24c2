-- The tuple that a read or an in meets on words (`meet_of` of `specs/Actions.antt`), and the process bound to it, are those that `matched_of` of
-- `matching` gives. Assumes nothing.
use Prim.Native.Nat.{ℕ, ◌<◌, ◌≤◌, ◌%◌}
use mathlib.Core.Path.{◌≡◌, refl, sym, ap, subst, ◌∙◌}
use mathlib.Core.Bool.{Bool, true, false}
use mathlib.Core.List.{List, []}
use native.Mathlib.Omega.{arith}
use lib.Dec.{ltb}
use lib.ListN.{get_or}
use borrow.Author.Tests.{ltb-true, ltb-false}
use Rattle.std.specs.Prelude.{Option, Some, None}
use Rattle.net.specs.Choice.{choose}
use Rattle.net.specs.Records.{address_of, node_at, tuple_at, moved_to}
use Rattle.matching.specs.declared.template.Evaluated.{Evaluated}
use Rattle.matching.specs.Matching.{evaluated_of, oldest_of, bound_of, bound_at, matched_of}
use Rattle.sound.proofs.NodeFacts.{TupleOk, NodeOk}
use Rattle.sound.proofs.NetChanges.{node_at_law}
use Rattle.step.specs.Pick.{with_host}
use Rattle.lean_words.specs.Stores.{tuple_in, oldest_in}
use Rattle.lean_code.specs.Fields.{template_words, defined_words, wants_words, bound_words}
use Rattle.lean_code.specs.Ranged.{RangedSlot}
use Rattle.lean_code.proofs.BoundLaws.{bound_in, bound_ranged}
use Rattle.lean_code.proofs.StoredLaws.{oldest_in_law, oldest_stored}
use Rattle.lean.specs.Types.{Place, Process, Tuple, Node, Instruction, Net}
use Rattle.lean.specs.Words.{Words, net_in, with_slot}
use Rattle.lean.specs.Actions.{Met, met_with, met_at, meet_of}
use Rattle.lean.specs.Standing.{Seated}
use Rattle.lean.proofs.Aims.{seat_few, seat_ranged, seat_values, seat_fields}
use Rattle.lean.proofs.Frame.{stored_at, tuple_at_law}
use Rattle.lean.proofs.Hosts.{with_host_words, host_anew}
use Rattle.lean.proofs.Seats.{net_ok, nodes_are, code_below}

module _
    (start : Net) (w : Words) (a k : ℕ) (ws : List ℕ) (p : Process) (c : Instruction) (seat : Seated start w a k ws p c)
    (there : defined_words ws (template_words c) ≡ true) (q : Place) (next : q.0 < start.length) (l : ℕ) (used : l < w.count)
  where
    abbrev s : Net
    s = net_in start w

    abbrev e : Evaluated
    e = evaluated_of (address_of a) p c

    abbrev x : Node
    x = node_at (net_in start w) (address_of l)

    abbrev store : List (List ℕ)
    store = get_or w.tuples l []

    low : l < 16
    low = omega (arith, seat_few start w a k ws p c seat)

    node_ok : NodeOk start.format w.count start.length x
    unfolding net_in
    node_ok = node_at_law (net_in start w) (net_ok start w seat.stands) (address_of l) used

    -- ---- the tuple
    tuples_ok : (j : ℕ) → j < 16 → j < x.stored → TupleOk w.count (tuple_at x j)
    unfolding tuple_at
    tuples_ok j h g = (node_ok.tuples_ok.holds j h).used g

    each : (j : ℕ) → j < 16 → tuple_at x j ≡ tuple_in (get_or store j [])
    each = tuple_at_law start (nodes_are start w seat.stands) w l low

    -- the oldest of so many that fits
    abbrev oldest_of_first : ℕ → ℕ
    oldest_of_first n = oldest_in store n (wants_words ws a (template_words c) c.count)

    abbrev met : ℕ
    met = oldest_of_first (get_or w.stored l 0)

    stored_is : x.stored ≡ get_or w.stored l 0
    stored_is = stored_at start (nodes_are start w seat.stands) w l low

    found_is : oldest_of x e ≡ choose (ltb met 16) (Some met) None
    found_is =
        subst
        (λ (n : ℕ). oldest_of x e ≡ choose (ltb (oldest_of_first n) 16) (Some (oldest_of_first n)) None)
        stored_is
        (oldest_in_law w.count a ws p (seat_few start w a k ws p c seat) seat.used (seat_ranged start w a k ws p c seat)
        (seat_values start w a k ws p c seat) c (seat_fields start w a k ws p c seat) there x store each
        (λ j h. seat.stands.ranged.tuples_ranged.each l j low h) tuples_ok)

    met_stored : met < 16 → met < get_or w.stored l 0
    met_stored =
        subst (λ (n : ℕ). oldest_of_first n < 16 → oldest_of_first n < n) stored_is
        (oldest_stored w.count a ws p (seat_few start w a k ws p c seat) seat.used (seat_ranged start w a k ws p c seat)
        (seat_values start w a k ws p c seat) c (seat_fields start w a k ws p c seat) there x store each
        (λ j h. seat.stands.ranged.tuples_ranged.each l j low h) tuples_ok)

    -- ---- the process bound to the tuple at place j, moved on
    abbrev pub bound_to : ℕ → List ℕ
    bound_to j = bound_words ws (template_words c) (get_or store j []) q.0

    pub bound_host :
        (j : ℕ) → j < 16
        → net_in start (with_host_words start w a k ws p c seat (bound_to j)) ≡ with_host s (address_of a) k (moved_to (bound_of p (tuple_at x j) e) q)
    bound_host j h =
        host_anew start w a k ws p c seat (bound_to j)
        ∙ ap (with_host s (address_of a) k)
        (bound_in w.count a p c (seat_fields start w a k ws p c seat) (get_or store j [])
        (seat.stands.ranged.tuples_ranged.each l j low h) ws (seat_ranged start w a k ws p c seat) seat.busy seat.decoded q.0
        (omega (arith, code_below start w seat.stands))
        ∙ ap (λ (t : Tuple). moved_to (bound_of p t e) q) (sym (each j h)))

    pub bound_slot : (j : ℕ) → j < 16 → RangedSlot (bound_to j)
    bound_slot j h =
        bound_ranged w.count a p c (seat_fields start w a k ws p c seat) (get_or store j [])
        (seat.stands.ranged.tuples_ranged.each l j low h) ws (seat_ranged start w a k ws p c seat) seat.busy seat.decoded q.0

    -- ---- what is met
    module _
        (Q : Met → Option ℕ → Process → Type 0)
        (some : (j : ℕ) → j < 16 → j < get_or w.stored l 0
        → Q (met_with j (with_slot w.slots a k (bound_to j))) (Some j) (bound_of p (tuple_at x j) e))
        (none : (j : ℕ) → 16 ≤ j → Q (met_with j w.slots) None p)
      where
        by_test :
            (b : Bool) → ltb met 16 ≡ b
            → Q (choose b (met_with met (with_slot w.slots a k (bound_to met))) (met_with met w.slots))
            (choose b (Some met) None) (bound_at (choose b (Some met) None) p x e)
        unfolding choose bound_at
        by_test true h = some met (ltb-true met 16 h) (met_stored (ltb-true met 16 h))
        by_test false h = none met (ltb-false met 16 h)

        pub meeting :
            (h : List ℕ) → get_or h 3 0 ≡ q.0 → get_or h 5 0 ≡ c.count
            → Q (meet_of w.slots w.stored w.tuples h (template_words c) a k l) (matched_of p x e).found (matched_of p x e).process
        unfolding meet_of met_at matched_of
        meeting h at_next at_count =
            let near : l % 16 ≡ l = omega (arith, low) in
            rw (near, seat.words_are, at_next, at_count, found_is) (by_test _ refl)
