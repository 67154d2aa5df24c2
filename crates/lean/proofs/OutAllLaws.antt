-- An out to a set on words that stand for a sound net is the one of the lean step. Assumes nothing.
use Prim.Native.Nat.{ℕ, ◌+◌, ◌<◌, ◌≤◌, ◌%◌}
use mathlib.Core.Path.{◌≡◌, refl, sym, ap, ap₂, ◌∙◌}
use mathlib.Core.Bool.{Bool, true, false}
use mathlib.Core.List.{List, []}
use native.Mathlib.Omega.{arith}
use lib.Dec.{eqb, ltb}
use lib.ListN.{length, get_or, set, replicate, length-set}
use Rattle.net.specs.Choice.{choose, implies}
use Rattle.net.specs.Groups.{member, all_members}
use Rattle.net.specs.Records.{address_of, marked, moved_to}
use Rattle.net.specs.declared.locality.Group.{Group}
use Rattle.net.proofs.AllLaws.{all_same}
use Rattle.net.proofs.Every.{chosen_lt}
use Rattle.matching.specs.declared.template.Evaluated.{Evaluated}
use Rattle.matching.specs.Matching.{evaluated_of}
use Rattle.sound.specs.Soundness.{group_sound}
use Rattle.sound.proofs.CodeFacts.{Acts, OutTemplate}
use Rattle.plans.specs.declared.request.Request.{Request}
use Rattle.plans.specs.Answer.{number_of}
use Rattle.plans.specs.Request.{asked}
use Rattle.plans.specs.Additions.{tuple_of}
use Rattle.step.specs.Pick.{performed, with_host, added, room_at_all, added_all, out_all, carried_out}
use Rattle.lean_step.specs.LeanStep.{at_variable, lean_acting, lean_process_step}
use Rattle.lean_words.specs.Stores.{tuple_in}
use Rattle.lean_words.proofs.FilledLaws.{filled_at}
use Rattle.lean_code.specs.Fields.{template_words, defined_words}
use Rattle.lean_code.specs.Heads.{alone_words, action_words, head_words, member_flags, flags_of, set_flags}
use Rattle.lean_code.specs.Ranged.{RangedTuple}
use Rattle.lean_code.proofs.BoundLaws.{fold_pair}
use Rattle.lean_code.proofs.TemplateLaws.{defined_in_law}
use Rattle.lean.specs.Types.{Place, Process, Action, Instruction, Net, Answer, Picked}
use Rattle.lean.specs.Words.{Words, Sized, RangedTuples, net_in, with_word}
use Rattle.lean.specs.Actions.{Moved, Put, Given, moved_with, given_with, put_of, tuple_from, room_in, given_by, given_at, put_below, out_all_put, out_to_all, out_all_of}
use Rattle.lean.specs.Rounds.{after_moved, out_all_words}
use Rattle.lean.specs.Standing.{Seated, Agrees}
use Rattle.lean.proofs.ActionTypes.{OutAllAgrees}
use Rattle.lean.proofs.Aims.{seat_few, seat_ranged, seat_values, seat_fields, seat_acts, seat_head, seat_asks, alike}
use Rattle.lean.proofs.Frame.{with_stores, stored_at}
use Rattle.lean.proofs.Hosts.{with_host_words, host_sized, moved_words, host_moved, moved_ranged, same_moved}
use Rattle.lean.proofs.Seats.{nodes_are}
use Rattle.lean.proofs.SizedKept.{grid_put}
use Rattle.lean.proofs.StoreChanges.{put_anew, put_full, put_ranged, slot_ranged}
use Rattle.lean.proofs.Tuples.{out_tuple, tuple_is, tuple_ranged, tuple_from_law}

-- the members of a set, as flags
flag_at : (g : Group) (l : ℕ) → l < 16 → get_or (member_flags g) l false ≡ member g (address_of l)
unfolding member_flags
flag_at g l h = filled_at (λ i. member g (address_of i)) (replicate 16 false) false 16 l h h

-- ---- the tuple put at each member
module _ (start : Net) (size : length start.nodes ≡ 16) (w : Words) (t : List ℕ) (ranged : RangedTuple t) where
  -- the stores are those of the net s
  record Storing (r : Given) (s : Net) : Type 0 where
    sized : Sized (with_stores w r.stored r.tuples)
    net_is : net_in start (with_stores w r.stored r.tuples) ≡ s
    tuples_ranged : RangedTuples r.tuples

  module _ (r : Given) (s : Net) (b : Storing r s) (l : ℕ) (h : l < 16) where
    abbrev here : Words
    here = with_stores w r.stored r.tuples

    abbrev n : ℕ
    n = get_or r.stored l 0

    room_stored :
        n < 16
        → Storing (given_with (set r.stored l (n + 1)) (set r.tuples l (set (get_or r.tuples l []) n t)))
        (added s (address_of l) (tuple_in t))
    room_stored room = record {
      sized = record {
        slots_are = b.sized.slots_are;
        stored_are = length-set r.stored l (n + 1) ∙ b.sized.stored_are;
        tuples_are = grid_put r.tuples l n t h b.sized.tuples_are;
        rows_are = b.sized.rows_are;
        each_row = b.sized.each_row;
      };
      net_is = put_anew start size here b.sized l h t room ∙ ap (λ (s' : Net). added s' (address_of l) (tuple_in t)) b.net_is;
      tuples_ranged = put_ranged r.tuples l n t h b.tuples_ranged ranged;
    }

    full_stored : 16 ≤ n → Storing r (added s (address_of l) (tuple_in t))
    full_stored full = record {
      sized = b.sized;
      net_is =
          sym (put_full start size here b.sized l h (tuple_in t) full) ∙ ap (λ (s' : Net). added s' (address_of l) (tuple_in t)) b.net_is;
      tuples_ranged = b.tuples_ranged;
    }

    put_stored : Storing (given_by (put_of r.stored r.tuples l t)) (added s (address_of l) (tuple_in t))
    unfolding put_of given_by
    put_stored =
        let near : l % 16 ≡ l = omega arith in
        rw near
        (chosen_lt (λ (u : Put). Storing (given_by u) (added s (address_of l) (tuple_in t))) n 16 _ _ room_stored full_stored)

  -- at each member
  all_stored :
      (g : Group) (s : Net) → Storing (given_with w.stored w.tuples) s
      → Storing (put_below 16 w.stored w.tuples (member_flags g) t) (added_all s g (tuple_in t))
  unfolding put_below given_at added_all
  all_stored g s b =
      fold_pair Storing _ _ 16 _ s b
      (λ l r s' h u.
      rw (flag_at g l h)
      (alike Storing (member g (address_of l)) _ _ _ _ (λ _. put_stored r s' u l h) (λ _. u)))

-- ---- the action
module _
    (start : Net) (w : Words) (a k : ℕ) (ws : List ℕ) (p : Process) (c : Instruction) (seat : Seated start w a k ws p c)
    (g : Group) (q : Place) (act : c.action ≡ Action.OutAll g q)
  where
    abbrev s : Net
    s = net_in start w

    abbrev e : Evaluated
    e = evaluated_of (address_of a) p c

    abbrev h : List ℕ
    h = head_words c

    abbrev x : Action
    x = Action.OutAll g q

    known : (eqb start.format 1 ≡ false) × (group_sound w.count g ≡ true) × (q.0 < start.length) × OutTemplate w.count c
    unfolding Acts
    known = seat_acts start w a k ws p c seat x act

    head_is : (i : ℕ) → get_or h i 0 ≡ get_or (alone_words 7 q 0 c.count) i 0
    unfolding action_words
    head_is i = seat_head start w a k ws p c seat x i act

    flags_are : set_flags c ≡ member_flags g
    unfolding set_flags flags_of
    flags_are = ap flags_of act

    room_is : room_in w.stored (member_flags g) ≡ room_at_all s g
    unfolding room_in room_at_all all_members
    room_is =
        all_same 16 _ _ (λ l low.
        ap₂ (λ (b : Bool) (n : ℕ). implies b (ltb n 16)) (flag_at g l low) (sym (stored_at start (nodes_are start w seat.stands) w l low)))

    module _ (there : defined_words ws (template_words c) ≡ true) where
      abbrev tuple : List ℕ
      tuple = out_tuple start w a k ws p c seat known.3.each there

      done :
          Agrees start (after_moved w (out_all_put w.slots h a k (put_below 16 w.stored w.tuples (member_flags g) tuple)))
          (performed (added_all (with_host s (address_of a) k (moved_to p q)) g (marked (address_of a) (tuple_of e))))
      unfolding after_moved out_all_put with_word performed number_of alone_words
      done =
          let stored =
          all_stored start (nodes_are start w seat.stands)
          (with_host_words start w a k ws p c seat (moved_words start w a k ws p c seat q.0)) tuple
          (tuple_ranged start w a k ws p c seat known.3.each there) g _
          (record {
            sized = host_sized start w a k ws p c seat _;
            net_is = host_moved start w a k ws p c seat q known.2;
            tuples_ranged = seat.stands.ranged.tuples_ranged;
          }) in
          rw (head_is 3) (record {
            answer_is = refl;
            net_is =
                stored.net_is
                ∙ ap (added_all (with_host s (address_of a) k (moved_to p q)) g) (tuple_is start w a k ws p c seat known.3.each there);
            ranged = record {
              slots_in = slot_ranged w.slots a k _ seat.stands.ranged.slots_in (moved_ranged start w a k ws p c seat q.0);
              tuples_ranged = stored.tuples_ranged;
            };
          })

      reached :
          Agrees start
          (after_moved w
          (choose (room_in w.stored (member_flags g))
          (out_all_put w.slots h a k (put_below 16 w.stored w.tuples (member_flags g) tuple))
          (moved_with 3 w.slots w.stored w.tuples)))
          (carried_out s (address_of a) k p e (Request.OutAll g q))
      unfolding carried_out out_all number_of
      reached =
          rw room_is
          (alike (λ (m : Moved) (r : Picked). Agrees start (after_moved w m) r) (room_at_all s g) _ _ _ _ (λ _. done)
          (λ _. same_moved start w a k ws p c seat 3 Answer.NoRoom refl))

    -- what it asks for, by what the words know
    defined : e.defined ≡ defined_words ws (template_words c)
    defined =
        sym (defined_in_law w.count a ws p (seat_few start w a k ws p c seat) seat.used (seat_ranged start w a k ws p c seat)
        (seat_values start w a k ws p c seat) c (seat_fields start w a k ws p c seat))

    step_is :
        lean_process_step s (address_of a) k p c
        ≡ carried_out s (address_of a) k p e (choose (defined_words ws (template_words c)) (Request.OutAll g q) Request.Lack)
    unfolding lean_process_step lean_acting at_variable choose asked
    step_is =
        rw (ap at_variable act, seat_asks start w a k ws p c seat x act)
        (ap (λ (b : Bool). carried_out s (address_of a) k p e (choose b (Request.OutAll g q) Request.Lack)) defined)

    by_known :
        (b : Bool) → defined_words ws (template_words c) ≡ b
        → Agrees start
        (after_moved w
        (choose b
        (choose (room_in w.stored (member_flags g))
        (out_all_put w.slots h a k (put_below 16 w.stored w.tuples (member_flags g) (tuple_from w.slots h (template_words c) a k)))
        (moved_with 3 w.slots w.stored w.tuples))
        (moved_with 6 w.slots w.stored w.tuples)))
        (carried_out s (address_of a) k p e (choose b (Request.OutAll g q) Request.Lack))
    unfolding choose carried_out number_of alone_words
    by_known true d = rw (tuple_from_law start w a k ws p c seat known.3.each d h (head_is 5)) (reached d)
    by_known false d = same_moved start w a k ws p c seat 6 Answer.NotSet refl

    agrees : Agrees start (out_all_words w (set_flags c) h (template_words c) a k) (lean_process_step s (address_of a) k p c)
    unfolding out_all_words out_all_of out_to_all
    agrees = rw (flags_are, seat.words_are, step_is) (by_known _ refl)

pub out_all_agrees : OutAllAgrees
unfolding OutAllAgrees
out_all_agrees = agrees
