-- The host's process with other words, in the net that they stand for: the one that moves on, and any other; and words to which nothing is
-- done. Assumes nothing.
use Prim.Native.Nat.{ℕ, ◌<◌, ◌%◌}
use mathlib.Core.Path.{◌≡◌, refl, sym, ap, subst, ◌∙◌}
use mathlib.Core.List.{List}
use native.Mathlib.Omega.{arith}
use lib.ListN.{set}
use Rattle.net.specs.Records.{address_of, moved_to}
use Rattle.plans.specs.Answer.{number_of}
use Rattle.step.specs.Pick.{unchanged, with_host}
use Rattle.lean_words.specs.Processes.{process_in}
use Rattle.lean_code.specs.Ranged.{RangedSlot}
use Rattle.lean_code.proofs.BoundLaws as bound
use Rattle.lean_code.proofs.Rewritten.{place_anew}
use Rattle.lean.specs.Types.{Place, Process, Instruction, Net, Answer}
use Rattle.lean.specs.Words.{Words, Sized, net_in, slot_at, with_slot}
use Rattle.lean.specs.Rounds.{after_acted, after_moved}
use Rattle.lean.specs.Standing.{Seated, Agrees}
use Rattle.lean.proofs.Aims.{seat_ranged}
use Rattle.lean.proofs.Frame.{with_slots, with_slot_law, slot_anew}
use Rattle.lean.proofs.Seats.{nodes_are, code_below, seat_host}
use Rattle.lean.proofs.SizedKept.{grid_put}

module _ (start : Net) (w : Words) (a k : ℕ) (ws : List ℕ) (p : Process) (c : Instruction) (seat : Seated start w a k ws p c) where
  abbrev pub with_host_words : List ℕ → Words
  with_host_words us = with_slots w (with_slot w.slots a k us)

  pub host_sized : (us : List ℕ) → Sized (with_host_words us)
  unfolding with_slot
  host_sized us = record {
    slots_are = grid_put w.slots (a % 16) (k % 4) us (omega arith) seat.stands.sized.slots_are;
    stored_are = seat.stands.sized.stored_are;
    tuples_are = seat.stands.sized.tuples_are;
    rows_are = seat.stands.sized.rows_are;
    each_row = seat.stands.sized.each_row;
  }

  pub host_anew : (us : List ℕ) → net_in start (with_host_words us) ≡ with_host (net_in start w) (address_of a) k (process_in us)
  host_anew us =
      let host = seat_host start w a k ws p c seat in
      ap (λ (slots : List (List (List ℕ))). net_in start (with_slots w slots)) (with_slot_law w.slots a k us host seat.slot)
      ∙ slot_anew start (nodes_are start w seat.stands) w seat.stands.sized a host k us

  -- moved on
  abbrev pub moved_words : ℕ → List ℕ
  moved_words q = set (slot_at w.slots a k) 8 q

  pub host_moved : (q : Place) → q.0 < start.length → net_in start (with_host_words (moved_words q.0)) ≡ with_host (net_in start w) (address_of a) k (moved_to p q)
  host_moved q h =
      host_anew _
      ∙ ap (with_host (net_in start w) (address_of a) k)
      (ap (λ (us : List ℕ). process_in (set us 8 q.0)) seat.words_are
      ∙ place_anew ws (seat_ranged start w a k ws p c seat).size seat.busy q.0 (omega (arith, code_below start w seat.stands))
      ∙ ap (λ (r : Process). moved_to r q) seat.decoded)

  pub moved_ranged : (q : ℕ) → RangedSlot (moved_words q)
  moved_ranged q =
      bound.slot_anew _ 8 q (subst RangedSlot (sym seat.words_are) (seat_ranged start w a k ws p c seat))
      (λ e. omega (arith, e)) (λ l. absurd (omega arith))

  -- nothing done
  pub same_moved :
      (n : ℕ) (x : Answer) → n ≡ number_of x
      → Agrees start (after_moved w (record { answer = n; slots = w.slots; stored = w.stored; tuples = w.tuples })) (unchanged x (net_in start w))
  unfolding after_moved unchanged
  same_moved n x e = record { answer_is = e; net_is = refl; ranged = seat.stands.ranged }

  pub same_acted :
      (n : ℕ) (x : Answer) → n ≡ number_of x
      → Agrees start (after_acted w (record { answer = n; slots = w.slots })) (unchanged x (net_in start w))
  unfolding after_acted unchanged
  same_acted n x e = record { answer_is = e; net_is = refl; ranged = seat.stands.ranged }
