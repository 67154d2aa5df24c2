-- What the code of a stop, a fork and an eval leaves is what `specs/Actions.antt` says, way out by way out. In what follows slots are the
-- words of all slots, j the lowest free slot of l, x the target. Assumes nothing.
use Prim.Native.Nat.{ℕ, ◌+◌, ◌-◌, ◌%◌, ◌<◌, ◌≤◌}
use mathlib.Core.Path.{◌≡◌, ap, ◌∙◌}
use mathlib.Core.Bool.{Bool, true, false}
use mathlib.Core.List.{List, []}
use native.Mathlib.Omega.{arith}
use lib.ListN.{get_or}
use borrow.Author.Tests.{lt-ltb, le-ltb, le-leb, lt-leb}
use Rattle.net.specs.Choice.{choose}
use Rattle.lean_words.specs.Processes.{free_words, free_slot_in}
use Rattle.lean_words.specs.Rights.{admits_words}
use Rattle.lean.specs.Words.{slot_at, with_slot, with_word}
use Rattle.lean.specs.Actions.{Acted, acted_with, target_in, stop_of, copy_of, start_in, start_at, start_of, eval_at, eval_of}

module _ (slots : List (List (List ℕ))) where
  pub stop_is : (a k : ℕ) (ws : List ℕ) → ws ≡ free_words → acted_with 1 (with_slot slots a k ws) ≡ stop_of slots a k
  unfolding stop_of
  stop_is a k ws e = ap (λ (us : List ℕ). acted_with 1 (with_slot slots a k us)) e

  module _ (h : List ℕ) (a k l origin : ℕ) (j : ℕ) (is : j ≡ free_slot_in (get_or slots (l % 16) [])) where
    at_free : (r : Acted) → r ≡ start_at j slots h a k l origin → r ≡ start_of slots h a k l origin
    unfolding start_of
    at_free r e = e ∙ ap (λ (i : ℕ). start_at i slots h a k l origin) is

    pub start_done :
        j < 4
        → acted_with 0 (start_in (with_word slots a k 8 (get_or h 3 0)) l j (copy_of (slot_at slots a k) h origin))
        ≡ start_of slots h a k l origin
    unfolding start_at choose
    start_done few = at_free _ (rw (lt-ltb j 4 few))

    pub start_full : 4 ≤ j → acted_with 3 slots ≡ start_of slots h a k l origin
    unfolding start_at choose
    start_full many = at_free _ (rw (le-ltb j 4 many))

  module _ (rows : List (List (List Bool))) (need : List Bool) (h : List ℕ) (f : List (List ℕ)) (a k x : ℕ)
      (is : x ≡ target_in slots rows h f a k 3) where
    at_target_law : (r : Acted) → r ≡ eval_at x slots rows need h a k → r ≡ eval_of slots rows need h f a k
    unfolding eval_of
    at_target_law r e = e ∙ ap (λ (i : ℕ). eval_at i slots rows need h a k) is

    pub eval_refused : (y : ℕ) → x ≡ 16 + y → acted_with y slots ≡ eval_of slots rows need h f a k
    unfolding eval_at choose
    eval_refused y p =
        let far : 16 ≤ x = omega (arith, p) in
        let q : y ≡ x - 16 = omega (arith, p) in
        at_target_law _ (rw (le-leb 16 x far) (ap (λ (z : ℕ). acted_with z slots) q))

    module _ (near : x < 16) (within : Bool) (judged : within ≡ admits_words need (get_or (get_or rows (x % 16) []) (a % 16) []) x) where
      pub eval_admitted : within ≡ true → (r : Acted) → r ≡ start_of slots h a k x a → r ≡ eval_of slots rows need h f a k
      unfolding eval_at choose
      eval_admitted ok r e = at_target_law r (rw (lt-leb 16 x near, ← judged, ok) e)

      pub eval_barred : within ≡ false → acted_with 5 slots ≡ eval_of slots rows need h f a k
      unfolding eval_at choose
      eval_barred ko = at_target_law _ (rw (lt-leb 16 x near, ← judged, ko))
