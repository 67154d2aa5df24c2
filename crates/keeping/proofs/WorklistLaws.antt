-- The locals of the loop over reached places stand for a search of `specs/Reaching.antt`, and the two places that a visited
-- one leads to for what follows it (`specs/Worklist.antt`): so a visit is one of that search. Assumes nothing.
use Prim.Native.Nat.{ℕ, zero, suc, ◌+◌, ◌-◌, ◌*◌, ◌<◌, ◌≤◌}
use mathlib.Core.Path.{◌≡◌, refl, sym, ap, ◌∙◌}
use mathlib.Core.Bool.{Bool, true, false}
use mathlib.Core.List.{List, [], ◌∷◌}
use native.Mathlib.Nat.{add-zero}
use native.Mathlib.Numerals.{add-one}
use native.Mathlib.Omega.{arith}
use native.Mathlib.Decide.{dec_le}
use lib.ListN.{length, get_or, set, length-set}
use lib.Seq.{get_or-set_same, get_or-set_other}
use borrow.Author.Tests.{lt-ltb, le-ltb}
use mir.Syntax.{w64}
use mir.Val.{Fits}
use Rattle.net.specs.Choice.{choose}
use Rattle.net.specs.Records.{place_of}
use Rattle.keeping.specs.Types.{Place, Action}
use Rattle.keeping.specs.Reaching.{Search, meet, meet_all, followers}
use Rattle.keeping.specs.Worklist.{Onward, low_or, onward_to, Leads, unmarked, tops, search_of, OnTop, Visited}
use Rattle.net.proofs.Laws.{choose_true, choose_false}
use Rattle.keeping.proofs.Unmarked.{meet_cases, Measured, measured_meet, measured_meet_all, Marked, marked_meet, met_marked}

-- ---- meeting a place that is marked, or past the marks, changes nothing
module _ (s : Search) (p : Place) where
  pub met_before : (p.0 < 512 → Marked s.marks p) → meet s p ≡ s
  unfolding Marked
  met_before m =
      meet_cases (λ t. t ≡ s) s p (λ _. refl)
      (λ low off. let z : ◌≡◌ {A = ℕ} 0 1 = cc (m low) in absurd (omega arith))

  pub met_new : p.0 < 512 → get_or s.marks p.0 false ≡ false
      → meet s p ≡ record { marks = set s.marks p.0 true; waiting = p ∷ s.waiting }
  met_new low off =
      meet_cases (λ t. t ≡ record { marks = set s.marks p.0 true; waiting = p ∷ s.waiting }) s p
      (λ old. let z : ◌≡◌ {A = ℕ} 0 1 = cc (old low) in absurd (omega arith)) (λ _ _. refl)

-- ---- what follows an action
low_is : (q p : Place) → q.0 < 512 → low_or q p ≡ q
unfolding low_or
low_is q p h = choose_true _ q p (lt-ltb q.0 512 h)

high_is : (q p : Place) → 512 ≤ q.0 → low_or q p ≡ p
unfolding low_or
high_is q p h = choose_false _ q p (le-ltb q.0 512 h)

low_below : (q p : Place) → p.0 < 512 → (low_or q p).0 < 512
low_below q p h =
    elim (dec_le 512 q.0) [
      | yes f ↦ rw (high_is q p f) h
      | no n ↦ rw (low_is q p (omega arith)) (omega arith)
    ]

met_low : (s : Search) (q p : Place) → Marked s.marks p → meet s (low_or q p) ≡ meet s q
met_low s q p m =
    elim (dec_le 512 q.0) [
      | yes f ↦ rw (high_is q p f) (met_before s p (λ _. m) ∙ sym (met_before s q (λ l. absurd (omega arith))))
      | no n ↦ rw (low_is q p (omega arith)) refl
    ]

module _ (p : Place) where
  met_two : (s : Search) (q r : Place) → Marked s.marks p
      → meet (meet s (low_or q p)) (low_or r p) ≡ meet (meet s q) r
  met_two s q r m = met_low (meet s (low_or q p)) r p (marked_meet p s (low_or q p) m) ∙ ap (λ (t : Search). meet t r) (met_low s q p m)

  to_two : (action : Action) (q r : Place)
      → ((s : Search) → length s.marks ≡ 512 → Marked s.marks p → meet (meet s q) r ≡ meet_all s (followers action))
      → (o : Onward) → o ≡ onward_to p q r → Leads action p o
  unfolding onward_to Marked
  to_two action q r f o e = rw e (record {
    first_low = low_below q p;
    second_low = low_below r p;
    meets = λ s l m. met_two s q r m ∙ f s l m;
  })

  pub leads_none : (o : Onward) → o ≡ onward_to p p p → Leads Action.Stop p o
  unfolding followers meet_all
  leads_none o e =
      to_two Action.Stop p p (λ s l m. met_before (meet s p) p (λ _. marked_meet p s p m) ∙ met_before s p (λ _. m)) o e

  pub leads_two : (q r : Place) (o : Onward) → o ≡ onward_to p q r → Leads (Action.Fork q r) p o
  unfolding followers meet_all
  leads_two q r o e = to_two (Action.Fork q r) q r (λ s l m. refl) o e

  module _ (action : Action) (q : Place) (one : followers action ≡ q ∷ []) where
    pub leads_one : (o : Onward) → o ≡ onward_to p q p → Leads action p o
    unfolding meet_all
    leads_one o e = to_two action q p (λ s l m. rw one (met_before (meet s q) p (λ _. marked_meet p s q m))) o e

    pub leads_again : (o : Onward) → o ≡ onward_to p q q → Leads action p o
    unfolding meet_all
    leads_again o e =
        to_two action q q
        (λ s l m. rw one (met_before (meet s q) q (met_marked s q (record { long = l; left = refl })))) o e

pub leads_as : (p : Place) (action known : Action) (o : Onward) → action ≡ known → Leads known p o → Leads action p o
leads_as p action known o e l = rw e l

pub ruleset leading = (leads_as, leads_none, leads_one, leads_again, leads_two)

pub onward_is : (p q r a b : Place) → a ≡ low_or q p → b ≡ low_or r p → record { first = a; second = b } ≡ onward_to p q r
unfolding onward_to
onward_is p q r a b d e = cc

-- ---- the waiting places: the first n of the list, the last one on top
pub tops_length : (ns : List ℕ) (n : ℕ) → length (tops ns n) ≡ n
unfolding tops
tops_length ns zero = refl
tops_length ns (suc n) = ap suc (tops_length ns n)

pub tops_last : (ns : List ℕ) (n : ℕ) → 0 < n → tops ns n ≡ place_of (get_or ns (n - 1) 0) ∷ tops ns (n - 1)
unfolding tops
tops_last ns zero h = absurd (omega arith)
tops_last ns (suc k) h = let e : suc k - 1 ≡ k = omega arith in rw e refl

tops_set : (ns : List ℕ) (n k i : ℕ) → k ≤ n → tops (set ns n i) k ≡ tops ns k
unfolding tops
tops_set ns n zero i h = refl
tops_set ns n (suc k) i h = rw (get_or-set_other ns n k i 0 (omega arith), tops_set ns n k i (omega arith))

tops_put : (ns : List ℕ) (n i : ℕ) → n < length ns → tops (set ns n i) (n + 1) ≡ place_of i ∷ tops ns n
unfolding tops
tops_put ns n i h = rw (add-one, get_or-set_same ns n i 0 h, tops_set ns n n i (omega arith))

-- ---- a place written on top of the waiting ones, which counts only where it had no mark, is met
set_again : (marks : List Bool) (i : ℕ) → get_or marks i false ≡ true → set marks i true ≡ marks
set_again [] i h = refl
set_again (m ∷ ms) zero h = ap (λ (b : Bool). b ∷ ms) (sym h)
set_again (m ∷ ms) (suc i) h = ap (λ (l : List Bool). m ∷ l) (set_again ms i h)

module _ (marks : List Bool) (waiting : List ℕ) (n : ℕ) (q : Place) (long : n < length waiting) (low : q.0 < 512) where
  put_by : (b : Bool) → get_or marks q.0 false ≡ b
      → search_of (set marks q.0 true) (set waiting n q.0) (n + choose b 0 1) ≡ meet (search_of marks waiting n) q
  unfolding search_of choose Marked
  put_by true e =
      rw (set_again marks q.0 e, add-zero, tops_set waiting n n q.0 (omega arith))
      (sym (met_before (search_of marks waiting n) q (λ _. e)))
  put_by false e = rw (tops_put waiting n q.0 long) (sym (met_new (search_of marks waiting n) q low e))

  put_is : (f : ℕ) → f ≡ choose (get_or marks q.0 false) 0 1
      → search_of (set marks q.0 true) (set waiting n q.0) (n + f) ≡ meet (search_of marks waiting n) q
  put_is f e = rw e (put_by _ refl)

-- ---- one visit
pub left_is : (m : ℕ) (marks : List Bool) (waiting : List ℕ) (n : ℕ) → Measured m (search_of marks waiting n) → n + unmarked marks ≡ m
unfolding search_of
left_is m marks waiting n h = omega (arith, h.left, tops_length waiting n)

module _ (marks : List Bool) (waiting : List ℕ) (count : ℕ) (t : OnTop marks waiting count) where
  -- the search without the place on top
  abbrev below : Search
  below = search_of marks waiting (count - 1)

  below_left : Measured (count - 1 + unmarked marks) below
  unfolding search_of
  below_left = record { long = t.long; left = omega (arith, tops_length waiting (count - 1)) }

  pub top_fits : count - 1 < length waiting
  top_fits = omega (arith, t.room, t.enough, t.some)

  pub top_twice : Fits w64 ((count - 1) * 2)
  top_twice = omega (arith, t.room)

  module _ (action : Action) (o : Onward) (leads : Leads action (place_of (get_or waiting (count - 1) 0)) o) where
    first_low : o.first.0 < 512
    first_low = leads.first_low t.low

    second_low : o.second.0 < 512
    second_low = leads.second_low t.low

    pub first_in : o.first.0 < length marks
    first_in = omega (arith, first_low, t.long)

    pub second_in : o.second.0 < length (set marks o.first.0 true)
    second_in = omega (arith, second_low, t.long, length-set marks o.first.0 true)

    module _ (f : ℕ) (f-is : f ≡ choose (get_or marks o.first.0 false) 0 1) where
      first_met : search_of (set marks o.first.0 true) (set waiting (count - 1) o.first.0) (count - 1 + f) ≡ meet below o.first
      first_met = put_is marks waiting (count - 1) o.first top_fits first_low f f-is

      next_left : Measured (count - 1 + unmarked marks)
          (search_of (set marks o.first.0 true) (set waiting (count - 1) o.first.0) (count - 1 + f))
      next_left = rw first_met (measured_meet _ below o.first below_left)

      next_low : count - 1 + f < 512
      next_low = omega (arith, left_is _ _ _ _ next_left, t.room, t.some)

      pub next_in : count - 1 + f < length (set waiting (count - 1) o.first.0)
      next_in = omega (arith, next_low, t.enough, length-set waiting (count - 1) o.first.0)

      pub next_fits : Fits w64 (count - 1 + f)
      next_fits = omega (arith, next_low)

      pub next_scaled : Fits w64 ((count - 1 + f) * 2)
      next_scaled = omega (arith, next_low)

      module _ (g : ℕ) (g-is : g ≡ choose (get_or (set marks o.first.0 true) o.second.0 false) 0 1) where
        -- the search at the end of the visit
        abbrev after : Search
        after =
            search_of (set (set marks o.first.0 true) o.second.0 true)
            (set (set waiting (count - 1) o.first.0) (count - 1 + f) o.second.0) (count - 1 + f + g)

        both_met : after ≡ meet_all below (followers action)
        unfolding search_of
        both_met =
            put_is (set marks o.first.0 true) (set waiting (count - 1) o.first.0) (count - 1 + f) o.second
            next_in second_low g g-is
            ∙ ap (λ (s : Search). meet s o.second) first_met
            ∙ leads.meets below t.long t.marked

        after_left : Measured (count - 1 + unmarked marks) after
        after_left = rw both_met (measured_meet_all _ below _ below_left)

        less : count - 1 + f + g + unmarked (set (set marks o.first.0 true) o.second.0 true) < count + unmarked marks
        less = omega (arith, left_is _ _ _ _ after_left, t.some)

        pub count_fits : Fits w64 (count - 1 + f + g)
        count_fits = omega (arith, less, t.room)

        pub visited_is : Visited marks waiting count action
            (set (set marks o.first.0 true) o.second.0 true)
            (set (set waiting (count - 1) o.first.0) (count - 1 + f) o.second.0) (count - 1 + f + g)
        visited_is = record {
          met = both_met;
          fewer = less;
        }
