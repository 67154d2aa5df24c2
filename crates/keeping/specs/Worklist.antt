-- Describes the code, and is no part of what a reader has to believe: a right by its name, the locals of the loop over reached
-- places, the places at which it goes on from the one that it visits, and one visit.
pub use Rattle.keeping.specs.declared.reaching.Onward.{Onward}
pub use Rattle.keeping.specs.declared.rights.Right.{Right}
use Rattle.std.specs.Prelude.{ℕ, zero, suc, ◌+◌, ◌-◌, ◌<◌, ◌≤◌, ◌≡◌, Bool, true, false, List, [], ◌∷◌, get_or, length, ltb}
use Rattle.net.specs.Choice.{choose, implies, all}
use Rattle.net.specs.Records.{instruction_at, place_of}
use Rattle.keeping.specs.Types.{Locality, Place, Row, Action, Instruction}
use Rattle.keeping.specs.Keeping.{may_take, may_read, may_put, may_send}
use Rattle.keeping.specs.Reaching.{Search, meet, meet_all, followers}

-- ---- a right by its name

unfoldable pub grants : Row → Right → Locality → Bool
grants r Right.Take = may_take r
grants r Right.Read = may_read r
grants r Right.Put = may_put r
grants r Right.Send = may_send r

-- ---- places

-- the place q, or p where q is past the code
unfoldable pub low_or : Place → Place → Place
low_or q p = choose (ltb q.0 512) q p

unfoldable pub onward_to : Place → Place → Place → Onward
onward_to p q r = record { first = low_or q p; second = low_or r p }

-- where an action at place p leads to the two places of r: both are below 512 as p is, and to meet the two is to meet
-- what follows the action, once p itself is marked
pub record Leads (action : Action) (p : Place) (r : Onward) : Type 0 where
  pub first_low : p.0 < 512 → r.first.0 < 512
  pub second_low : p.0 < 512 → r.second.0 < 512
  pub meets :
      (s : Search)
      → length s.marks ≡ 512
      → get_or s.marks p.0 false ≡ true
      → meet (meet s r.first) r.second ≡ meet_all s (followers action)

-- ---- the locals: the marks, a list of the numbers of places, and how many at its start wait

-- how many places are not marked
unfoldable pub unmarked : List Bool → ℕ
unmarked [] = 0
unmarked (true ∷ marks) = unmarked marks
unmarked (false ∷ marks) = suc (unmarked marks)

-- the waiting places: the first n of the list, the last one on top
unfoldable pub tops : List ℕ → ℕ → List Place
tops ns zero = []
tops ns (suc n) = place_of (get_or ns n 0) ∷ tops ns n

-- the search that the locals stand for
unfoldable pub search_of : List Bool → List ℕ → ℕ → Search
search_of marks waiting count = record { marks = marks; waiting = tops waiting count }

-- ---- the judgement: each marked instruction has a good action
unfoldable pub good_marked : List Bool → List Instruction → (Action → Bool) → Bool
good_marked marks code g = all 512 (λ q. implies (get_or marks q false) (g (instruction_at code (place_of q)).action))

-- ---- a visit

-- what it needs: some place waits, and the one on top is in range and marked; the list has room for 512, and no more places
-- than that wait or are unmarked
pub record OnTop (marks : List Bool) (waiting : List ℕ) (count : ℕ) : Type 0 where
  pub some : 0 < count
  pub long : length marks ≡ 512
  pub enough : 512 ≤ length waiting
  pub room : count + unmarked marks ≤ 512
  pub low : get_or waiting (count - 1) 0 < 512
  pub marked : get_or marks (get_or waiting (count - 1) 0) false ≡ true

-- what it does: the place on top waits no longer, and what follows the action is met; fewer places wait or are unmarked
pub record Visited
    (marks : List Bool) (waiting : List ℕ) (count : ℕ) (action : Action) (marks' : List Bool) (waiting' : List ℕ) (r : ℕ)
    : Type 0 where
  pub met : search_of marks' waiting' r ≡ meet_all (search_of marks waiting (count - 1)) (followers action)
  pub fewer : r + unmarked marks' < count + unmarked marks
