-- Reaching (document 01, "Reaching and rights"): which instructions a process can come to from a place.
use Rattle.std.specs.Prelude.{ℕ, zero, suc, Bool, true, false, not, List, [], ◌∷◌, get_or, set, replicate, ltb}
use Rattle.net.specs.Choice.{choose, both}
use Rattle.keeping.specs.Types.{Place, Action, Instruction}
use Rattle.net.specs.Records.{instruction_at}

-- ---- what reaching means

-- q follows an action: its next place, or either place of a fork. The sent place of an eval does not.
pub data Follows (q : Place) : Action → Type 0 where
  out_next : {t : _} → Follows q (Action.Out t q)
  in_next : {t : _} → Follows q (Action.In t q)
  read_next : {t : _} → Follows q (Action.Read t q)
  eval_next : {t : _} {sent : Place} → Follows q (Action.Eval t sent q)
  new_next : {v : ℕ} → Follows q (Action.New v q)
  fork_first : {p : Place} → Follows q (Action.Fork q p)
  fork_second : {p : Place} → Follows q (Action.Fork p q)
  out_all_next : {g : _} → Follows q (Action.OutAll g q)

-- the place itself and, over and over, what follows
pub data Reaches (code : List Instruction) (from : Place) : Place → Type 0 where
  itself : Reaches code from from
  onward : {p q : Place} → Reaches code from p → Follows q (instruction_at code p).action → Reaches code from q

-- ---- the marks, computed: a place is marked when it is first met, and then waits to be visited

unfoldable pub followers : Action → List Place
followers Action.Stop = []
followers (Action.Out t p) = p ∷ []
followers (Action.In t p) = p ∷ []
followers (Action.Read t p) = p ∷ []
followers (Action.Eval t sent p) = p ∷ []
followers (Action.New v p) = p ∷ []
followers (Action.Fork p q) = p ∷ q ∷ []
followers (Action.OutAll g p) = p ∷ []

pub record Search : Type 0 where
  pub marks : List Bool
  pub waiting : List Place

unfoldable pub meet : Search → Place → Search
meet s p =
    choose (both (ltb p.0 512) (not (get_or s.marks p.0 false)))
    (record { marks = set s.marks p.0 true; waiting = p ∷ s.waiting })
    s

unfoldable pub meet_all : Search → List Place → Search
meet_all s [] = s
meet_all s (p ∷ ps) = meet_all (meet s p) ps

-- the first waiting place is visited
unfoldable pub visit_first : List Instruction → List Bool → List Place → Search
visit_first code marks [] = record { marks = marks; waiting = [] }
visit_first code marks (p ∷ ps) =
    meet_all (record { marks = marks; waiting = ps }) (followers (instruction_at code p).action)

unfoldable pub visit : List Instruction → Search → Search
visit code s = visit_first code s.marks s.waiting

unfoldable pub visits : ℕ → List Instruction → Search → Search
visits zero code s = s
visits (suc k) code s = visits k code (visit code s)

unfoldable pub started_at : Place → Search
started_at p = meet (record { marks = replicate 512 false; waiting = [] }) p

-- the marks of the places reached from p: no place waits twice, so 512 visits are enough
unfoldable pub reached_of : List Instruction → Place → List Bool
reached_of code p = (visits 512 code (started_at p)).marks
