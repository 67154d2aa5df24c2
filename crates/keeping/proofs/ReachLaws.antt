-- What `search` marks: its locals stand for the search of `specs/Reaching.antt` after some number of visits, whatever it judges
-- good. Assumes nothing.
use Prim.Native.Nat.{ℕ, ◌-◌, ◌<◌, ◌≤◌}
use mathlib.Core.Path.{◌≡◌, refl, sym, ap, ◌∙◌}
use mathlib.Core.Bool.{Bool, true, false}
use mathlib.Core.List.{List, []}
use native.Mathlib.Omega.{arith}
use lib.ListN.{length, get_or, set, replicate}
use Rattle.net.specs.Records.{instruction_at, place_of}
use Rattle.keeping.specs.Reaching.{Search, visits, started_at, reached_of}
use Rattle.keeping.specs.Worklist.{tops, search_of, OnTop, Visited}
use Rattle.keeping.proofs.WorklistLaws.{met_before}
use Rattle.keeping.proofs.VisitLaws.{visits_more, nothing_waits, Underway, underway_first, on_top, turned}
use Rattle.keeping.specs.Types.{Place, Instruction}

-- the search s is met after some visits from p on
pub record Way (code : List Instruction) (p : Place) (s : Search) : Type 0 where
  pub ok : Bool
  pub underway : Underway code p (λ _. true) s ok

ended : (code : List Instruction) (p : Place) (s : Search) → Way code p s → s.waiting ≡ [] → s.marks ≡ reached_of code p
unfolding reached_of
ended code p s w e =
    let u = w.underway in
    sym
    (ap (λ (n : ℕ). (visits n code (started_at p)).marks) (sym u.whole)
    ∙ ap (λ (t : Search). t.marks) (visits_more code u.turns u.left (started_at p))
    ∙ ap (λ (t : Search). (visits u.left code t).marks) (sym u.met)
    ∙ nothing_waits code u.left s e)

-- ---- the loop's locals
pub none_marked : (code : List Instruction) (p : Place) → 512 ≤ p.0 → replicate 512 false ≡ reached_of code p
unfolding reached_of started_at
none_marked code p h =
    let none = met_before (record { marks = replicate 512 false; waiting = [] }) p (λ low. absurd (omega arith)) in
    sym (ap (λ (s : Search). (visits 512 code s).marks) none ∙ nothing_waits code 512 (record { marks = replicate 512 false; waiting = [] }) refl)

pub way_first :
    (code : List Instruction) (p : Place) (waiting : List ℕ) → p.0 < 512 → get_or waiting 0 0 ≡ p.0
    → Way code p (search_of (set (replicate 512 false) p.0 true) waiting 1)
way_first code p waiting low e =
    record { ok = true; underway = underway_first code p (λ _. true) waiting low e }

pub all_marked :
    (code : List Instruction) (p : Place) (marks : List Bool) (waiting : List ℕ) (count : ℕ)
    → Way code (place_of p.0) (search_of marks waiting count) → count ≤ 0 → marks ≡ reached_of code p
unfolding search_of tops
all_marked code p marks waiting count w h =
    let e : count ≡ 0 = omega arith in ended code p (search_of marks waiting count) w (rw e)

-- one turn: a visit has what it needs, and the loop is under way after it
module _ (code : List Instruction) (p : Place) (marks : List Bool) (waiting : List ℕ) (count : ℕ)
    (w : Way code p (search_of marks waiting count)) (some : 0 < count)
  where
    pub way_top : (m : ℕ) → length waiting ≡ m → 512 ≤ m → OnTop marks waiting count
    way_top = on_top code p (λ _. true) marks waiting count w.ok w.underway some

    pub way_on : (marks' : List Bool) (waiting' : List ℕ) (r : ℕ)
        → Visited marks waiting count (instruction_at code (place_of (get_or waiting (count - 1) 0))).action marks' waiting' r
        → Way code p (search_of marks' waiting' r)
    way_on marks' waiting' r v = record {
      ok = _;
      underway = turned code p (λ _. true) marks waiting count w.ok w.underway some _ marks' waiting' r refl v;
    }
