-- What the computed marks and the computed keeping mean (document 01, "Reaching and rights").
use Rattle.std.specs.Prelude.{ℕ, ◌≤◌, ◌<◌, ◌≡◌, ◌↔◌, true, false, List, get_or, length}
use Rattle.keeping.specs.Types.{Locality, Place, Row, Instruction}
use Rattle.net.specs.Records.{instruction_at, place_of}
use Rattle.keeping.specs.Reaching.{Reaches, Search, visits, started_at, reached_of}
use Rattle.keeping.specs.Keeping.{permits, keeps_of}

-- "From a place the instructions reached are that one and, over and over, next places and both places of a fork":
-- these are the ones marked, and one mark for each of the 512 instructions is enough.
unfoldable pub MarkedIsReached : Type 0
MarkedIsReached =
    (code : List Instruction)
    → length code ≤ 512
    → (p q : Place)
    → q.0 < 512
    → (get_or (reached_of code p) q.0 false ≡ true) ↔ Reaches code p q

-- "Code keeps within the row of address a when every reached out, in, read and eval at a written address or at self
-- has its right there, and n is held where a new is reached": the computed test says just that.
unfoldable pub KeepsIsEvery : Type 0
KeepsIsEvery =
    (code : List Instruction)
    → length code ≤ 512
    → (p : Place) (a : Locality) (r : Row)
    → (keeps_of code p a r ≡ true)
    ↔ ((q : Place) → Reaches code p q → permits r a (instruction_at code q).action ≡ true)

-- "hold each in 16 bits, ... in a list of 512, and prove that no more ever wait there" (document 02, slip 4): from every start
-- place, after any number of visits, the waiting places are at most 512 and no two of them are the same; each is below 512,
-- and is marked.
unfoldable pub waiting_at : Search → ℕ → Place
waiting_at s i = get_or s.waiting i (place_of 0)

pub record WaitOnce (s : Search) : Type 0 where
  pub few : length s.waiting ≤ 512
  pub low : (i : ℕ) → i < length s.waiting → (waiting_at s i).0 < 512
  pub marked : (i : ℕ) → i < length s.waiting → get_or s.marks (waiting_at s i).0 false ≡ true
  pub distinct : (i j : ℕ) → i < j → j < length s.waiting → waiting_at s i ≡ waiting_at s j → ⊥

unfoldable pub NeverMoreWait : Type 0
NeverMoreWait = (code : List Instruction) (p : Place) (k : ℕ) → WaitOnce (visits k code (started_at p))
