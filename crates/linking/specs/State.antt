-- Describes the code, and is no part of what a reader has to believe: what the lines of a text have been read into, and what
-- one line more does to it. Starts stay words (`Table.antt`, `NameTable.antt`) until all lines are read: until then every
-- process stands at place 0.
use Rattle.std.specs.Prelude.{ℕ, ◌+◌, ◌*◌, ◌<◌, Bool, true, false, List, [], ◌∷◌, get_or, set, replicate}
use Rattle.net.specs.Choice.{choose, fold}
use Rattle.net.specs.Records.{place_of, node_at, process_count}
use Rattle.text.specs.Buffer.{over}
use Rattle.terms.specs.Numbering.{Start, size, start_of}
use Rattle.terms.specs.Table.{start_word, words_of, marked}
use Rattle.terms.specs.Loading.{fits}
use Rattle.linking.specs.Types.{Place, Net}
use Rattle.linking.specs.Source.{Line, definition, process, tuple}
use Rattle.linking.specs.Compiled.{placed}

-- how many instructions there are, their words, the three tables of names and whether one is defined twice, four words of
-- starts for each address, and the net
pub record State : Type 0 where
  pub count : ℕ
  pub table : List ℕ
  pub uses : List Bool
  pub bodies : List ℕ
  pub defs : List Bool
  pub twice : Bool
  pub starts : List ℕ
  pub net : Net

-- ---- before the first line: each name stands for itself
unfoldable pub own_names : List ℕ
own_names = fold 512 (λ k names. set names k k) (replicate 512 0)

unfoldable pub begun : Net → State
begun s = record {
  count = 0;
  table = replicate 4608 0;
  uses = replicate 512 false;
  bodies = own_names;
  defs = replicate 512 false;
  twice = false;
  starts = replicate 64 0;
  net = s;
}

-- ---- one line more

-- the place of every process until its start is resolved
unfoldable pub unplaced : Start → Place
unplaced x = place_of 0

-- the word of a body, at its name; a name that is defined already keeps its first one
unfoldable pub entered : ℕ → ℕ → List Bool → List ℕ → List ℕ
entered k w defs bodies = choose (get_or defs k false) bodies (set bodies k w)

unfoldable pub after : Line → State → State
after (definition k x) s = record {
  count = s.count + size x;
  table = over s.table (9 * s.count) (words_of s.count x);
  uses = marked x s.uses;
  bodies = entered k (start_word (start_of s.count x)) s.defs s.bodies;
  defs = set s.defs k true;
  twice = choose (get_or s.defs k false) true s.twice;
  starts = s.starts;
  net = s.net;
}
after (process a x) s = record {
  count = s.count + size x;
  table = over s.table (9 * s.count) (words_of s.count x);
  uses = marked x s.uses;
  bodies = s.bodies;
  defs = s.defs;
  twice = s.twice;
  starts = set s.starts (4 * a.0 + process_count (node_at s.net a)) (start_word (start_of s.count x));
  net = placed unplaced s.count (process a x) s.net;
}
after (tuple a t) s = record {
  count = s.count;
  table = s.table;
  uses = s.uses;
  bodies = s.bodies;
  defs = s.defs;
  twice = s.twice;
  starts = s.starts;
  net = placed unplaced s.count (tuple a t) s.net;
}

unfoldable pub after_all : List Line → State → State
after_all [] s = s
after_all (l ∷ ls) s = after_all ls (after l s)

-- ---- what holds of a line that is read: its names are in the tables, its address is in the net, and there it finds room
-- for a process
unfoldable pub FitsLine : Net → Line → Type 0
FitsLine s (definition k x) = (k < 512) × fits x
FitsLine s (process a x) = (a.0 < 16) × (fits x × (process_count (node_at s a) < 4))
FitsLine s (tuple a t) = a.0 < 16

-- of each line, where it is read
unfoldable pub FitAll : List Line → State → Type 0
FitAll [] s = Unit {0}
FitAll (l ∷ ls) s = FitsLine s.net l × FitAll ls (after l s)
