-- Describes the code, and is no part of what a reader has to believe: how the readers of `src/`, which store instructions
-- in a lent table and mark names in lent marks, keep to the definitions.
pub use Rattle.processes.specs.declared.code.Code.{Code}
use Rattle.std.specs.Prelude.{ℕ, suc, ◌+◌, ◌*◌, ◌<◌, ◌≤◌, Bool, ◌≡◌, List, ◌++◌, [], length, Result, Ok, Err, MatchResult}
use Rattle.text.specs.Buffer.{over}
use Rattle.readers.specs.Reader.{Reader, pure, ◌>>=◌, ◌>>◌}
use Rattle.lexemes.specs.Lexemes.{byte}
use Rattle.lexemes.specs.Progress.{Reads}
use Rattle.processes.specs.Types.{Fault, Instruction, TextReader, Kind, Entry, Scope}
use Rattle.processes.specs.Room.{room}
use Rattle.processes.specs.Reading.{chain}
use Rattle.terms.specs.Terms.{Process, Action}
use Rattle.terms.specs.Numbering.{start_of, size, size_in}
use Rattle.terms.specs.Table.{start_word, entry_words, action_words, words_of, words_in, marked, marked_in}

-- the table and the marks are those that were lent, and as long as they were
pub record Lent (b b' : Code) : Type 0 where
  pub table : b'.table.ghost_name ≡ b.table.ghost_name
  pub used : b'.used.ghost_name ≡ b.used.ghost_name
  pub long_table : length b'.table.now ≡ length b.table.now
  pub long_used : length b'.used.now ≡ length b.used.now

-- the word w is that of what starts here, where the next instruction has the number n
pub record Begins (r : TextReader) (n w : ℕ) : Type 0 where
  pub begins : (k : ℕ) (scope : Scope) (inner : Reader Process) (x : Process) (q : TextReader) → Reads r (chain k inner scope) (Ok x) q → w ≡ start_word (start_of n x)

-- ---- a process x whose first instruction has the number n, stored and marked
pub record Kept (x : Process) (n : ℕ) (table : List ℕ) (used : List Bool) (count : ℕ) (table' : List ℕ) (used' : List Bool) : Type 0 where
  pub counted : count ≡ n + size x
  pub stored : table' ≡ over table (9 * n) (words_of n x)
  pub marks : used' ≡ marked x used

-- what is read and what is answered, a and b, where the reader m comes from r to q with a and P holds of both
pub record Told {A B : Type 0} (r : TextReader) (m : Reader A) (P : A → B → Type 0) (b : B) (q : TextReader) : Type 0 where
  pub tree : A
  pub read : Reads r m (Ok tree) q
  pub holds : P tree b

-- the reader m comes from r to q with something of which, with what was answered, P holds; or to the same fault
pub record Keeps {A B : Type 0} (r : TextReader) (m : Reader A) (P : A → B → Type 0) (o : Result B Fault) (q : TextReader) : Type 0 where
  pub told : MatchResult o (λ b. Told r m P b q) (λ e. Reads r m (Err e) q)

-- a process stored and marked
pub record Stored (b b' : Code) (tree : Process) (u : Unit {0}) : Type 0 where
  pub small : b'.count ≤ room
  pub most : b'.count < room → b.count + size tree ≤ room
  pub kept : b.count + size tree ≤ room → Kept tree b.count b.table.now b.used.now b'.count b'.table.now b'.used.now

-- the same with the word of its start
pub record Started (b b' : Code) (tree : Process) (w : ℕ) : Type 0 where
  pub start : w ≡ start_word (start_of b.count tree)
  pub stored : Stored b b' tree tt

-- the entry of an instruction that has no start yet
abbrev pub entry_for : Kind → ℕ → Instruction → Entry
entry_for k w c = record { kind = k; target = w; template = c; next = 0; second = 0 }

-- ---- an action that holds no process: one instruction, with that entry, but for what follows it
pub record Alone (a : Action) (e : Entry) : Type 0 where
  pub words : (n next : ℕ) → action_words n a next ≡ entry_words (record e { next = next })
  pub none : (n : ℕ) → words_in n a ≡ []
  pub small : size_in a ≡ 0
  pub unmarked : (used : List Bool) → marked_in a used ≡ used

-- ---- an action whose instruction has the number n: its entry, and what it holds stored and marked
pub record KeptIn (a : Action) (n : ℕ) (e : Entry) (table : List ℕ) (used : List Bool) (table' : List ℕ) (used' : List Bool) : Type 0 where
  pub stored : table' ≡ over table (9 * suc n) (words_in (suc n) a)
  pub marks : used' ≡ marked_in a used
  pub words : (next : ℕ) → action_words n a next ≡ entry_words (record e { next = next })

-- where the number n of the action is counted already
pub record Held (n : ℕ) (b b' : Code) (a : Action) (e : Entry) : Type 0 where
  pub small : b'.count ≤ room
  pub most : b'.count < room → b.count + size_in a ≤ room
  pub counted : b.count + size_in a ≤ room → b'.count ≡ b.count + size_in a
  pub kept : b.count ≡ suc n → b.count + size_in a ≤ room → KeptIn a n e b.table.now b.used.now b'.table.now b'.used.now

-- ---- an action and its dot, its instruction stored with the word of what follows
unfoldable pub dotted : Reader Action → Reader Action
dotted m = m >>= (λ a. byte 46 >> pure a)

pub record KeptAll (a : Action) (w n : ℕ) (table : List ℕ) (used : List Bool) (count : ℕ) (table' : List ℕ) (used' : List Bool) : Type 0 where
  pub counted : count ≡ suc n + size_in a
  pub stored : table' ≡ over table (9 * n) (action_words n a w ++ words_in (suc n) a)
  pub marks : used' ≡ marked_in a used

pub record Acted (b b' : Code) (q : TextReader) (a : Action) (u : Unit {0}) : Type 0 where
  pub small : b'.count ≤ room
  pub word : ℕ
  pub follows : Begins q b'.count word
  pub most : b'.count < room → suc b.count + size_in a ≤ room
  pub kept : suc b.count + size_in a ≤ room → KeptAll a word b.count b.table.now b.used.now b'.count b'.table.now b'.used.now

-- ---- the chain of k₀ actions at most from r₀ on is, with what is stored and marked, what that of k from r on is
pub record Chained (inner : Reader Process) (scope : Scope) (r₀ : TextReader) (k₀ : ℕ) (b₀ : Code) (r : TextReader) (k : ℕ) (b : Code) : Type 0 where
  pub small : b.count ≤ room
  pub same : r.text ≡ r₀.text
  pub rest : (o : Result (Unit {0}) Fault) (q : TextReader) (b' : Code) → Keeps r (chain k inner scope) (Stored b b') o q → Keeps r₀ (chain k₀ inner scope) (Stored b₀ b') o q
