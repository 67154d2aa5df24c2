-- The lines after the rows (document 01, "The planners' notation"): definitions, processes and tuples, in any order; and
-- the whole text, read as a tree.
use Rattle.std.specs.Prelude.{ℕ, zero, suc, List, [], ◌∷◌, ◌++◌, length, eqb, leb, ltb}
use Rattle.text.specs.Bytes.{bytes}
use Rattle.net.specs.Choice.{choose}
use Rattle.readers.specs.Reader.{Reader, pure, ◌>>=◌, ◌>>◌, require}
use Rattle.lexemes.specs.Lexemes.{look, byte, word}
use Rattle.fields.specs.Fields.{address}
use Rattle.fields.specs.Fields as Fields
use Rattle.notation.specs.Types.{Locality, Scope}
use Rattle.linking.specs.Source.{Line, definition, process, tuple, Source}
use Rattle.linking.specs.Counts.{processes_in, tuples_in, counted}
use Rattle.processes.specs.Reading.{named}
use Rattle.processes.specs.Reading as Reading
use Rattle.rows.specs.Policies.{policy}
use Rattle.notation.specs.Scopes.{scope_of}

-- ---- one line, ls being those before it, x what its addresses and sets are judged by

-- A3 = P
unfoldable pub definition_line : Scope → Reader Line
definition_line x = do
  k ← named
  word (bytes " = ")
  p ← Reading.process x
  byte 10
  pure (definition k p)

-- P, after its address: a fifth process there is 22
unfoldable pub process_line : Scope → List Line → Locality → Reader Line
process_line x ls a = do
  require (ltb (counted (processes_in a) ls) 4) 22
  p ← Reading.process x
  byte 10
  pure (process a p)

-- a tuple, after its address: a seventeenth there is 22
unfoldable pub tuple_line : Scope → List Line → Locality → Reader Line
tuple_line x ls a = do
  require (ltb (counted (tuples_in a) ls) 16) 22
  t ← Fields.tuple x.addresses
  byte 10
  pure (tuple a t)

-- a tuple, which opens with < (60), or a process, after its address
unfoldable pub placed_line : Scope → List Line → Locality → Reader Line
placed_line x ls a = look (λ b. choose (eqb b 60) (tuple_line x ls a) (process_line x ls a))

-- 0 :: and what stands there
unfoldable pub located_line : Scope → List Line → Reader Line
located_line x ls = do
  a ← address x.addresses
  word (bytes " :: ")
  placed_line x ls a

unfoldable pub line : Scope → List Line → Reader Line
line x ls = look (λ b. choose (eqb b 65) (definition_line x) (located_line x ls))

-- ---- all lines up to the end of the text: at most k of them after those of `ls`
unfoldable pub lines_after : ℕ → Scope → List Line → Reader (List Line)
lines_after zero x ls = pure ls
lines_after (suc k) x ls = λ s p.
    choose (leb (length s) p)
    (pure ls)
    (do
      l ← line x ls
      lines_after k x (ls ++ (l ∷ [])))
    s p

-- no text has more lines than bytes
unfoldable pub lines : Scope → Reader (List Line)
lines x s p = lines_after (length s) x [] s p

-- the whole text
unfoldable pub source : Reader Source
source = do
  p ← policy
  ls ← lines (scope_of p)
  pure (record { policy = p; lines = ls })
