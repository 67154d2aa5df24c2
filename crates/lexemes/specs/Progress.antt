-- Describes the code, and is no part of what a reader has to believe: how the readers of `src/` keep to the definitions.
pub use Rattle.lexemes.specs.declared.reader.TextReader.{TextReader}
use Rattle.std.specs.Prelude.{Result, Ok, Err, ◌≡◌}
use Rattle.readers.specs.Reader.{Reader}
use Rattle.readers.specs.Progress.{came}
use Rattle.lexemes.specs.Types.{Fault}

-- from the reader r the reader m comes to what was answered and to the reader r'
pub record Reads {A : Type 0} (r : TextReader) (m : Reader A) (o : Result A Fault) (r' : TextReader) : Type 0 where
  pub gave : came o r'.at ≡ m r.text.now r.at
  pub same : r'.text ≡ r.text

-- the reader m comes from r₀ to what the reader m' comes to from r
pub record Resumes {A : Type 0} (r₀ : TextReader) (m : Reader A) (r : TextReader) (m' : Reader A) : Type 0 where
  pub rest : m r₀.text.now r₀.at ≡ m' r.text.now r.at
  pub same : r.text ≡ r₀.text

-- the reader m gives a value for which x stands, as P says
pub record Stood {A X : Type 0} (P : A → X → Type 0) (r : TextReader) (m : Reader A) (x : X) (r' : TextReader) : Type 0 where
  pub read : A
  pub stands : P read x
  pub went : Reads r m (Ok read) r'

abbrev pub Told : {A X : Type 0} → (A → X → Type 0) → TextReader → Reader A → Result X Fault → TextReader → Type 0
Told P r m (Ok x) r' = Stood P r m x r'
Told P r m (Err e) r' = Reads r m (Err e) r'

-- from the reader r the reader m comes to a fault, or to a value for which the answer stands, and to the reader r'
pub record Stands {A X : Type 0} (P : A → X → Type 0) (r : TextReader) (m : Reader A) (o : Result X Fault) (r' : TextReader) : Type 0 where
  pub told : Told P r m o r'
