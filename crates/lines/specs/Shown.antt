-- What a listing may show beyond document 01's register.
pub use Rattle.lines.specs.declared.shown.Parts.{Parts}
use Rattle.std.specs.Prelude.{ℕ, true, false, List, []}
use Rattle.names.specs.Names.{name_after, name_of}
use Rattle.lines.specs.Types.{Locality}

-- the parts that are shown, and the station's name at each address, empty where there is none (document 02, slip 14)
pub record Shown : Type 0 where
  pub parts : Parts
  pub names : Locality → List ℕ

-- no station has a name
unfoldable pub unnamed : Parts → Shown
unnamed parts = record { parts = parts; names = λ _. [] }

-- with the names that a site's list and the office's give
unfoldable pub named : Parts → List ℕ → List ℕ → Shown
named parts site office = record { parts = parts; names = name_of site office }

-- the same, where the test of both lists has given this number
unfoldable pub named_after : ℕ → Parts → List ℕ → List ℕ → Shown
named_after number parts site office = record { parts = parts; names = name_after number site office }

-- none of the parts: document 01's register
unfoldable pub no_parts : Parts
no_parts = record { total = false; place = false; mark = false }

-- what a register shows
unfoldable pub all_parts : Parts
all_parts = record { total = true; place = true; mark = true }

unfoldable pub current : Shown
current = unnamed all_parts
