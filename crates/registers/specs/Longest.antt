-- How long a register can be (document 01, "The register"): why a buffer of so many bytes is large enough.
use Rattle.std.specs.Prelude.{ℕ, ◌<◌, ◌≤◌, List, length, get_or}
use Rattle.lines.specs.Shown.{unnamed}
use Rattle.registers.specs.Types.{Parts}
use Rattle.registers.specs.Register.{register_as, register_of, register_text_of, named_register_of, named_register_text_of}

-- so many bytes
unfoldable pub longest : ℕ
longest = 1300000

-- no register of an image and picks, which are bytes, is longer
unfoldable pub LongestRegister : Type 0
LongestRegister =
    (image picks : List ℕ) → ((i : ℕ) → get_or picks i 0 < 256) → length (register_of image picks) ≤ longest

-- nor is one of a text and picks
unfoldable pub LongestTextRegister : Type 0
LongestTextRegister =
    (text picks : List ℕ) → ((i : ℕ) → get_or picks i 0 < 256) → length (register_text_of text picks) ≤ longest

-- nor is one that shows less
unfoldable pub LongestShowing : Type 0
LongestShowing =
    (parts : Parts) (image picks : List ℕ) → ((i : ℕ) → get_or picks i 0 < 256) → length (register_as (unnamed parts) image picks) ≤ longest

-- nor is one with names (document 02, slip 14)
pub record LongestNamed : Type 0 where
  pub of_image :
      (site office image picks : List ℕ) → ((i : ℕ) → get_or picks i 0 < 256)
      → length (named_register_of site office image picks) ≤ longest
  pub of_text :
      (site office text picks : List ℕ) → ((i : ℕ) → get_or picks i 0 < 256)
      → length (named_register_text_of site office text picks) ≤ longest
