-- What the code of a new leaves is what `specs/Actions.antt` says, way out by way out. In what follows rows are the flags of all rows, o the
-- origin of the process that opens the address l. Assumes nothing.
use Prim.Native.Nat.{ℕ, ◌+◌, ◌%◌, ◌<◌, ◌≤◌}
use mathlib.Core.Path.{◌≡◌, ap, ◌∙◌}
use mathlib.Core.Bool.{Bool}
use mathlib.Core.List.{List, []}
use lib.ListN.{get_or, set, replicate}
use borrow.Author.Tests.{lt-ltb, le-ltb}
use Rattle.net.specs.Choice.{choose}
use Rattle.lean_words.specs.Rights.{gained_flags}
use Rattle.lean.specs.Words.{slot_at, with_word}
use Rattle.lean.specs.Actions.{created_with, open_alike, opened_policy, gained_at, open_by_origin, open_of, create_of}

module _ (rows : List (List (List Bool))) (a o l : ℕ) where
  pub alike_is :
      (row : List Bool) → row ≡ gained_flags (get_or (get_or rows (a % 16) []) (o % 16) []) l
      → set (set rows (a % 16) (replicate 16 row)) (l % 16) (replicate 16 row) ≡ open_alike rows a o l
  unfolding open_alike
  alike_is row e = ap (λ (r : List Bool). set (set rows (a % 16) (replicate 16 r)) (l % 16) (replicate 16 r)) e

  -- the rows once the new node has its own
  abbrev opened : List Bool → List (List (List Bool))
  opened own = set rows (l % 16) (set (set (get_or rows (a % 16) []) (a % 16) own) (l % 16) own)

  abbrev gained_of : List (List (List Bool)) → List Bool → List (List (List Bool))
  gained_of all row = set all (a % 16) (set (get_or all (a % 16) []) (o % 16) row)

  pub by_origin_is :
      (own row : List Bool) → own ≡ gained_flags (get_or (get_or rows (a % 16) []) (a % 16) []) l
      → row ≡ gained_flags (get_or (get_or (opened own) (a % 16) []) (o % 16) []) l
      → gained_of (opened own) row ≡ open_by_origin rows a o l
  unfolding open_by_origin gained_at opened_policy
  by_origin_is own row e g =
      ap (gained_of (opened own)) g
      ∙ ap (λ (r : List Bool). gained_of (opened r) (gained_flags (get_or (get_or (opened r) (a % 16) []) (o % 16) []) l)) e

module _ (n : ℕ) (slots : List (List (List ℕ))) (rows : List (List (List Bool))) (format : ℕ) (h : List ℕ) (a k : ℕ) where
  pub create_done :
      n < 16 → (after : List (List (List Bool))) → after ≡ open_of format rows a (get_or (slot_at slots a k) 9 0) n
      → created_with 0 (n + 1) (with_word (with_word slots a k (get_or h 4 0 % 16) n) a k 8 (get_or h 3 0)) after
      ≡ create_of n slots rows format h a k
  unfolding create_of choose
  create_done few after e =
      rw (lt-ltb n 16 few)
      (ap (created_with 0 (n + 1) (with_word (with_word slots a k (get_or h 4 0 % 16) n) a k 8 (get_or h 3 0))) e)

  pub create_full : 16 ≤ n → created_with 3 n slots rows ≡ create_of n slots rows format h a k
  unfolding create_of choose
  create_full many = rw (le-ltb n 16 many)
