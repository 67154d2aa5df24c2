-- Describes the code, and is no part of what a reader has to believe: a row as 65 flags, and back: i over each address, then r, o and
-- e, then n. What code needs is 69 flags: the same, then i, r, o and e over self.
use Rattle.std.specs.Prelude.{ℕ, ◌+◌, ◌*◌, ◌%◌, Bool, true, false, List, eqb, get_or, set, replicate}
use Rattle.net.specs.Choice.{choose, both, implies, all, fold}
use Rattle.net.specs.Records.{no_rights, all_rights, rights_at, address_of}
use Rattle.lean_words.specs.Filled.{filled}
use Rattle.lean_words.specs.Types.{Rights, Row}

-- ---- rows

-- the flags with those of the rights x over address l
unfoldable pub with_flags : List Bool → ℕ → Rights → List Bool
with_flags fs l x = set (set (set (set fs l x.take) (l + 16) x.read) (l + 32) x.put) (l + 48) x.send

unfoldable pub row_flags : Row → List Bool
row_flags r = set (fold 16 (λ l fs. with_flags fs l (rights_at r (address_of l))) (replicate 65 false)) 64 r.create

-- the rights over address l
unfoldable pub rights_in : List Bool → ℕ → Rights
rights_in fs l = record {
  take = get_or fs l false;
  read = get_or fs (l + 16) false;
  put = get_or fs (l + 32) false;
  send = get_or fs (l + 48) false;
}

unfoldable pub row_in : List Bool → Row
row_in fs = record { create = get_or fs 64 false; rights = filled 16 (rights_in fs) (replicate 16 no_rights) }

-- every right on an address gained
unfoldable pub gained_flags : List Bool → ℕ → List Bool
gained_flags fs l = with_flags fs (l % 16) all_rights

-- whether a row grants a right at an address: 0 is i, 1 is r, which i includes, 2 is o, 3 is e
unfoldable pub grants_flags : List Bool → ℕ → ℕ → Bool
grants_flags fs l right =
    choose (both (eqb right 1) (get_or fs (l % 16) false)) true (get_or fs (16 * (right % 4) + l % 16) false)

-- ---- needs

-- the rights needed over self
unfoldable pub own_in : List Bool → Rights
own_in need = record {
  take = get_or need 65 false;
  read = get_or need 66 false;
  put = get_or need 67 false;
  send = get_or need 68 false;
}

-- the rights h cover what is needed: i covers r
unfoldable pub covered : Rights → Rights → Bool
covered need h =
    both (both (implies need.take h.take) (implies need.read (choose h.take true h.read)))
    (both (implies need.put h.put) (implies need.send h.send))

-- a row of the address l grants all that is needed
unfoldable pub admits_words : List Bool → List Bool → ℕ → Bool
admits_words need fs l =
    both (all 16 (λ m. covered (rights_in need m) (rights_in fs m)))
    (both (covered (own_in need) (rights_in fs (l % 16))) (implies (get_or need 64 false) (get_or fs 64 false)))
