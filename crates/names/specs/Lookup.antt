-- What is promised of a reference that is handed back: which part of which lent list it is.
use Rattle.std.specs.Prelude.{ℕ, ◌+◌, ◌<◌, ◌≡◌, List, Option, None, Some, length, take, drop}
use Rattle.std.specs.Borrow.{Bor}
use Rattle.net.specs.declared.locality.Locality.{Locality}
use Rattle.names.specs.Names.{Stretch, of_site, of_office, size_at, found_in, stretch_for, stretch_after, name_after}
use Rattle.names.specs.Names.{stretch_of, name_of}

-- r points to a place of a lent list, and reaches over so many bytes from there
pub record PartOf (list : Bor (List ℕ)) (from size : ℕ) (r : Bor (List ℕ)) : Type 0 where
  pub block : r.ref_ptr.0 ≡ list.ref_ptr.0
  pub place : r.ref_ptr.1 ≡ list.ref_ptr.1 + from
  pub bytes : r.now ≡ take size (drop from list.now)

-- r is a stretch of one of two lent lists
unfoldable pub PartOfOne : Bor (List ℕ) → Bor (List ℕ) → Stretch → Bor (List ℕ) → Type 0
PartOfOne site office (of_site from size) r = PartOf site from size r
PartOfOne site office (of_office from size) r = PartOf office from size r

-- the name of an address, where the test of both lists has given this number: its bytes, and the stretch that it is
pub record NamedAfter (number : ℕ) (site office : Bor (List ℕ)) (a : Locality) (r : Bor (List ℕ)) : Type 0 where
  pub is : r.now ≡ name_after number site.now office.now a
  pub stands : PartOfOne site office (stretch_after number site.now office.now a) r

-- the name of an address
pub record Named (site office : Bor (List ℕ)) (a : Locality) (r : Bor (List ℕ)) : Type 0 where
  pub is : r.now ≡ name_of site.now office.now a
  pub stands : PartOfOne site office (stretch_of site.now office.now a) r

-- ---- describes the code, and is no part of what a reader has to believe

-- the first entry for an address was looked for
pub record Sought (list : List ℕ) (a : Locality) (found : Option ℕ) : Type 0 where
  pub first : found ≡ found_in list a
  pub inside : (p : ℕ) → found ≡ Some p → p < length list

-- r is the text of the entry found in a lent list, or none of the list's bytes
unfoldable pub TextFound : Bor (List ℕ) → Option ℕ → Bor (List ℕ) → Type 0
TextFound list (Some p) r = PartOf list (p + 1) (size_at list.now p) r
TextFound list None r = PartOf list 0 0 r

-- r is the stretch for what was found in the two lists
unfoldable pub Picked : Bor (List ℕ) → Bor (List ℕ) → Option ℕ → Option ℕ → Bor (List ℕ) → Type 0
Picked site office inSite inOffice r = PartOfOne site office (stretch_for site.now office.now inSite inOffice) r
