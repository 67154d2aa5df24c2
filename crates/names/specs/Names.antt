-- Station names (document 02, slip 14): a list of names, what is tested of two of them, and the stretch that is the name of
-- an address.
use Rattle.std.specs.Prelude.{ℕ, zero, suc, ◌+◌, ◌/◌, ◌%◌, Bool, List, [], ◌∷◌, length, get_or, take, drop, eqb, ltb, Option, None, Some}
use Rattle.net.specs.Choice.{choose, in_range, all}
use Rattle.net.specs.declared.locality.Locality.{Locality}

-- ---- an entry, by the place of its first byte: "4 bits of address, 4 bits of length (1 to 15), then that many bytes"; of a
-- byte's bits the first are the high ones
unfoldable pub address_at : List ℕ → ℕ → ℕ
address_at list p = get_or list p 0 / 16

unfoldable pub size_at : List ℕ → ℕ → ℕ
size_at list p = get_or list p 0 % 16

unfoldable pub text_at : List ℕ → ℕ → List ℕ
text_at list p = take (size_at list p) (drop (p + 1) list)

-- ---- the places of the entries of a list, one entry after another. `at` is the place of the next byte, and the next
-- `skip` bytes belong to the entry before
unfoldable pub places_from : ℕ → ℕ → List ℕ → List ℕ
places_from at skip [] = []
places_from at zero (b ∷ rest) = at ∷ places_from (suc at) (b % 16) rest
places_from at (suc skip) (b ∷ rest) = places_from (suc at) skip rest

unfoldable pub places_of : List ℕ → List ℕ
places_of list = places_from 0 0 list

-- ---- the faults of an entry: "51 a length of 0, 52 an entry cut short, 53 a byte out of range"; 0 is none
unfoldable pub length_fault : List ℕ → ℕ → ℕ
length_fault list p = choose (eqb (size_at list p) 0) 51 0

unfoldable pub cut_fault : List ℕ → ℕ → ℕ
cut_fault list p = choose (ltb (length (drop (p + 1) list)) (size_at list p)) 52 0

-- "bytes from 33 to 126"
unfoldable pub letter_at : List ℕ → ℕ → Bool
letter_at text i = in_range 33 (get_or text i 0) 126

unfoldable pub all_letters : List ℕ → Bool
all_letters text = all (length text) (letter_at text)

unfoldable pub letter_fault : List ℕ → ℕ → ℕ
letter_fault list p = choose (all_letters (text_at list p)) 0 53

-- the first of two numbers that is a fault
unfoldable pub first_of : ℕ → ℕ → ℕ
first_of n m = choose (eqb n 0) m n

-- "51 before 52 before 53 within one"
unfoldable pub entry_fault : List ℕ → ℕ → ℕ
entry_fault list p = first_of (length_fault list p) (first_of (cut_fault list p) (letter_fault list p))

-- ---- the fault of two lists: "both lists are tested whole before a name is given, the site's first, entry by entry"
unfoldable pub fault_among : List ℕ → List ℕ → ℕ
fault_among list [] = 0
fault_among list (p ∷ places) = first_of (entry_fault list p) (fault_among list places)

unfoldable pub list_fault : List ℕ → ℕ
list_fault list = fault_among list (places_of list)

unfoldable pub names_fault : List ℕ → List ℕ → ℕ
names_fault site office = first_of (list_fault site) (list_fault office)

-- ---- "the first entry for an address wins"
unfoldable pub found_among : List ℕ → Locality → List ℕ → Option ℕ
found_among list a [] = None
found_among list a (p ∷ places) = choose (eqb (address_at list p) a.0) (Some p) (found_among list a places)

unfoldable pub found_in : List ℕ → Locality → Option ℕ
found_in list a = found_among list a (places_of list)

-- ---- the name handed back

-- a stretch of one of the two lists: the place at which it begins, and how many bytes it has
pub data Stretch : Type 0 where
  of_site : ℕ → ℕ → Stretch
  of_office : ℕ → ℕ → Stretch

-- "an empty stretch of the office's list"
unfoldable pub no_name : Stretch
no_name = of_office 0 0

-- "the stretch of the site's list or, failing that, of the office's", "and an address in neither gets an empty stretch"
unfoldable pub stretch_for : List ℕ → List ℕ → Option ℕ → Option ℕ → Stretch
stretch_for site office (Some p) other = of_site (p + 1) (size_at site p)
stretch_for site office None (Some p) = of_office (p + 1) (size_at office p)
stretch_for site office None None = no_name

-- where the test of the two lists gave this number: a fault "returns that empty stretch"
unfoldable pub stretch_after : ℕ → List ℕ → List ℕ → Locality → Stretch
stretch_after number site office a = choose (eqb number 0) (stretch_for site office (found_in site a) (found_in office a)) no_name

-- the bytes of a stretch
unfoldable pub bytes_of : List ℕ → List ℕ → Stretch → List ℕ
bytes_of site office (of_site from size) = take size (drop from site)
bytes_of site office (of_office from size) = take size (drop from office)

unfoldable pub name_after : ℕ → List ℕ → List ℕ → Locality → List ℕ
name_after number site office a = bytes_of site office (stretch_after number site office a)

-- the name of an address
unfoldable pub stretch_of : List ℕ → List ℕ → Locality → Stretch
stretch_of site office a = stretch_after (names_fault site office) site office a

unfoldable pub name_of : List ℕ → List ℕ → Locality → List ℕ
name_of site office a = name_after (names_fault site office) site office a
