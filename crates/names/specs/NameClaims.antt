-- What is claimed of station names (document 02, slip 14), said over entries one after another and not over places: the
-- number is that of the first fault; with a fault there is no name; a name is the text of the first entry for its address;
-- and what a name is made of.
use Rattle.std.specs.Prelude.{ℕ, ◌+◌, ◌*◌, ◌<◌, ◌≤◌, ◌≡◌, List, [], ◌∷◌, ◌++◌, length, get_or}
use Rattle.net.specs.declared.locality.Locality.{Locality}
use Rattle.names.specs.Names.{of_office, names_fault, stretch_of, name_of}

-- ---- a list without a fault

-- "bytes from 33 to 126"
pub record Letter (b : ℕ) : Type 0 where
  pub low : 33 ≤ b
  pub high : b ≤ 126

pub record Letters (text : List ℕ) : Type 0 where
  pub each : (i : ℕ) → i < length text → Letter (get_or text i 0)

-- the text of an entry: "1 to 15" of them
pub record Text (text : List ℕ) : Type 0 where
  pub some : 1 ≤ length text
  pub few : length text ≤ 15
  pub letters : Letters text

-- an entry's first byte: "4 bits of address, 4 bits of length"
abbrev pub first_byte : ℕ → ℕ → ℕ
first_byte a size = a * 16 + size

pub record Entry : Type 0 where
  pub address : ℕ
  pub text : List ℕ

-- bytes that are entries, one after another
pub data Entries : List ℕ → List Entry → Type 0 where
  no_entries : Entries [] []
  entry_then :
      {a : ℕ} {text rest : List ℕ} {entries : List Entry}
      → Text text
      → Entries rest entries
      → Entries (first_byte a (length text) ∷ (text ++ rest)) (record { address = a; text = text } ∷ entries)

-- ---- the first fault

-- of a list: entries without a fault are passed, and in the entry that has one no earlier number of the order is met
pub data FirstFault : List ℕ → ℕ → Type 0 where
  no_fault : FirstFault [] 0
  past_entry :
      (a : ℕ) {text rest : List ℕ} {n : ℕ}
      → Text text
      → FirstFault rest n
      → FirstFault (first_byte a (length text) ∷ (text ++ rest)) n
  length_of_nought : (a : ℕ) {rest : List ℕ} → FirstFault (first_byte a 0 ∷ rest) 51
  cut_short : (a size : ℕ) {rest : List ℕ} → 1 ≤ size → size ≤ 15 → length rest < size → FirstFault (first_byte a size ∷ rest) 52
  out_of_range :
      (a : ℕ) (text rest : List ℕ) (i : ℕ)
      → 1 ≤ length text
      → length text ≤ 15
      → i < length text
      → (Letter (get_or text i 0) → ⊥)
      → FirstFault (first_byte a (length text) ∷ (text ++ rest)) 53

-- of two lists, "the site's first"
pub data FirstOfTwo (site office : List ℕ) : ℕ → Type 0 where
  in_site : {n : ℕ} → FirstFault site n → (n ≡ 0 → ⊥) → FirstOfTwo site office n
  past_site : {n : ℕ} → FirstFault site 0 → FirstFault office n → FirstOfTwo site office n

-- the number is that of the first fault, 0 where there is none, and no other number is
pub record FirstFaultOfNames : Type 0 where
  pub is : (site office : List ℕ) → FirstOfTwo site office (names_fault site office)
  pub only : (site office : List ℕ) (n : ℕ) → FirstOfTwo site office n → names_fault site office ≡ n

-- with a fault every name is the empty stretch of the office's list
pub record FaultNamesNone : Type 0 where
  pub none : (site office : List ℕ) (a : Locality) → (names_fault site office ≡ 0 → ⊥) → name_of site office a ≡ []
  pub stretch : (site office : List ℕ) (a : Locality) → (names_fault site office ≡ 0 → ⊥) → stretch_of site office a ≡ of_office 0 0

-- ---- the name of an address

-- the first entry for an address has this text
pub data FirstFor (a : ℕ) : List Entry → List ℕ → Type 0 where
  here : {text : List ℕ} {entries : List Entry} → FirstFor a (record { address = a; text = text } ∷ entries) text
  later :
      {e : Entry} {entries : List Entry} {text : List ℕ}
      → (e.address ≡ a → ⊥)
      → FirstFor a entries text
      → FirstFor a (e ∷ entries) text

-- no entry is for it
pub data NoneFor (a : ℕ) : List Entry → Type 0 where
  nothing_left : NoneFor a []
  other : {e : Entry} {entries : List Entry} → (e.address ≡ a → ⊥) → NoneFor a entries → NoneFor a (e ∷ entries)

pub data EntryFor (site office : List ℕ) (a : Locality) (name : List ℕ) : Type 0 where
  named_by_site : {entries : List Entry} → Entries site entries → FirstFor a.0 entries name → EntryFor site office a name
  named_by_office :
      {entries more : List Entry}
      → Entries site entries
      → NoneFor a.0 entries
      → Entries office more
      → FirstFor a.0 more name
      → EntryFor site office a name

pub data InNeither (site office : List ℕ) (a : Locality) : Type 0 where
  in_neither :
      {entries more : List Entry}
      → Entries site entries
      → NoneFor a.0 entries
      → Entries office more
      → NoneFor a.0 more
      → InNeither site office a

-- a name that is not empty is the text of the first entry for its address in the site's list or, where that has none, in
-- the office's; without a fault a name is empty only where neither list has an entry for the address
pub record NameIsEntry : Type 0 where
  pub entry : (site office : List ℕ) (a : Locality) → (name_of site office a ≡ [] → ⊥) → EntryFor site office a (name_of site office a)
  pub empty : (site office : List ℕ) (a : Locality) → names_fault site office ≡ 0 → name_of site office a ≡ [] → InNeither site office a

-- "an address asked for above 15 is in neither"
unfoldable pub NoneAboveFifteen : Type 0
NoneAboveFifteen =
    (site office : List ℕ) (a : Locality)
    → ((i : ℕ) → get_or site i 0 < 256)
    → ((i : ℕ) → get_or office i 0 < 256)
    → 15 < a.0
    → name_of site office a ≡ []

-- ---- a name has at most 15 bytes, each from 33 to 126: no space and no newline
pub record NameIsShort : Type 0 where
  pub few : (site office : List ℕ) (a : Locality) → length (name_of site office a) ≤ 15
  pub letters : (site office : List ℕ) (a : Locality) → Letters (name_of site office a)
