-- A name is the text of the first entry for its address, and what it is made of (`specs/NameClaims.antt`). Assumes nothing.
use Rattle.std.specs.Prelude.{Option, Some, None}
use Prim.Native.Nat.{ℕ, ◌/◌, ◌<◌, ◌≤◌}
use mathlib.Core.Path.{◌≡◌, refl, sym, ap, subst, ◌∙◌}
use mathlib.Core.List.{List, [], ◌∷◌, ◌++◌}
use native.Mathlib.Omega.{arith}
use native.Mathlib.Decide.{ℕ_discrete}
use lib.ListN.{length, get_or, drop}
use lib.Dec.{eqb}
use borrow.Author.Tests.{eqb-true, eqb-false, eq-eqb, ne_eqb}
use Rattle.net.proofs.Laws.{choose_true, choose_false}
use Rattle.net.proofs.Every.{chosen}
use Rattle.net.specs.declared.locality.Locality.{Locality}
use Rattle.names.specs.Names.{of_office, address_at, text_at, places_of, names_fault, found_among, found_in, no_name}
use Rattle.names.specs.Names.{stretch_for, stretch_after, bytes_of, name_after, stretch_of, name_of}
use Rattle.names.specs.NameClaims.{Letters, Text, Entry, first_byte, Entries, no_entries, entry_then, FirstFault, no_fault}
use Rattle.names.specs.NameClaims.{past_entry, length_of_nought, cut_short, out_of_range}
use Rattle.names.specs.NameClaims.{FirstOfTwo, in_site, past_site, FaultNamesNone, FirstFor, here, later, NoneFor}
use Rattle.names.specs.NameClaims.{nothing_left, other}
use Rattle.names.specs.NameClaims.{EntryFor, named_by_site, named_by_office, InNeither, in_neither, NameIsEntry, NoneAboveFifteen, NameIsShort}
use Rattle.names.proofs.EntryLaws.{places_after, entry_end, found_next, found_past}
use Rattle.names.proofs.Standing.{stands, ended, address_there, text_there, after_there, address_is, text_is, rest_is}
use Rattle.names.proofs.FirstFault.{first_fault_of_names}

-- ---- with a fault
no_stretch : (site office : List ℕ) (a : Locality) → (names_fault site office ≡ 0 → ⊥) → stretch_of site office a ≡ of_office 0 0
unfolding stretch_of stretch_after no_name
no_stretch site office a f = choose_false _ _ _ (ne_eqb _ 0 f)

no_name_law : (site office : List ℕ) (a : Locality) → (names_fault site office ≡ 0 → ⊥) → name_of site office a ≡ []
unfolding name_of name_after stretch_of bytes_of
no_name_law site office a f = ap (bytes_of site office) (no_stretch site office a f)

pub fault_names_none : FaultNamesNone
fault_names_none = record { none = no_name_law; stretch = no_stretch }

-- ---- without one, each list is entries
data Whole (list : List ℕ) : Type 0 where
  whole : {entries : List Entry} → Entries list entries → Whole list

more_whole : (a : ℕ) {text rest : List ℕ} → Text text → Whole rest → Whole (first_byte a (length text) ∷ (text ++ rest))
more_whole a t (whole e) = whole (entry_then {a = a} t e)

is_whole : (list : List ℕ) (n : ℕ) → n ≡ 0 → FirstFault list n → Whole list
is_whole list n z no_fault = whole no_entries
is_whole list n z (past_entry a t f) = more_whole a t (is_whole _ n z f)
is_whole list n z (length_of_nought a) = absurd (omega arith)
is_whole list n z (cut_short a size l u c) = absurd (omega arith)
is_whole list n z (out_of_range a text rest i l u h w) = absurd (omega arith)

-- ---- what is found in a list that is entries
data FoundFor (list : List ℕ) (a : Locality) (entries : List Entry) : Option ℕ → Type 0 where
  found_at : {p : ℕ} → FirstFor a.0 entries (text_at list p) → FoundFor list a entries (Some p)
  not_found : NoneFor a.0 entries → FoundFor list a entries None

module _ (list : List ℕ) (a : Locality) where
  found_later :
      (e : Entry) (entries : List Entry) (f : Option ℕ) → (e.address ≡ a.0 → ⊥) → FoundFor list a entries f
      → FoundFor list a (e ∷ entries) f
  found_later e entries _ n (found_at h) = found_at (later n h)
  found_later e entries _ n (not_found h) = not_found (other n h)

  first_here : (b : ℕ) (text : List ℕ) (entries : List Entry) (at : ℕ) → b ≡ a.0 → text_at list at ≡ text
      → FoundFor list a (record { address = b; text = text } ∷ entries) (Some at)
  first_here b text entries at e t =
      found_at
      (subst (λ (x : ℕ). FirstFor a.0 (record { address = x; text = text } ∷ entries) (text_at list at)) (sym e)
      (subst (λ (x : List ℕ). FirstFor a.0 (record { address = a.0; text = text } ∷ entries) x) (sym t) here))

  found_for :
      (at : ℕ) (tail : List ℕ) (entries : List Entry) → drop at list ≡ tail → Entries tail entries
      → FoundFor list a entries (found_among list a (places_after list at))
  found_for at _ _ e no_entries = subst (FoundFor list a []) (sym (found_past list at (ended list at e) a)) (not_found nothing_left)
  found_for at _ _ e (entry_then {a = b} {text = text} {rest = rest} {entries = entries} t es) =
      let s = stands list at _ _ e in
      let entry : Entry = record { address = b; text = text } in
      let named : address_at list at ≡ b = address_there list at _ _ s ∙ address_is b text rest t.few in
      subst (FoundFor list a (entry ∷ entries)) (sym (found_next list at s.inside a))
      (chosen (FoundFor list a (entry ∷ entries)) (eqb (address_at list at) a.0) _ _
      (λ h. first_here b text entries at (sym named ∙ eqb-true _ _ h) (text_there list at _ _ s ∙ text_is b text rest t.few))
      (λ h. found_later entry entries _ (λ q. eqb-false _ _ h (named ∙ q))
      (found_for (entry_end list at) rest entries (after_there list at _ _ s ∙ rest_is b text rest t.few) es)))

  found_in_law : (entries : List Entry) → Entries list entries → FoundFor list a entries (found_in list a)
  unfolding found_in places_of
  found_in_law entries e = found_for 0 list entries refl e

-- ---- the name of an address in two lists that are entries
data Outcome (a : Locality) (sites offices : List Entry) : List ℕ → Type 0 where
  from_site : {name : List ℕ} → FirstFor a.0 sites name → Outcome a sites offices name
  from_office : {name : List ℕ} → NoneFor a.0 sites → FirstFor a.0 offices name → Outcome a sites offices name
  from_neither : NoneFor a.0 sites → NoneFor a.0 offices → Outcome a sites offices []

outcome :
    (site office : List ℕ) (a : Locality) (sites offices : List Entry) (f g : Option ℕ) → FoundFor site a sites f
    → FoundFor office a offices g → Outcome a sites offices (bytes_of site office (stretch_for site office f g))
unfolding bytes_of stretch_for no_name text_at
outcome site office a sites offices _ g (found_at h) w = from_site h
outcome site office a sites offices _ _ (not_found h) (found_at w) = from_office h w
outcome site office a sites offices _ _ (not_found h) (not_found w) = from_neither h w

name_found :
    (site office : List ℕ) (a : Locality) → names_fault site office ≡ 0
    → bytes_of site office (stretch_for site office (found_in site a) (found_in office a)) ≡ name_of site office a
unfolding name_of name_after stretch_after
name_found site office a z = ap (bytes_of site office) (sym (choose_true _ _ _ (eq-eqb _ 0 z)))

name_outcome :
    (site office : List ℕ) (a : Locality) {sites offices : List Entry} → names_fault site office ≡ 0 → Entries site sites
    → Entries office offices → Outcome a sites offices (name_of site office a)
name_outcome site office a {sites} {offices} z e w =
    subst (Outcome a sites offices) (name_found site office a z)
    (outcome site office a sites offices _ _ (found_in_law site a sites e) (found_in_law office a offices w))

-- the text of a first entry is one of an entry
first_text : {list : List ℕ} {entries : List Entry} {text : List ℕ} (a : ℕ) → Entries list entries → FirstFor a entries text → Text text
first_text a (entry_then t e) here = t
first_text a (entry_then t e) (later n f) = first_text a e f
first_text {text = text} a no_entries x4 = elim x4 [ ]

never_empty : {list : List ℕ} {entries : List Entry} (a : ℕ) → Entries list entries → FirstFor a entries [] → ⊥
never_empty a e f = let t = (first_text a e f).some in omega arith

-- ---- the claims
module _ (site office : List ℕ) (a : Locality) where
  entry_of :
      {sites offices : List Entry} (name : List ℕ) → Entries site sites → Entries office offices
      → Outcome a sites offices name → (name ≡ [] → ⊥) → EntryFor site office a name
  entry_of name e w (from_site f) n = named_by_site e f
  entry_of name e w (from_office h f) n = named_by_office e h w f
  entry_of name e w (from_neither h g) n = absurd (n refl)

  neither_of :
      {sites offices : List Entry} (name : List ℕ) → Entries site sites → Entries office offices
      → Outcome a sites offices name → name ≡ [] → InNeither site office a
  neither_of name e w (from_site f) z = absurd (never_empty a.0 e (subst (FirstFor a.0 _) z f))
  neither_of name e w (from_office h f) z = absurd (never_empty a.0 w (subst (FirstFor a.0 _) z f))
  neither_of name e w (from_neither h g) z = in_neither e h w g

  -- both lists are entries, and the name is what they give
  data Read : Type 0 where
    read : {sites offices : List Entry} → Entries site sites → Entries office offices → Outcome a sites offices (name_of site office a) → Read

  is_read : names_fault site office ≡ 0 → Read
  is_read z = go (names_fault site office) z (first_fault_of_names.is site office)
    where
      both : Whole site → Whole office → Read
      both (whole e) (whole w) = read e w (name_outcome site office a z e w)

      go : (n : ℕ) → n ≡ 0 → FirstOfTwo site office n → Read
      go n e (in_site f w) = absurd (w e)
      go n e (past_site f g) = both (is_whole site 0 refl f) (is_whole office n e g)

  is_entry : (name_of site office a ≡ [] → ⊥) → EntryFor site office a (name_of site office a)
  is_entry n = go (ℕ_discrete (names_fault site office) 0)
    where
      found : Read → EntryFor site office a (name_of site office a)
      found (read e w o) = entry_of _ e w o n

      go : Dec (names_fault site office ≡ 0) → EntryFor site office a (name_of site office a)
      go (yes z) = found (is_read z)
      go (no z) = absurd (n (no_name_law site office a z))

  is_neither : names_fault site office ≡ 0 → name_of site office a ≡ [] → InNeither site office a
  is_neither z n = go (is_read z)
    where
      go : Read → InNeither site office a
      go (read e w o) = neither_of _ e w o n

  -- a name of at least one byte has what the text of an entry has
  name_text : (name_of site office a ≡ [] → ⊥) → Text (name_of site office a)
  name_text n = go (is_entry n)
    where
      go : EntryFor site office a (name_of site office a) → Text (name_of site office a)
      go (named_by_site e f) = first_text a.0 e f
      go (named_by_office e h w f) = first_text a.0 w f

pub name_is_entry : NameIsEntry
name_is_entry = record { entry = is_entry; empty = is_neither }

-- what holds of no bytes, and of bytes
by_bytes : (P : List ℕ → Type 0) (name : List ℕ) → P [] → ((name ≡ [] → ⊥) → P name) → P name
by_bytes P [] p f = p
by_bytes P (b ∷ name) p f = f (λ e. let z : ◌≡◌ {A = ℕ} 0 1 = cc in omega arith)

pub name_is_short : NameIsShort
name_is_short = record {
  few = λ site office a.
      by_bytes (λ (l : List ℕ). length l ≤ 15) (name_of site office a) (omega arith) (λ n. (name_text site office a n).few);
  letters = λ site office a.
      by_bytes Letters (name_of site office a) (record { each = λ i h. absurd (omega arith) }) (λ n. (name_text site office a n).letters);
}

-- ---- an address above 15
found_above :
    (list : List ℕ) (a : Locality) (places : List ℕ) → ((i : ℕ) → get_or list i 0 < 256) → 15 < a.0
    → found_among list a places ≡ None
unfolding found_among address_at
found_above list a [] small h = refl
found_above list a (p ∷ places) small h =
    let byte = small p in
    choose_false _ _ _ (ne_eqb (get_or list p 0 / 16) a.0 (λ e. omega arith)) ∙ found_above list a places small h

none_found :
    (site office : List ℕ) (f g : Option ℕ) → f ≡ None → g ≡ None
    → bytes_of site office (stretch_for site office f g) ≡ []
unfolding bytes_of stretch_for no_name
none_found site office f g e w = rw (e, w)

pub none_above_fifteen : NoneAboveFifteen
unfolding NoneAboveFifteen found_in
none_above_fifteen site office a small few h = go (ℕ_discrete (names_fault site office) 0)
  where
    go : Dec (names_fault site office ≡ 0) → name_of site office a ≡ []
    go (yes z) =
        sym (name_found site office a z)
        ∙ none_found site office _ _ (found_above site a _ small h) (found_above office a _ few h)
    go (no z) = no_name_law site office a z
