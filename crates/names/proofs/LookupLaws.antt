-- Laws of the name of an address (`specs/Names.antt`, `specs/Lookup.antt`). Assumes nothing.
use Rattle.std.specs.Prelude.{Option, Some, None, Err}
use Prim.Native.Nat.{ℕ, ◌+◌, ◌<◌}
use mathlib.Core.Path.{◌≡◌, refl, sym, ap, subst, ◌∙◌}
use mathlib.Core.List.{List}
use lib.ListN.{length}
use denote.Ref.{Bor}
use Rattle.net.proofs.Laws.{if_eq, if_ne}
use Rattle.net.specs.declared.locality.Locality.{Locality}
use Rattle.names.specs.Names.{Stretch, of_site, of_office, size_at, first_of, list_fault, names_fault, found_in, no_name, stretch_for}
use Rattle.names.specs.Names.{stretch_after, bytes_of, name_after, stretch_of, name_of}
use Rattle.names.specs.declared.entries.NamesFault.{NamesFault}
use Rattle.names.specs.Faults.{number_of}
use Rattle.names.proofs.EntryLaws.{is_fault}
use Rattle.names.specs.Lookup.{PartOf, PartOfOne, NamedAfter, Named, Sought, TextFound, Picked}

-- ---- the number of two lists
pub site_tested :
    (site office : List ℕ) (fault : NamesFault) → number_of (Err fault) ≡ list_fault site → number_of (Err fault) ≡ names_fault site office
unfolding names_fault first_of number_of
site_tested site office fault e = if_ne _ _ _ _ _ (λ z. is_fault fault (e ∙ z)) e

pub office_tested : (site office : List ℕ) (n : ℕ) → 0 ≡ list_fault site → n ≡ list_fault office → n ≡ names_fault site office
unfolding names_fault first_of
office_tested site office n z e = if_eq _ _ _ _ _ (sym z) e

-- ---- the stretch for what was found
pub there : (list : List ℕ) (a : Locality) (found : Option ℕ) (p : ℕ) → Sought list a found → found ≡ Some p → p < length list
there list a found p s e = s.inside p e

module _ (list r : Bor (List ℕ)) (a : Locality) (found : Option ℕ) (s : Sought list.now a found) where
  pub text_found :
      (p : ℕ) → found ≡ Some p → PartOf list (p + 1) (size_at list.now p) r → TextFound list (found_in list.now a) r
  unfolding TextFound
  text_found p e h = subst (λ (f : Option ℕ). TextFound list f r) (sym e ∙ s.first) h

  pub text_missing : found ≡ None → PartOf list 0 0 r → TextFound list (found_in list.now a) r
  unfolding TextFound
  text_missing e h = subst (λ (f : Option ℕ). TextFound list f r) (sym e ∙ s.first) h

office_text : (site office r : Bor (List ℕ)) (found : Option ℕ) → TextFound office found r → Picked site office None found r
unfolding TextFound Picked PartOfOne stretch_for no_name
office_text site office r (Some p) h = h
office_text site office r None h = h

module _ (site office r : Bor (List ℕ)) (a : Locality) (found : Option ℕ) (s : Sought site.now a found) where
  pub picked_site :
      (p : ℕ) → found ≡ Some p → PartOf site (p + 1) (size_at site.now p) r
      → Picked site office (found_in site.now a) (found_in office.now a) r
  unfolding Picked PartOfOne stretch_for
  picked_site p e h = subst (λ (f : Option ℕ). Picked site office f (found_in office.now a) r) (sym e ∙ s.first) h

  pub picked_office :
      found ≡ None → TextFound office (found_in office.now a) r
      → Picked site office (found_in site.now a) (found_in office.now a) r
  picked_office e h =
      subst (λ (f : Option ℕ). Picked site office f (found_in office.now a) r) (sym e ∙ s.first) (office_text site office r _ h)

-- ---- the name
part_bytes : (site office r : Bor (List ℕ)) (s : Stretch) → PartOfOne site office s r → r.now ≡ bytes_of site.now office.now s
unfolding PartOfOne bytes_of
part_bytes site office r (of_site from size) h = h.bytes
part_bytes site office r (of_office from size) h = h.bytes

module _ (number : ℕ) (site office r : Bor (List ℕ)) (a : Locality) where
  named : (s : Stretch) → s ≡ stretch_after number site.now office.now a → PartOfOne site office s r → NamedAfter number site office a r
  unfolding name_after
  named s e h = record {
    is = part_bytes site office r s h ∙ ap (bytes_of site.now office.now) e;
    stands = subst (λ (t : Stretch). PartOfOne site office t r) e h;
  }

  pub named_picked :
      number ≡ 0 → Picked site office (found_in site.now a) (found_in office.now a) r → NamedAfter number site office a r
  unfolding Picked stretch_after
  named_picked z h = named _ (if_eq _ _ _ _ _ z refl) h

  pub named_none : (number ≡ 0 → ⊥) → PartOf office 0 0 r → NamedAfter number site office a r
  unfolding PartOfOne stretch_after no_name
  named_none z h = named (of_office 0 0) (if_ne _ _ _ _ _ z refl) h

-- the number is that of the two lists
pub named_tested :
    (number : ℕ) (site office r : Bor (List ℕ)) (a : Locality) → number ≡ names_fault site.now office.now
    → NamedAfter number site office a r → Named site office a r
unfolding name_of stretch_of
named_tested number site office r a e h = record {
  is = h.is ∙ ap (λ (n : ℕ). name_after n site.now office.now a) e;
  stands = subst (λ (n : ℕ). PartOfOne site office (stretch_after n site.now office.now a) r) e h.stands;
}
