-- Laws of the entries of a list of names (`specs/Names.antt`), and of the loops over them: before each turn, the entries
-- that are left give what all of them give. Assumes nothing.
use Rattle.std.specs.Prelude.{Some, None, Result, Ok, Err, IsTrue, EachIndex, slice_index, ◌↔◌}
use Prim.Native.Nat.{ℕ, zero, suc, ◌+◌, ◌-◌, ◌/◌, ◌<◌, ◌≤◌}
use mathlib.Core.Path.{◌≡◌, refl, sym, ap, ◌∙◌}
use mathlib.Core.Bool.{Bool, true, false}
use mathlib.Core.List.{List, [], ◌∷◌}
use native.Mathlib.Omega.{arith}
use lib.ListN.{length, get_or, take, drop, drop_of_length-le, length-drop}
use lib.Seq.{drop-cons, drop-drop, take_all}
use lib.Dec.{eqb}
use borrow.Author.Tests.{eq-eqb, ne_eqb}
use Rattle.net.specs.Choice.{choose}
use Rattle.net.proofs.Laws.{all_i, all_e, in_range_law, in_range_low, in_range_high, choose_true, choose_false, if_true, if_false, if_lt, if_not_lt}
use Rattle.net.specs.declared.locality.Locality.{Locality}
use Rattle.names.specs.Names.{size_at, address_at, text_at, places_from, places_of, length_fault, cut_fault, letter_at, all_letters}
use Rattle.names.specs.Names.{letter_fault, entry_fault, first_of, fault_among}
use Rattle.names.specs.Names.{list_fault, found_among, found_in}
use Rattle.names.specs.Lookup.{Sought}
use Rattle.std.specs.Result.{result_and}
use Rattle.names.specs.declared.entries.NamesFault.{NamesFault}
use Rattle.names.specs.Faults.{fault_number, number_of}

-- ---- the number that a test answers
pub is_fault : (fault : NamesFault) → fault_number fault ≡ 0 → ⊥
unfolding fault_number
is_fault NamesFault.NoLength e = omega arith
is_fault NamesFault.CutShort e = omega arith
is_fault NamesFault.OutOfRange e = omega arith

pub number_and : (a b : Result (Unit {0}) NamesFault) → number_of (result_and a b) ≡ first_of (number_of a) (number_of b)
unfolding number_of first_of
number_and (Ok x) b = sym (choose_true _ _ _ refl)
number_and (Err fault) b = sym (choose_false _ _ _ (ne_eqb _ 0 (is_fault fault)))

first_none : (m : ℕ) → first_of 0 m ≡ m
unfolding first_of
first_none m = choose_true _ _ _ refl

first_some : (n m : ℕ) → first_of (suc n) m ≡ suc n
unfolding first_of
first_some n m = choose_false _ _ _ (ne_eqb (suc n) 0 (λ e. omega arith))

first_first : (n m k : ℕ) → first_of (first_of n m) k ≡ first_of n (first_of m k)
first_first zero m k = rw (first_none m, first_none (first_of m k)) refl
first_first (suc n) m k = rw (first_some n m, first_some n k, first_some n (first_of m k)) refl

-- by what it answers
module _ (tested : Result (Unit {0}) NamesFault) where
  pub number_ok : (x : Unit {0}) → tested ≡ Ok x → number_of tested ≡ 0
  unfolding number_of
  number_ok x e = rw e refl

  pub number_err : (fault : NamesFault) → tested ≡ Err fault → number_of tested ≡ 0 → ⊥
  unfolding number_of
  number_err fault e z = is_fault fault (ap number_of (sym e) ∙ z)

-- ---- the places of entries
skipped : (at skip : ℕ) (list : List ℕ) → places_from at skip list ≡ places_from (skip + at) 0 (drop skip list)
unfolding places_from
skipped at zero list = ap (λ (p : ℕ). places_from p 0 list) (omega arith)
skipped at (suc skip) [] = refl
skipped at (suc skip) (b ∷ rest) = skipped (suc at) skip rest ∙ ap (λ (p : ℕ). places_from p 0 (drop skip rest)) (omega arith)

-- those from a place on
abbrev pub places_after : List ℕ → ℕ → List ℕ
places_after list at = places_from at 0 (drop at list)

-- the place after an entry
abbrev pub entry_end : List ℕ → ℕ → ℕ
entry_end list at = at + 1 + size_at list at

places_next : (list : List ℕ) (at : ℕ) → at < length list → places_after list at ≡ at ∷ places_after list (entry_end list at)
unfolding places_from size_at
places_next list at h =
    let left : size_at list at + suc at ≡ entry_end list at = omega arith in
    let right : suc at + size_at list at ≡ entry_end list at = omega arith in
    ap (places_from at 0) (drop-cons list at 0 h)
    ∙ ap (λ (ps : List ℕ). at ∷ ps)
    (skipped (suc at) (size_at list at) (drop (suc at) list)
    ∙ ap (places_from (size_at list at + suc at) 0) (drop-drop (size_at list at) (suc at) list)
    ∙ ap (λ (p : ℕ). places_from p 0 (drop (suc at + size_at list at) list)) left
    ∙ ap (λ (p : ℕ). places_from (entry_end list at) 0 (drop p list)) right)

-- past the list's end
places_none : (list : List ℕ) (at : ℕ) → length list ≤ at → places_after list at ≡ []
unfolding places_from
places_none list at h = ap (places_from at 0) (drop_of_length-le list h)

-- ---- the loops: f is what they look for among entries
pub record Left {A : Type 0} (list : List ℕ) (f : List ℕ → A) (at : ℕ) : Type 0 where
  pub same : f (places_after list at) ≡ f (places_of list)

module _ {A : Type 0} (list : List ℕ) (f : List ℕ → A) where
  pub left_all : Left list f 0
  unfolding places_of
  left_all = record { same = refl }

-- what is found at a place, and else after it
module _ (list : List ℕ) (at : ℕ) (h : at < length list) where
  pub fault_next : fault_among list (places_after list at) ≡ first_of (entry_fault list at) (fault_among list (places_after list (entry_end list at)))
  unfolding fault_among
  fault_next = ap (fault_among list) (places_next list at h)

  pub found_next :
      (a : Locality)
      → found_among list a (places_after list at)
      ≡ choose (eqb (address_at list at) a.0) (Some at) (found_among list a (places_after list (entry_end list at)))
  unfolding found_among
  found_next a = ap (found_among list a) (places_next list at h)

  -- the first fault
  pub fault_again :
      (next : ℕ) → Left list (fault_among list) at → 0 ≡ entry_fault list at → next ≡ entry_end list at
      → Left list (fault_among list) next
  unfolding first_of
  fault_again next l e p = record {
    same = ap (λ (q : ℕ). fault_among list (places_after list q)) p
        ∙ sym (fault_next ∙ choose_true _ _ _ (eq-eqb _ 0 (sym e))) ∙ l.same;
  }

  pub fault_here :
      (fault : NamesFault) → Left list (fault_among list) at → number_of (Err fault) ≡ entry_fault list at
      → number_of (Err fault) ≡ list_fault list
  unfolding first_of list_fault number_of
  fault_here fault l e = e ∙ sym (fault_next ∙ choose_false _ _ _ (ne_eqb _ 0 (λ q. is_fault fault (e ∙ q)))) ∙ l.same

  -- the first entry for an address
  module _ (a : Locality) where
    pub found_again :
        (next : ℕ) → Left list (found_among list a) at → (get_or list at 0 / 16 ≡ a.0 → ⊥) → next ≡ entry_end list at
        → Left list (found_among list a) next
    unfolding address_at
    found_again next l z p = record {
      same = ap (λ (q : ℕ). found_among list a (places_after list q)) p
          ∙ sym (found_next a ∙ choose_false _ _ _ (ne_eqb _ _ z)) ∙ l.same;
    }

    pub found_here : Left list (found_among list a) at → get_or list at 0 / 16 ≡ a.0 → Sought list a (Some at)
    unfolding address_at found_in
    found_here l e = record {
      first = sym (found_next a ∙ choose_true _ _ _ (eq-eqb _ _ e)) ∙ l.same;
      inside = λ p q. let same : at ≡ p = cc in omega arith;
    }

-- past the list's end
module _ (list : List ℕ) (at : ℕ) (h : length list ≤ at) where
  pub fault_past : fault_among list (places_after list at) ≡ 0
  unfolding fault_among
  fault_past = ap (fault_among list) (places_none list at h)

  pub found_past : (a : Locality) → found_among list a (places_after list at) ≡ None
  unfolding found_among
  found_past a = ap (found_among list a) (places_none list at h)

  pub fault_none : Left list (fault_among list) at → 0 ≡ list_fault list
  unfolding list_fault
  fault_none l = sym fault_past ∙ l.same

  pub found_none : (a : Locality) → Left list (found_among list a) at → Sought list a None
  unfolding found_in
  found_none a l = record {
    first = sym (found_past a) ∙ l.same;
    inside = λ p q. let z : ◌≡◌ {A = ℕ} 0 1 = cc in absurd (omega arith);
  }

-- ---- the text of an entry, up to its end or, where it is cut short, the list's
module _ (list : List ℕ) (at end : ℕ) (e : end ≡ entry_end list at) where
  pub text_whole : take (end - (at + 1)) (drop (at + 1) list) ≡ take (size_at list at) (drop (at + 1) list)
  text_whole = let n : end - (at + 1) ≡ size_at list at = omega arith in rw n

  pub text_cut : length list < end → take (length list - (at + 1)) (drop (at + 1) list) ≡ take (size_at list at) (drop (at + 1) list)
  text_cut h =
      let long = length-drop (at + 1) list in
      take_all (length list - (at + 1)) _ (omega arith) ∙ sym (take_all (size_at list at) _ (omega arith))

-- ---- an entry cut short
module _ (list : List ℕ) (at end : ℕ) (e : end ≡ entry_end list at) (h : at < length list) where
  pub cut_there : length list < end → 52 ≡ cut_fault list at
  unfolding cut_fault
  cut_there l =
      let long = length-drop (at + 1) list in
      let short : length (drop (at + 1) list) < size_at list at = omega arith in
      if_lt _ _ _ _ _ short refl

  pub not_cut : end ≤ length list → 0 ≡ cut_fault list at
  unfolding cut_fault
  not_cut l =
      let long = length-drop (at + 1) list in
      let enough : size_at list at ≤ length (drop (at + 1) list) = omega arith in
      if_not_lt _ _ _ _ _ enough refl

-- ---- letters
same_truth : (a b : Bool) → (a ≡ true → b ≡ true) → (b ≡ true → a ≡ true) → a ≡ b
same_truth true b f g = sym (f refl)
same_truth false true f g = g refl
same_truth false false f g = refl

-- what the chain over a text says
pub letters_each :
    (text : List ℕ) (ok : Bool) → (IsTrue ok ↔ EachIndex text (λ k. (33 ≤ slice_index text k) × (slice_index text k ≤ 126))) → ok ≡ all_letters text
unfolding all_letters letter_at
letters_each text ok e =
    same_truth ok _ (λ h. all_i (length text) _ (λ i l. in_range_law 33 _ 126 (e.0 h i l).0 (e.0 h i l).1))
    (λ h. e.1 (λ i l. (in_range_low 33 _ 126 (all_e (length text) _ h i l), in_range_high 33 _ 126 (all_e (length text) _ h i l))))

-- ---- letters in the text of an entry
module _ (list text : List ℕ) (at : ℕ) (ok : Bool) (t : text ≡ take (size_at list at) (drop (at + 1) list)) (e : ok ≡ all_letters text) where
  pub in_letters : ok ≡ true → 0 ≡ letter_fault list at
  unfolding letter_fault text_at
  in_letters h = if_true _ _ _ _ (ap all_letters (sym t) ∙ sym e ∙ h) refl

  pub not_letters : ok ≡ false → 53 ≡ letter_fault list at
  unfolding letter_fault text_at
  not_letters h = if_false _ _ _ _ (ap all_letters (sym t) ∙ sym e ∙ h) refl

-- ---- the faults of an entry, in their order
pub entry_tested :
    (list : List ℕ) (at : ℕ) (size end letters : Result (Unit {0}) NamesFault) → number_of size ≡ length_fault list at
    → number_of end ≡ cut_fault list at → number_of letters ≡ letter_fault list at
    → number_of (result_and (result_and size end) letters) ≡ entry_fault list at
unfolding entry_fault
entry_tested list at size end letters s c l = rw (number_and, number_and, s, c, l, first_first) refl
