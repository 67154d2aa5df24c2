-- The number of two lists is that of the first fault (`FirstFaultOfNames` of `specs/NameClaims.antt`). Assumes nothing.
use Prim.Native.Nat.{ℕ, zero, suc, ◌/◌, ◌%◌, ◌<◌, ◌≤◌}
use mathlib.Core.Path.{◌≡◌, refl, sym, ap, subst, ◌∙◌}
use mathlib.Core.Bool.{Bool, true, false}
use mathlib.Core.List.{List, [], ◌∷◌, ◌++◌}
use native.Mathlib.Omega.{arith}
use lib.ListN.{length, get_or, take, drop, length-drop, length-append}
use lib.Dec.{eqb, ltb}
use borrow.Author.Tests.{eqb-true, eqb-false, ltb-true, ltb-false, eq-eqb, ne_eqb}
use Rattle.net.specs.Choice.{choose, both, all}
use Rattle.net.proofs.Laws.{choose_true, choose_false, all_i, all_e, in_range_law, in_range_low, in_range_high}
use Rattle.net.proofs.Every.{chosen}
use Rattle.net.proofs.ReadingLaws.{never}
use Rattle.names.specs.Names.{letter_at, all_letters, first_of, places_of, fault_among, list_fault, names_fault}
use Rattle.names.specs.NameClaims.{Letter, Letters, first_byte, FirstFault, no_fault, past_entry, length_of_nought, cut_short}
use Rattle.names.specs.NameClaims.{out_of_range}
use Rattle.names.specs.NameClaims.{FirstOfTwo, in_site, past_site, FirstFaultOfNames}
use Rattle.names.proofs.EntryLaws.{entry_end, places_after, fault_past}
use Rattle.names.proofs.Standing.{stands, ended, by_tests, head_fault, faults_there, after_there, byte_apart, text_long}
use Rattle.names.proofs.Standing.{entry_apart, text_is, rest_is}

-- ---- letters
letter_known : (text : List ℕ) (i : ℕ) → letter_at text i ≡ true → Letter (get_or text i 0)
unfolding letter_at
letter_known text i e = record { low = in_range_low 33 _ 126 e; high = in_range_high 33 _ 126 e }

known_letter : (text : List ℕ) (i : ℕ) → Letter (get_or text i 0) → letter_at text i ≡ true
unfolding letter_at
known_letter text i l = in_range_law 33 _ 126 l.low l.high

pub letters_known : (text : List ℕ) → all_letters text ≡ true → Letters text
unfolding all_letters
letters_known text e = record { each = λ i h. letter_known text i (all_e (length text) (letter_at text) e i h) }

known_letters : (text : List ℕ) → Letters text → all_letters text ≡ true
unfolding all_letters
known_letters text l = all_i (length text) (letter_at text) (λ i h. known_letter text i (l.each i h))

-- a test that fails somewhere below n
data Fails (n : ℕ) (test : ℕ → Bool) : Type 0 where
  fails_at : (i : ℕ) → i < n → test i ≡ false → Fails n test

fails : (n : ℕ) (test : ℕ → Bool) → all n test ≡ false → Fails n test
unfolding all both
fails zero test e = let z : ◌≡◌ {A = ℕ} 0 1 = cc in absurd (omega arith)
fails (suc n) test e = go (all n test) (fails n test) e
  where
    sooner : Fails n test → Fails (suc n) test
    sooner (fails_at i h p) = fails_at i (omega arith) p

    go : (b : Bool) → (b ≡ false → Fails n test) → both b (test n) ≡ false → Fails (suc n) test
    go true f q = fails_at n (omega arith) q
    go false f q = sooner (f refl)

no_letter : (text : List ℕ) (i : ℕ) → letter_at text i ≡ false → Letter (get_or text i 0) → ⊥
no_letter text i e l = never (sym e ∙ known_letter text i l)

-- ---- the number that is given is that of the first fault; m is what the entries after this one give
module _ (b : ℕ) (rest : List ℕ) (m : ℕ) where
  nought : b % 16 ≡ 0 → FirstFault (b ∷ rest) 51
  nought z = subst (λ (x : ℕ). FirstFault (x ∷ rest) 51) (ap (first_byte (b / 16)) (sym z) ∙ byte_apart b) (length_of_nought (b / 16))

  cut : (b % 16 ≡ 0 → ⊥) → length rest < b % 16 → FirstFault (b ∷ rest) 52
  cut z l =
      subst (λ (x : ℕ). FirstFault (x ∷ rest) 52) (byte_apart b) (cut_short (b / 16) (b % 16) (omega arith) (omega arith) l)

  module _ (z : b % 16 ≡ 0 → ⊥) (h : b % 16 ≤ length rest) where
    passed : all_letters (take (b % 16) rest) ≡ true → FirstFault (drop (b % 16) rest) m → FirstFault (b ∷ rest) m
    passed e f =
        let long = text_long b rest h in
        subst (λ (l : List ℕ). FirstFault l m) (entry_apart b rest h)
        (past_entry (b / 16) (record { some = omega arith; few = omega arith; letters = letters_known _ e }) f)

    ranged : Fails (length (take (b % 16) rest)) (letter_at (take (b % 16) rest)) → FirstFault (b ∷ rest) 53
    ranged (fails_at i l p) =
        let long = text_long b rest h in
        subst (λ (l : List ℕ). FirstFault l 53) (entry_apart b rest h)
        (out_of_range (b / 16) (take (b % 16) rest) (drop (b % 16) rest) i (omega arith) (omega arith) l (no_letter _ i p))

  head_is : FirstFault (drop (b % 16) rest) m → FirstFault (b ∷ rest) (first_of (head_fault b rest) m)
  unfolding head_fault all_letters first_of choose
  head_is f =
      by_tests (λ n. FirstFault (b ∷ rest) (first_of n m)) _ _ _ (λ e. nought (eqb-true _ 0 e))
      (λ e l. cut (eqb-false _ 0 e) (ltb-true _ _ l))
      (λ e l t. passed (eqb-false _ 0 e) (ltb-false _ _ l) t f)
      (λ e l t. ranged (eqb-false _ 0 e) (ltb-false _ _ l) (fails _ _ t))

-- what a list gives from a place on, where it is so from every later one on
module _ (list : List ℕ) where
  from_place :
      (at : ℕ) (tail : List ℕ) → drop at list ≡ tail
      → ((p : ℕ) → length (drop p list) < length tail → FirstFault (drop p list) (fault_among list (places_after list p)))
      → FirstFault tail (fault_among list (places_after list at))
  from_place at [] e f = subst (FirstFault []) (sym (fault_past list at (ended list at e))) no_fault
  from_place at (b ∷ rest) e f =
      let s = stands list at b rest e in
      let long = length-drop (b % 16) rest in
      let there = after_there list at b rest s in
      let less : length (drop (entry_end list at) list) < suc (length rest) = rw there (omega arith) in
      let m = fault_among list (places_after list (entry_end list at)) in
      subst (FirstFault (b ∷ rest)) (sym (faults_there list at b rest s))
      (head_is b rest m (subst (λ (l : List ℕ). FirstFault l m) there (f (entry_end list at) less)))

  -- at most k bytes stand there
  fault_is : (k at : ℕ) → length (drop at list) ≤ k → FirstFault (drop at list) (fault_among list (places_after list at))
  fault_is zero at h = from_place at (drop at list) refl (λ p l. absurd (omega arith))
  fault_is (suc k) at h = from_place at (drop at list) refl (λ p l. fault_is k p (omega arith))

  pub list_fault_is : FirstFault list (list_fault list)
  unfolding list_fault places_of
  list_fault_is = fault_is (length list) 0 (omega arith)

-- ---- no other number is
nought_head : (a : ℕ) (rest : List ℕ) → head_fault (first_byte a 0) rest ≡ 51
unfolding head_fault
nought_head a rest =
    by_tests (λ (n : ℕ). n ≡ 51) _ _ _ (λ e. refl) (λ e l. absurd (some e)) (λ e l t. absurd (some e)) (λ e l t. absurd (some e))
  where
    some : eqb (first_byte a 0 % 16) 0 ≡ false → ⊥
    some e = eqb-false (first_byte a 0 % 16) 0 e (omega arith)

cut_head : (a size : ℕ) (rest : List ℕ) → 1 ≤ size → size ≤ 15 → length rest < size → head_fault (first_byte a size) rest ≡ 52
unfolding head_fault
cut_head a size rest s f c =
    by_tests (λ (n : ℕ). n ≡ 52) _ _ _ (λ e. absurd (none e)) (λ e l. refl) (λ e l t. absurd (enough l)) (λ e l t. absurd (enough l))
  where
    none : eqb (first_byte a size % 16) 0 ≡ true → ⊥
    none e = let z = eqb-true (first_byte a size % 16) 0 e in omega arith

    enough : ltb (length rest) (first_byte a size % 16) ≡ false → ⊥
    enough l = let z = ltb-false (length rest) (first_byte a size % 16) l in omega arith

module _ (a : ℕ) (text rest : List ℕ) (s : 1 ≤ length text) (f : length text ≤ 15) where
  none : eqb (first_byte a (length text) % 16) 0 ≡ true → ⊥
  none e = let z = eqb-true (first_byte a (length text) % 16) 0 e in omega arith

  short : ltb (length (text ++ rest)) (first_byte a (length text) % 16) ≡ true → ⊥
  short l =
      let z = ltb-true (length (text ++ rest)) (first_byte a (length text) % 16) l in
      let long = length-append text rest in
      omega arith

  known : (t : Bool) → all_letters (take (first_byte a (length text) % 16) (text ++ rest)) ≡ t → all_letters text ≡ t
  known t e = ap all_letters (sym (text_is a text rest f)) ∙ e

  good_head : Letters text → head_fault (first_byte a (length text)) (text ++ rest) ≡ 0
  unfolding head_fault
  good_head l =
      by_tests (λ (n : ℕ). n ≡ 0) _ _ _ (λ e. absurd (none e)) (λ e c. absurd (short c)) (λ e c t. refl)
      (λ e c t. never (sym (known false t) ∙ known_letters text l))

  bad_head : (i : ℕ) → i < length text → (Letter (get_or text i 0) → ⊥) → head_fault (first_byte a (length text)) (text ++ rest) ≡ 53
  unfolding head_fault
  bad_head i h w =
      by_tests (λ (n : ℕ). n ≡ 53) _ _ _ (λ e. absurd (none e)) (λ e c. absurd (short c))
      (λ e c t. absurd (w ((letters_known text (known true t)).each i h))) (λ e c t. refl)

module _ (list : List ℕ) where
  -- what the entry at a place gives, before those after it
  head_first :
      (at b : ℕ) (rest : List ℕ) (n : ℕ) → drop at list ≡ b ∷ rest → head_fault b rest ≡ n
      → fault_among list (places_after list at) ≡ first_of n (fault_among list (places_after list (entry_end list at)))
  head_first at b rest n e h =
      faults_there list at b rest (stands list at b rest e)
      ∙ ap (λ (x : ℕ). first_of x (fault_among list (places_after list (entry_end list at)))) h

  only_from :
      (at : ℕ) (tail : List ℕ) (n : ℕ) → drop at list ≡ tail → FirstFault tail n → fault_among list (places_after list at) ≡ n
  unfolding first_of choose
  only_from at _ n e no_fault = fault_past list at (ended list at e)
  only_from at _ n e (past_entry a {text} {rest} t f) =
      head_first at _ _ 0 e (good_head a text rest t.some t.few t.letters)
      ∙ only_from (entry_end list at) rest n (after_there list at _ _ (stands list at _ _ e) ∙ rest_is a text rest t.few) f
  only_from at _ n e (length_of_nought a {rest}) = head_first at _ _ 51 e (nought_head a rest)
  only_from at _ n e (cut_short a size {rest} l u c) = head_first at _ _ 52 e (cut_head a size rest l u c)
  only_from at _ n e (out_of_range a text rest i l u h w) = head_first at _ _ 53 e (bad_head a text rest l u i h w)

  list_fault_only : (n : ℕ) → FirstFault list n → list_fault list ≡ n
  unfolding list_fault places_of
  list_fault_only n f = only_from 0 list n refl f

-- ---- of two lists
of_two : (site office : List ℕ) (n : ℕ) → FirstOfTwo site office n → names_fault site office ≡ n
unfolding names_fault first_of
of_two site office n (in_site f z) =
    let e = list_fault_only site n f in
    choose_false _ _ _ (ne_eqb _ 0 (λ q. z (sym e ∙ q))) ∙ e
of_two site office n (past_site f g) =
    choose_true _ _ _ (eq-eqb _ 0 (list_fault_only site 0 f)) ∙ list_fault_only office n g

pub first_fault_of_names : FirstFaultOfNames
unfolding names_fault first_of
first_fault_of_names = record {
  is = λ site office.
      chosen (FirstOfTwo site office) (eqb (list_fault site) 0) (list_fault office) (list_fault site)
      (λ e. past_site (subst (FirstFault site) (eqb-true _ 0 e) (list_fault_is site)) (list_fault_is office))
      (λ e. in_site (list_fault_is site) (eqb-false _ 0 e));
  only = of_two;
}
