-- The counts of all addresses at once are those of each (`CountedIsMade` of `specs/Counting.antt`). Assumes nothing.
use Prim.Native.Nat.{ℕ, ◌+◌, ◌≤◌, ◌<◌}
use mathlib.Core.Path.{◌≡◌, refl, sym, ap, ◌∙◌}
use mathlib.Core.Bool.{Bool, true, false, not}
use mathlib.Core.List.{List, [], ◌∷◌, ◌++◌}
use native.Mathlib.Omega.{arith}
use native.Mathlib.Nat.{mod-eq_of_lt}
use native.Mathlib.Decide.{ℕ_discrete}
use lib.ListN.{length, get_or, set, replicate, length-set, get_or-replicate}
use lib.Seq.{get_or-set_same, get_or-set_other}
use lib.Dec.{eqb, ltb}
use borrow.Author.Tests.{eq-eqb, ne_eqb, ltb-true}
use Rattle.net.specs.Choice.{choose, both}
use Rattle.net.specs.Records.{address_of}
use Rattle.step.specs.Pick.{host_of}
use Rattle.season.specs.Season.{MadeRun, tallied, counts, performs, picks_at, performed_at, left_in, left_at}
use Rattle.season.specs.Sums.{Tally, Sums, tally_at, plus, with_counts, tally_with, tallies_with, with_made}
use Rattle.season.proofs.Appended.{fold_same}
use Rattle.season.proofs.Fitting.{most_one}
use Rattle.season.specs.Counting.{Counts, no_counts, one_more, bumped, counted_one, counted, tally_counted, tallies_counted, with_counted}
use Rattle.season.specs.Counting.{CountedIsMade}

-- ---- an array with one more at a place
module _ (ns : List ℕ) (h a : ℕ) (size : length ns ≡ 16) (l : a < 16) (few : get_or ns a 0 < 65536) where
  one_more_law : (t : Bool) → one_more t (get_or ns a 0) ≡ get_or ns a 0 + choose t 1 0
  unfolding one_more plus choose
  one_more_law true = mod-eq_of_lt (omega arith)
  one_more_law false = omega arith

  bumped_same : (t : Bool) → a ≡ h → get_or (bumped t ns h) a 0 ≡ get_or ns a 0 + choose (both (eqb h a) t) 1 0
  unfolding bumped both
  bumped_same t e =
      ap (λ (i : ℕ). get_or (bumped t ns i) a 0) (sym e) ∙ get_or-set_same ns a _ 0 (omega arith)
      ∙ one_more_law t
      ∙ ap (λ (s : Bool). get_or ns a 0 + choose (both s t) 1 0) (sym (eq-eqb h a (sym e)))

  bumped_other : (t : Bool) → (a ≡ h → ⊥) → get_or (bumped t ns h) a 0 ≡ get_or ns a 0 + choose (both (eqb h a) t) 1 0
  unfolding bumped both choose
  bumped_other t n =
      get_or-set_other ns h a _ 0 n ∙ omega arith
      ∙ ap (λ (s : Bool). get_or ns a 0 + choose (both s t) 1 0) (sym (ne_eqb h a (λ e. n (sym e))))

  bumped_at : (t : Bool) → get_or (bumped t ns h) a 0 ≡ get_or ns a 0 + choose (both (eqb h a) t) 1 0
  bumped_at t = go (ℕ_discrete a h)
    where
      go : Dec (a ≡ h) → get_or (bumped t ns h) a 0 ≡ get_or ns a 0 + choose (both (eqb h a) t) 1 0
      go (yes e) = bumped_same t e
      go (no n) = bumped_other t n

bumped_length : (t : Bool) (ns : List ℕ) (h : ℕ) → length (bumped t ns h) ≡ length ns
unfolding bumped
bumped_length t ns h = length-set ns h _

-- ---- one pick
record Sized (c : Counts) : Type 0 where
  performed_are : length c.performed ≡ 16
  picks_are : length c.picks ≡ 16

-- from c to d the counts at a go up by one where p and q hold
record Turned (c d : Counts) (a : ℕ) (p q : Bool) : Type 0 where
  sized : Sized d
  performed_is : get_or d.performed a 0 ≡ get_or c.performed a 0 + choose q 1 0
  picks_is : get_or d.picks a 0 ≡ get_or c.picks a 0 + choose p 1 0

-- an answer of 0 or 1 is no 9
performed_counts : (x : ℕ) → ltb x 2 ≡ true → not (eqb x 9) ≡ true
performed_counts x e = ap not (ne_eqb x 9 (λ n. omega (arith, ltb-true x 2 e)))

both_both : (h s t : Bool) → (t ≡ true → s ≡ true) → both h t ≡ both (both h s) t
unfolding both
both_both true s true f = sym (ap (λ (z : Bool). both z true) (f refl))
both_both true true false f = refl
both_both true false false f = refl
both_both false s t f = refl

module _
    (c : Counts) (b x a : ℕ) (sized : Sized c) (l : a < 16) (few : get_or c.performed a 0 < 65536) (fewer : get_or c.picks a 0 < 65536)
  where
    one_turn : Turned c (counted_one c b x) a (counts (address_of a) b x) (performs (address_of a) b x)
    unfolding counted_one counts performs
    one_turn = record {
      sized = record {
        performed_are = bumped_length _ c.performed _ ∙ sized.performed_are;
        picks_are = bumped_length _ c.picks _ ∙ sized.picks_are;
      };
      performed_is =
          bumped_at c.performed (host_of b).0 a sized.performed_are l few (ltb x 2)
          ∙ ap (λ (t : Bool). get_or c.performed a 0 + choose t 1 0) (both_both _ _ _ (performed_counts x));
      picks_is = bumped_at c.picks (host_of b).0 a sized.picks_are l fewer (not (eqb x 9));
    }

-- ---- all picks
record CountedAt (a : ℕ) (picks answers : List ℕ) (c d : Counts) : Type 0 where
  performed_is : get_or d.performed a 0 ≡ get_or c.performed a 0 + tallied (performs (address_of a)) picks answers
  picks_is : get_or d.picks a 0 ≡ get_or c.picks a 0 + tallied (counts (address_of a)) picks answers

counted_at :
    (a : ℕ) → a < 16 → (picks answers : List ℕ) (c : Counts) → Sized c → get_or c.performed a 0 + length picks ≤ 65536
    → get_or c.picks a 0 + length picks ≤ 65536
    → CountedAt a picks answers c (counted c picks answers)
unfolding counted tallied
counted_at a l [] answers c sized few fewer = record { performed_is = omega arith; picks_is = omega arith }
counted_at a l (b ∷ picks) [] c sized few fewer = record { performed_is = omega arith; picks_is = omega arith }
counted_at a l (b ∷ picks) (x ∷ answers) c sized few fewer =
    let turn = one_turn c b x a sized l (omega arith) (omega arith) in
    let performed-one = most_one (performs (address_of a) b x) in
    let picks-one = most_one (counts (address_of a) b x) in
    let rest = counted_at a l picks answers _ turn.sized (omega (arith, turn.performed_is, performed-one)) (omega (arith, turn.picks_is, picks-one)) in
    record {
      performed_is = omega (arith, rest.performed_is, turn.performed_is);
      picks_is = omega (arith, rest.picks_is, turn.picks_is);
    }

-- answers past those of the picks are not looked at
counted_first :
    (c : Counts) (picks answers rest : List ℕ) → length picks ≡ length answers
    → counted c picks (answers ++ rest) ≡ counted c picks answers
unfolding counted
counted_first c [] [] rest e = refl
counted_first c [] (x ∷ answers) rest e = refl
counted_first c (b ∷ picks) [] rest e = absurd (omega arith)
counted_first c (b ∷ picks) (x ∷ answers) rest e = counted_first (counted_one c b x) picks answers rest (omega arith)

-- ---- the sums
none_sized : Sized no_counts
unfolding no_counts
none_sized = record { performed_are = refl; picks_are = refl }

none_at : (a : ℕ) → a < 16 → ◌≡◌ {A = ℕ} (get_or (replicate 16 0) a 0) 0
none_at a l = get_or-replicate 16 a 0 0 l

module _ (m : MadeRun) (few : length m.picks ≤ 65536) where
  abbrev all : Counts
  all = counted no_counts m.picks m.answers

  at : (a : ℕ) → a < 16 → CountedAt a m.picks m.answers no_counts all
  unfolding no_counts
  at a l = counted_at a l m.picks m.answers no_counts none_sized (omega (arith, none_at a l)) (omega (arith, none_at a l))

  performed_at_law : (a : ℕ) → a < 16 → get_or all.performed a 0 ≡ performed_at (address_of a) m
  unfolding performed_at no_counts
  performed_at_law a l = omega (arith, (at a l).performed_is, none_at a l)

  picks_at_law : (a : ℕ) → a < 16 → get_or all.picks a 0 ≡ picks_at (address_of a) m
  unfolding picks_at no_counts
  picks_at_law a l = omega (arith, (at a l).picks_is, none_at a l)

  tallies_are : (i : ℕ) (ts : List Tally) → tallies_counted i all m.net ts ≡ tallies_with i m ts
  unfolding tallies_counted tally_counted tallies_with tally_with left_at
  tallies_are i ts =
      fold_same 16 _ _ ts
      (λ a l us. ap (λ (n : ℕ). set us a (with_counts i n (get_or all.picks a 0) (left_in (address_of a) m.net) (tally_at us a))) (performed_at_law a l)
      ∙ ap (λ (n : ℕ). set us a (with_counts i (performed_at (address_of a) m) n (left_in (address_of a) m.net) (tally_at us a))) (picks_at_law a l))

  made_is : (sums : Sums) → with_counted sums all m.net ≡ with_made sums m
  unfolding with_counted with_made
  made_is sums =
      ap {B = Sums}
      (λ (ts : List Tally). choose (ltb 1000 sums.runs) sums (record { runs = sums.runs + 1; tallies = ts }))
      (tallies_are (sums.runs + 1) sums.tallies)

pub counted_is_made : CountedIsMade
unfolding CountedIsMade
counted_is_made sums m rest e few =
    ap (λ (c : Counts). with_counted sums c m.net) (counted_first no_counts m.picks m.answers rest e)
    ∙ made_is m few sums
