-- Laws of the two loops that add a run: over its picks, and over the addresses (`specs/Counting.antt`). Assumes nothing.
use Prim.Native.Nat.{ℕ, suc, ◌+◌, ◌≤◌, ◌<◌}
use mathlib.Core.Path.{◌≡◌, refl, sym, ap, ◌∙◌}
use mathlib.Core.Bool.{Bool}
use mathlib.Core.List.{List, ◌∷◌}
use native.Mathlib.Omega.{arith}
use native.Mathlib.Numerals.{add-one}
use lib.ListN.{length, get_or, set, drop, drop_of_length-le}
use lib.Seq.{drop-cons}
use borrow.Author.Tests.{le-ltb}
use Rattle.net.specs.Choice.{fold}
use Rattle.net.specs.Records.{address_of}
use Rattle.net.proofs.Laws.{choose_false}
use Rattle.net.proofs.FoldLaws.{fold_none, fold_more, fold_end}
use Rattle.season.specs.Types.{Net}
use Rattle.season.specs.Season.{left_in}
use Rattle.season.specs.Sums.{Tally, Sums, tally_at, with_counts}
use Rattle.season.specs.Counting.{Counts, no_counts, one_more, bumped, counted_one, CountedOne, counted}
use Rattle.season.specs.Counting.{tally_counted, tallies_counted, with_counted}

-- ---- one pick
pub bumped_is : (t : Bool) (ns : List ℕ) (a h n : ℕ) → a ≡ h → n ≡ one_more t (get_or ns a 0) → set ns a n ≡ bumped t ns h
unfolding bumped
bumped_is t ns a h n e d = ap (set ns a) d ∙ ap (bumped t ns) e

-- ---- the picks: what is left gives what the whole gives
abbrev both_of : List ℕ → List ℕ → Counts
both_of performed named = record { performed = performed; picks = named }

module _ (picks answers : List ℕ) where
  pub record Counting (performed named : List ℕ) (i : ℕ) : Type 0 where
    pub some : i ≤ length picks
    pub same : counted (both_of performed named) (drop i picks) (drop i answers) ≡ counted no_counts picks answers

  pub counting_begin : Counting no_counts.performed no_counts.picks 0
  counting_begin = record { some = omega arith; same = refl }

  module _ (performed named : List ℕ) (i : ℕ) (h : Counting performed named i) where
    abbrev held : Counts
    held = both_of performed named

    more_left :
        i < length picks → i < length answers
        → counted held (drop i picks) (drop i answers)
        ≡ counted (counted_one held (get_or picks i 0) (get_or answers i 0)) (drop (i + 1) picks) (drop (i + 1) answers)
    unfolding counted
    more_left l g =
        ap (λ (xs : List ℕ). counted held xs (drop i answers)) (drop-cons picks i 0 l)
        ∙ ap (counted held (get_or picks i 0 ∷ drop (suc i) picks)) (drop-cons answers i 0 g)
        ∙ ap (λ (j : ℕ). counted (counted_one held (get_or picks i 0) (get_or answers i 0)) (drop j picks) (drop j answers)) (sym (add-one i))

    pub counting_turn :
        (performed-after named-after : List ℕ) → i < length picks → length picks ≤ length answers
        → CountedOne performed named (get_or picks i 0) (get_or answers i 0) performed-after named-after
        → Counting performed-after named-after (i + 1)
    unfolding counted_one
    counting_turn performed-after named-after l g d =
        let turned : both_of performed-after named-after ≡ counted_one held (get_or picks i 0) (get_or answers i 0) = cc (d.performed_is, d.picks_is) in
        record {
          some = omega arith;
          same =
              ap (λ (c : Counts). counted c (drop (i + 1) picks) (drop (i + 1) answers)) turned ∙ sym (more_left l (omega arith))
              ∙ h.same;
        }

    pub counting_end : length picks ≤ i → both_of performed named ≡ counted no_counts picks answers
    unfolding counted
    counting_end l = ap (λ (xs : List ℕ). counted held xs (drop i answers)) (sym (drop_of_length-le picks l)) ∙ h.same

-- ---- the addresses: those below a have the run
module _ (sums : Sums) (c : Counts) (s : Net) (i : ℕ) where
  pub record Tallying (held : Sums) (a : ℕ) : Type 0 where
    pub some : a ≤ 16
    pub tallies_are : held.tallies ≡ fold a (tally_counted i c s) sums.tallies

  pub tallying_begin : Tallying sums 0
  tallying_begin = record { some = omega arith; tallies_are = fold_none _ _ _ refl }

  module _ (held : Sums) (a : ℕ) (h : Tallying held a) where
    pub tallying_turn :
        (runs left : ℕ) (t : Tally) → a < 16 → left ≡ left_in (address_of a) s
        → t ≡ with_counts i (get_or c.performed a 0) (get_or c.picks a 0) left (tally_at held.tallies a)
        → Tallying (record { runs = runs; tallies = set held.tallies a t }) (a + 1)
    unfolding tally_counted
    tallying_turn runs left t l e d = record {
      some = omega arith;
      tallies_are =
          fold_more _ _ a held.tallies _ h.tallies_are
          (ap (set held.tallies a)
          (d ∙ ap (λ (n : ℕ). with_counts i (get_or c.performed a 0) (get_or c.picks a 0) n (tally_at held.tallies a)) e));
    }

    pub tallying_end :
        16 ≤ a → i ≡ sums.runs + 1 → sums.runs ≤ 1000 → record { runs = i; tallies = held.tallies } ≡ with_counted sums c s
    unfolding with_counted tallies_counted
    tallying_end l e few =
        let all : held.tallies ≡ fold 16 (tally_counted i c s) sums.tallies = fold_end _ _ a 16 _ h.tallies_are h.some l in
        ap {B = Sums} (λ (ts : List Tally). record { runs = i; tallies = ts }) all
        ∙ ap {B = Sums} (λ (n : ℕ). record { runs = n; tallies = fold 16 (tally_counted n c s) sums.tallies }) e
        ∙ sym (choose_false _ _ _ (le-ltb 1000 sums.runs few))
