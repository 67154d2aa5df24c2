-- The figures given from the sums are those of the runs handed in (`SumsGiveSeason`). Assumes nothing.
use Prim.Native.Nat.{ℕ, suc, ◌+◌, ◌*◌, ◌%◌, ◌≤◌, ◌<◌}
use mathlib.Core.Path.{◌≡◌, refl, sym, ap, subst, ◌∙◌}
use mathlib.Core.List.{List, [], ◌∷◌, ◌++◌, append-nil, append_assoc, Memᴰ}
use native.Mathlib.Omega.{arith}
use native.Mathlib.Nat.{mul-suc, mod-eq_of_lt}
use native.Mathlib.Decide.{dec_le}
use lib.ListN.{length, set}
use borrow.Author.Tests.{le-ltb, lt-ltb, ne_eqb}
use Rattle.net.specs.Choice.{choose, fold}
use Rattle.net.specs.Records.{address_of}
use Rattle.net.proofs.Laws.{choose_true, choose_false}
use Rattle.net.proofs.Every.{Every, every_replicate, every_set, every_weaken}
use Rattle.net.proofs.FoldLaws.{fold_keeps}
use Rattle.text.proofs.WritingLaws.{joined_same}
use Rattle.lines.specs.Words.{Word, printed}
use Rattle.season.specs.Types.{Locality}
use Rattle.season.specs.Fractions.{best_of}
use Rattle.season.specs.Season.{Run, MadeRun, made_of, made_runs, performed_at, picks_at, left_at, share_at, summed, shares_at}
use Rattle.season.specs.Season.{all_picks, all_performed, all_left, share_over, mean_over, best_at, share_line, figures_of}
use Rattle.season.specs.Season.{season_with, season_of}
use Rattle.season.specs.Sums.{Tally, Sums, no_tally, empty_sums, tally_at, plus, with_counts, tally_with, tallies_with, with_made}
use Rattle.season.specs.Sums.{with_each, with_run, after_runs, tally_words, tally_line, figures_from, season_from}
use Rattle.season.specs.SeasonClaims.{CountsFit, SumsGiveSeason}
use Rattle.season.proofs.Fitting.{made_fits}
use Rattle.season.proofs.Appended.{length_more, summed_more, best_at_more}

-- ---- what the tally of an address holds after made runs
unfoldable tally_of : List MadeRun → Locality → Tally
tally_of ms l = record { performed = all_performed l ms; picks = all_picks l ms; left = all_left l ms; best = best_at l ms }

-- sums that are not cut
record Small (ms : List MadeRun) (l : Locality) : Type 0 where
  performed_most : all_performed l ms ≤ 65536 * length ms
  picks_most : all_picks l ms ≤ 65536 * length ms
  left_most : all_left l ms ≤ 65536 * length ms

small_none : (l : Locality) → Small [] l
unfolding all_performed all_picks all_left summed
small_none l = record { performed_most = omega arith; picks_most = omega arith; left_most = omega arith }

module _ (ms : List MadeRun) (m : MadeRun) (fits : CountsFit m) where
  abbrev more : List MadeRun
  more = ms ++ m ∷ []

  product : 65536 * length more ≡ 65536 * length ms + 65536
  product = ap (λ (n : ℕ). 65536 * n) (length_more ms m) ∙ mul-suc 65536 (length ms)

  small_more : (l : Locality) → Small ms l → Small more l
  unfolding all_performed all_picks all_left
  small_more l h = record {
    performed_most =
        omega (arith, summed_more (performed_at l) ms m, product, h.performed_most, fits.performed_most l, fits.picks_most l);
    picks_most = omega (arith, summed_more (picks_at l) ms m, product, h.picks_most, fits.picks_most l);
    left_most = omega (arith, summed_more (left_at l) ms m, product, h.left_most, fits.left_most l);
  }

  plus_is : (sum n whole : ℕ) → whole ≡ sum + n → whole < 4294967296 → plus sum n ≡ whole
  unfolding plus
  plus_is sum n whole e h = ap (λ (k : ℕ). k % 4294967296) (sym e) ∙ mod-eq_of_lt h

  module _ (few : length ms ≤ 1000) (small : (l : Locality) → Small ms l) where
    performed_is : (l : Locality) → plus (all_performed l ms) (performed_at l m) ≡ all_performed l more
    unfolding all_performed
    performed_is l =
        plus_is _ _ _ (summed_more (performed_at l) ms m) (omega (arith, (small_more l (small l)).performed_most, product))

    picks_is : (l : Locality) → plus (all_picks l ms) (picks_at l m) ≡ all_picks l more
    unfolding all_picks
    picks_is l = plus_is _ _ _ (summed_more (picks_at l) ms m) (omega (arith, (small_more l (small l)).picks_most, product))

    left_is : (l : Locality) → plus (all_left l ms) (left_at l m) ≡ all_left l more
    unfolding all_left
    left_is l = plus_is _ _ _ (summed_more (left_at l) ms m) (omega (arith, (small_more l (small l)).left_most, product))

    tally_more : (l : Locality) → tally_with (length ms + 1) m l (tally_of ms l) ≡ tally_of more l
    unfolding tally_with with_counts tally_of share_at
    tally_more l = cc (performed_is l, picks_is l, left_is l, best_at_more l ms m)

    -- the tallies, of which those before i have the run
    record Turned (i a : ℕ) (t : Tally) : Type 0 where
      before : i ≤ a → t ≡ tally_of ms (address_of a)
      after : a < i → t ≡ tally_of more (address_of a)

    turned :
        (i : ℕ) (ts : List Tally) → i < 16 → Every (Turned i) no_tally 16 ts
        → Every (Turned (suc i)) no_tally 16 (set ts i (tally_with (length ms + 1) m (address_of i) (tally_at ts i)))
    unfolding tally_at
    turned i ts h e =
        every_set i _ e
        (λ j t n g. record { before = λ l. g.before (omega arith); after = λ l. g.after (omega (arith, n)) })
        (record {
          before = λ l. absurd (omega arith);
          after = λ l.
              ap (tally_with (length ms + 1) m (address_of i)) ((e.holds i h).before (omega arith)) ∙ tally_more (address_of i);
        })

    tallies_more :
        (ts : List Tally) → Every (λ a t. t ≡ tally_of ms (address_of a)) no_tally 16 ts
        → Every (λ a t. t ≡ tally_of more (address_of a)) no_tally 16 (tallies_with (length ms + 1) m ts)
    unfolding tallies_with
    tallies_more ts e =
        let all = fold_keeps (λ i. Every (Turned i) no_tally 16) _ ts 16
        (every_weaken e (λ a t p. record { before = λ _. p; after = λ l. absurd (omega arith) })) turned in
        record { size_is = all.size_is; holds = λ a l. (all.holds a l).after l }

-- ---- what sums hold after made runs, and after more than 1,000
record Exact (ms : List MadeRun) (s : Sums) : Type 0 where
  few : length ms ≤ 1000
  small : (l : Locality) → Small ms l
  runs_are : s.runs ≡ length ms
  tallies_are : Every (λ a t. t ≡ tally_of ms (address_of a)) no_tally 16 s.tallies

data Held (ms : List MadeRun) (s : Sums) : Type 0 where
  exact : Exact ms s → Held ms s
  many : 1000 < length ms → s.runs ≡ 1001 → Held ms s

held_none : Held [] empty_sums
unfolding empty_sums no_tally tally_of all_performed all_picks all_left summed best_at shares_at best_of fold
held_none = exact (record {
  few = omega arith;
  small = small_none;
  runs_are = refl;
  tallies_are = every_replicate _ _ 16 no_tally (λ j l. refl);
})

module _ (ms : List MadeRun) (m : MadeRun) (fits : CountsFit m) where
  held_made : (s : Sums) → Held ms s → Held (ms ++ m ∷ []) (with_made s m)
  unfolding with_made
  held_made s (exact h) =
      subst (Held (ms ++ m ∷ [])) (sym (choose_false _ _ _ (le-ltb 1000 s.runs (omega (arith, h.few, h.runs_are)))))
      (go (dec_le (suc (length ms)) 1000))
    where
      go :
          Dec (suc (length ms) ≤ 1000)
          → Held (ms ++ m ∷ []) (record { runs = s.runs + 1; tallies = tallies_with (s.runs + 1) m s.tallies })
      go (yes l) = exact (record {
        few = omega (arith, length_more ms m);
        small = λ a. small_more ms m fits a (h.small a);
        runs_are = omega (arith, length_more ms m, h.runs_are);
        tallies_are =
            rw h.runs_are (tallies_more ms m fits h.few h.small s.tallies h.tallies_are);
      })
      go (no l) = many (omega (arith, length_more ms m)) (omega (arith, h.few, h.runs_are))
  held_made s (many h e) =
      subst (Held (ms ++ m ∷ [])) (sym (choose_true _ _ _ (lt-ltb 1000 s.runs (omega arith))))
      (many (omega (arith, length_more ms m)) e)

held_each :
    (ms ns : List MadeRun) (s : Sums) → ((m : MadeRun) → Memᴰ m ns → CountsFit m) → Held ms s
    → Held (ms ++ ns) (with_each s ns)
unfolding with_each
held_each ms [] s fits h = rw append-nil h
held_each ms (n ∷ ns) s fits h =
    subst (λ (ks : List MadeRun). Held ks (with_each (with_made s n) ns)) (append_assoc ms (n ∷ []) ns)
    (held_each (ms ++ n ∷ []) ns (with_made s n) (λ m e. fits m (Memᴰ.tail e))
    (held_made ms n (fits n (Memᴰ.head refl)) s h))

held_runs : (ms : List MadeRun) (runs : List Run) (s : Sums) → Held ms s → Held (ms ++ made_runs runs) (after_runs s runs)
unfolding made_runs after_runs with_run
held_runs ms [] s h = rw append-nil h
held_runs ms (run ∷ runs) s h =
    subst (λ (ks : List MadeRun). Held ks (after_runs (with_each s (made_of run)) runs)) (append_assoc ms (made_of run) (made_runs runs))
    (held_runs (ms ++ made_of run) runs (with_each s (made_of run)) (held_each ms (made_of run) s (made_fits run) h))

-- ---- the figures
line_is : (l : Locality) (ms : List MadeRun) → tally_line (length ms) l (tally_of ms l) ≡ share_line l ms
unfolding tally_line tally_words tally_of share_line share_over mean_over
line_is l ms = refl

figures_are : (ms : List MadeRun) (s : Sums) → Exact ms s → figures_from s.runs s.tallies ≡ figures_of ms
unfolding figures_from figures_of tally_at
figures_are ms s h =
    ap printed (joined_same 16 _ _ (λ a l.
    ap (λ (w : List Word). w ∷ [])
    (ap (λ (n : ℕ). tally_line n (address_of a) (tally_at s.tallies a)) h.runs_are
    ∙ ap (tally_line (length ms) (address_of a)) (h.tallies_are.holds a l) ∙ line_is (address_of a) ms)))

refused_many : (n : ℕ) (text other : List ℕ) → 1000 < n → season_with 1001 other ≡ season_with n text
unfolding season_with choose
refused_many n text other h =
    sym (choose_false _ _ _ (ne_eqb n 0 (λ e. omega arith)) ∙ choose_true _ _ _ (lt-ltb 1000 n h))

season_is : (ms : List MadeRun) (s : Sums) → Held ms s → season_from s ≡ season_with (length ms) (figures_of ms)
unfolding season_from
season_is ms s (exact h) =
    ap (λ (n : ℕ). season_with n (figures_from s.runs s.tallies)) h.runs_are
    ∙ ap (season_with (length ms)) (figures_are ms s h)
season_is ms s (many h e) =
    ap (λ (n : ℕ). season_with n (figures_from s.runs s.tallies)) e ∙ refused_many (length ms) (figures_of ms) _ h

pub sums_give_season : SumsGiveSeason
unfolding SumsGiveSeason season_of
sums_give_season runs = season_is (made_runs runs) _ (held_runs [] runs empty_sums held_none)
