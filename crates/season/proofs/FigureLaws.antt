-- Laws by which the writing of the figures meets its definitions (`specs/Sums.antt`, `specs/Calls.antt`). Assumes nothing.
use Prim.Native.Nat.{ℕ, zero, suc, ◌≤◌, ◌<◌}
use mathlib.Core.Path.{◌≡◌, refl, sym, ap, subst, ◌∙◌}
use mathlib.Core.Bool.{Bool, true, false}
use mathlib.Core.List.{List, [], ◌∷◌, ◌++◌}
use native.Mathlib.Omega.{arith}
use lib.ListN.{length, take}
use lib.Seq.{sets-eq, take_at, length-take-le}
use lib.Dec.{leb}
use borrow.Author.Tests.{eq-eqb, ne_eqb, lt-ltb, le-ltb, le-leb, lt-leb}
use Rattle.net.specs.Choice.{choose}
use Rattle.net.proofs.Laws.{choose_true, choose_false}
use Rattle.text.specs.Buffer.{over}
use Rattle.text.specs.Bytes.{bytes}
use Rattle.text.specs.Decimal.{decimal}
use Rattle.std.specs.Prelude.{Option, Some, None, Ok, Err, if◌then◌else◌}
use Rattle.text.specs.Joined.{joined}
use Rattle.text.specs.Writer.{after, fitted}
use Rattle.text.specs.declared.writer.Writer.{Writer}
use Rattle.text.proofs.WritingLaws.{over_length}
use Rattle.lines.specs.Words.{Word, name, spaced, printed}
use Rattle.lines.proofs.WordLaws.{printed_none, printed_both}
use Rattle.season.specs.Fractions.{Fraction, lowest, Best}
use Rattle.season.specs.Season.{fraction_word, share_word, best_word, Season, no_runs, too_many, figures, season_with}
use Rattle.season.specs.Sums.{Sums, figures_from, season_from}
use Rattle.season.specs.SeasonClaims.{LongestFigures}
use Rattle.season.specs.Calls.{Figured, Unfigured, figured_number, figured_of, season_number, figures_in}
use Rattle.season.specs.Giving.{Gave}
use Rattle.season.proofs.Longest.{longest_figures}

-- ---- lines, one after another
printed_joined : (F : ℕ → List (List Word)) (n : ℕ) → joined n (λ a. printed (F a)) ≡ printed (joined n F)
unfolding joined
printed_joined F zero = sym printed_none
printed_joined F (suc n) =
    ap (λ (t : List ℕ). t ++ printed (F n)) (printed_joined F n) ∙ sym (printed_both (joined n F) (F n))

-- ---- words
module _ (w u : Writer ℕ) where
  pub share_none :
      (picks : ℕ) (x : Fraction) → picks ≡ 0 → u ≡ after w (spaced (name (bytes "none") ∷ []))
      → u ≡ after w (spaced (share_word picks x ∷ []))
  unfolding share_word
  share_none picks x e p = p ∙ ap (λ (v : Word). after w (spaced (v ∷ []))) (sym (choose_true _ _ _ (eq-eqb picks 0 e)))

  pub share_some :
      (picks : ℕ) (x : Fraction) → (picks ≡ 0 → ⊥) → u ≡ after w (spaced (fraction_word x ∷ []))
      → u ≡ after w (spaced (share_word picks x ∷ []))
  unfolding share_word
  share_some picks x n p = p ∙ ap (λ (v : Word). after w (spaced (v ∷ []))) (sym (choose_false _ _ _ (ne_eqb picks 0 n)))

  -- the lines of n addresses
  pub lines_end :
      (F : ℕ → List (List Word)) (i n : ℕ) → u ≡ after w (joined i (λ a. printed (F a))) → i ≡ n → u ≡ after w (printed (joined n F))
  lines_end F i n p e =
      p ∙ ap (after w) (ap (λ (k : ℕ). joined k (λ a. printed (F a))) e ∙ printed_joined F n)

-- ---- figures that were written whole
module _ (sums : Sums) (xs : List ℕ) (size : 2112 ≡ length xs) where
  abbrev all : List ℕ
  all = figures_from sums.runs sums.tallies

  few : length all ≤ length xs
  unfolding LongestFigures
  few = omega (arith, longest_figures sums.runs sums.tallies)

  pub figures_fits : (r : Option ℕ) → r ≡ fitted all (length xs) → r ≡ Some (length all)
  unfolding fitted
  figures_fits r e = e ∙ ap (λ (b : Bool). if b then Some (length all) else None) (le-leb (length all) (length xs) few)

  pub figures_end : (r : Option ℕ) (n : ℕ) → r ≡ fitted all (length xs) → r ≡ Some n → n ≡ length all
  figures_end r n e u = let k = figures_fits r e in cc

  module _ (ys : List ℕ) (n : ℕ) (w : ys ≡ over xs 0 all) (d : n ≡ length all) where
    pub figures_fit : n ≤ length ys
    figures_fit =
        let l : length ys ≡ length xs = ap length w ∙ over_length xs 0 all in
        omega (arith, few, d, l)

    pub figures_count : n ≡ length (take n ys)
    figures_count = sym (length-take-le n ys figures_fit)

    figures_first : take n ys ≡ all
    unfolding over
    figures_first = ap (take n) (w ∙ sets-eq all xs 0 (omega (arith, few))) ∙ take_at all _ n (sym d)

    pub figures_gave :
        (out after : List ℕ) (r : Figured) → Gave (figures (take n ys)) out after r → Gave (figures all) out after r
    figures_gave out after r g = subst (λ (text : List ℕ). Gave (figures text) out after r) figures_first g

-- ---- copied where there is room
module _ (text out after : List ℕ) where
  pub copied : length text ≤ length out → after ≡ over out 0 text → Gave (figures text) out after (Ok (length text))
  unfolding figured_of figures_in
  copied h w = record {
    is = sym (choose_true _ _ _ (le-leb (length text) (length out) h));
    left = w ∙ sym (choose_true _ _ _ (le-leb (length text) (length out) h));
  }

  pub not_copied : length out < length text → Gave (figures text) out out (Err Unfigured.NoRoom)
  unfolding figured_of figures_in
  not_copied h = record {
    is = sym (choose_false _ _ _ (lt-leb (length text) (length out) h));
    left = sym (choose_false _ _ _ (lt-leb (length text) (length out) h));
  }

-- ---- by how many runs were made
module _ (sums : Sums) (out after : List ℕ) where
  as_season : (x : Season) (r : Figured) → x ≡ season_from sums → Gave x out after r → Gave (season_from sums) out after r
  as_season x r e g = subst (λ (s : Season). Gave s out after r) e g

  pub gave_none : sums.runs ≡ 0 → after ≡ out → Gave (season_from sums) out after (Err Unfigured.NoRuns)
  unfolding season_from season_with figured_of figures_in
  gave_none e d = as_season no_runs _ (sym (choose_true _ _ _ (eq-eqb _ 0 e))) (record { is = refl; left = d })

  pub gave_many : (sums.runs ≡ 0 → ⊥) → 1000 < sums.runs → after ≡ out → Gave (season_from sums) out after (Err Unfigured.TooMany)
  unfolding season_from season_with figured_of figures_in
  gave_many n h d =
      as_season too_many _ (sym (choose_false _ _ _ (ne_eqb _ 0 n) ∙ choose_true _ _ _ (lt-ltb 1000 _ h))) (record { is = refl; left = d })

  pub gave_figures :
      (r : Figured) → (sums.runs ≡ 0 → ⊥) → sums.runs ≤ 1000 → Gave (figures (figures_from sums.runs sums.tallies)) out after r
      → Gave (season_from sums) out after r
  unfolding season_from season_with
  gave_figures r n h g =
      as_season _ r (sym (choose_false _ _ _ (ne_eqb _ 0 n) ∙ choose_false _ _ _ (le-ltb 1000 _ h))) g

-- ---- the paper's number
chosen_number : (b : Bool) (n : ℕ) → figured_number (choose b (Ok n) (Err Unfigured.NoRoom)) ≡ choose b 0 35
unfolding choose figured_number
chosen_number true n = refl
chosen_number false n = refl

number_of : (s : Season) (room : ℕ) → figured_number (figured_of s room) ≡ season_number s room
unfolding figured_of figured_number season_number
number_of no_runs room = refl
number_of too_many room = refl
number_of (figures text) room = chosen_number (leb (length text) room) (length text)

pub number_as :
    (s : Season) (out after : List ℕ) (r : Figured) → Gave s out after r → figured_number r ≡ season_number s (length out)
number_as s out after r g = ap figured_number g.is ∙ number_of s (length out)
