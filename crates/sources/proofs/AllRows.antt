-- All rows of format 1 (`rows` of `Rows.antt` of `rows`): they are read up to the first line that is no row, as they are
-- printed. Assumes nothing.
use Prim.Native.Nat.{ℕ, ◌<◌, ◌≤◌}
use mathlib.Core.Path.{◌≡◌, refl, sym, ap, subst, ◌∙◌}
use mathlib.Core.Bool.{Bool, true, false, not}
use mathlib.Core.List.{List, [], ◌∷◌, ◌++◌}
use native.Mathlib.Omega.{arith}
use lib.ListN.{length, get_or}
use lib.Dec.{leb}
use borrow.Author.Tests.{leb-true, le-leb}
use Rattle.net.specs.Choice.{implies}
use Rattle.net.specs.Records.{zero_row, rights_at, address_of}
use Rattle.net.proofs.Laws.{all_i, all_e}
use Rattle.net.proofs.AllLaws.{all_same}
use Rattle.sound.specs.Soundness.{is_none, row_sound}
use Rattle.text.specs.Bytes.{bytes}
use Rattle.rows.specs.Rows.{is_row, any_right, row, rows_after, within, all_within, rows}
use Rattle.sources.specs.Types.{Row, Rights}
use Rattle.sources.specs.Printed.{row_rest_text, row_text, rows_text}
use Rattle.sources.specs.WellFormed.{Each, RowFormed}
use Rattle.sources.proofs.Stands.{Stands, stands_first_law}
use Rattle.sources.proofs.ReadsBefore.{ReadsBefore, before_as, before_pure, before_require, before_kept}
use Rattle.sources.proofs.ReadsPrints.{before}
use Rattle.sources.proofs.Elements.{each_as, each_tested, test_each}
use Rattle.sources.proofs.Rights.{any_some}
use Rattle.sources.proofs.Openings.{opens_here}
use Rattle.sources.proofs.Rows.{reads_row}
use Rattle.sources.proofs.Sequences.{Anything, Sequence, Later, One, reads_up_to}

-- ---- rows one after another
abbrev pub Whole : List Row → Row → Type 0
Whole rs r = length r.rights ≡ 16

rows_sequence : Sequence row_text rows_text
unfolding rows_text
rows_sequence = record { empty = λ i. refl; first = λ i r rs. refl }

-- what stands behind the rows is no row
abbrev pub NoRow : List ℕ → ℕ → Type 0
NoRow s q = is_row s q ≡ false

row_here : (i : ℕ) (r : Row) (v s : List ℕ) (p : ℕ) → i ≤ 15 → Stands s p (row_text i r ++ v) → is_row s p ≡ true
unfolding is_row row_text bytes
row_here i r v s p h st = opens_here i s p h (104 ∷ 97 ∷ 115 ∷ []) (row_rest_text r) (stands_first_law s p (row_text i r) v st)

reads_one : (before : List Row) → length before < 16 → ReadsBefore (row (length before)) (One Whole row_text before) Anything
reads_one rs h =
    before_as (before (reads_row (length rs) (omega arith))) (λ r u x. (x.whole, x.prints)) (λ r u x. record { whole = x.0; prints = x.1 }) (λ s q e. e)

reads_rows_after : ReadsBefore (rows_after 16 []) (Later Whole rows_text (λ l. l ≤ 16) []) NoRow
unfolding rows_after
reads_rows_after =
    reads_up_to rows_sequence Whole 16 is_row (λ rs. row (length rs)) rows_after 22 reads_one
    (λ rs r v s p h w st. row_here (length rs) r v s p (omega arith) st) (λ rs s p. refl) (λ k rs s p. refl) 16 [] refl

-- ---- no right over an address without a row
none_not : (x : Rights) → not (any_right x) ≡ is_none x
none_not x = ap not (any_some x) ∙ twice (is_none x)
  where
    twice : (b : Bool) → not (not b) ≡ b
    twice true = refl
    twice false = refl

within_is : (n : ℕ) (r : Row) → within n r ≡ row_sound n r
unfolding within row_sound
within_is n r = all_same 16 _ _ (λ l _. ap (implies (leb n l)) (none_not (rights_at r (address_of l))))

module _ (n : ℕ) (rs : List Row) where
  pub rows_formed : Each Whole [] rs → ((i : ℕ) → i < length rs → within n (get_or rs i zero_row) ≡ true) → Each (λ _. RowFormed n) [] rs
  rows_formed = each_tested (within n) zero_row (λ xs r w t. record { whole = w; within = sym (within_is n r) ∙ t }) [] rs

  pub rows_whole : Each (λ _. RowFormed n) [] rs → Each Whole [] rs
  rows_whole = each_as (λ xs r f. f.whole) [] rs

  pub rows_within : Each (λ _. RowFormed n) [] rs → (i : ℕ) → i < length rs → within n (get_or rs i zero_row) ≡ true
  rows_within = test_each (within n) zero_row (λ xs r f. within_is n r ∙ f.within) [] rs

-- ---- all rows
pub record RowsText (rs : List Row) (u : List ℕ) : Type 0 where
  pub some : 1 ≤ length rs
  pub few : length rs ≤ 16
  pub each : Each (λ _. RowFormed (length rs)) [] rs
  pub prints : rows_text 0 rs ≡ u

abbrev Judged : List Row → Type 0
Judged rs = (leb 1 (length rs) ≡ true) × (all_within rs ≡ true)

pub reads_rows : ReadsBefore rows RowsText NoRow
unfolding rows all_within
reads_rows =
    before_as
    (before_kept Judged reads_rows_after
    (λ rs.
    before_as (before_require _ 31 (before_require _ 23 (before_pure rs))) (λ b u (x, (y, z)). ((x, y), z)) (λ b u ((x, y), z). (x, (y, z)))
    (λ s q e. e)))
    (λ rs u (x, (some, inside)). record {
      some = leb-true 1 (length rs) some;
      few = subst (λ (ys : List Row). length ys ≤ 16) x.is x.size;
      each = rows_formed (length rs) rs (subst (Each Whole []) x.is x.each) (all_e (length rs) _ inside);
      prints = ap (rows_text 0) (sym x.is) ∙ x.prints;
    })
    (λ rs u x. (
      record { later = rs; each = rows_whole (length rs) rs x.each; size = x.few; is = refl; prints = x.prints },
      (le-leb 1 (length rs) x.some, all_i (length rs) _ (rows_within (length rs) rs x.each)),
    ))
    (λ s q e. e)
