-- The rows of a node (`Image.antt` of `image`, `specs/ImageOf.antt`, 2): in format 1 a single one, which is that for every
-- origin; in format 2 one for each origin in use. What is read is what is written, for the rows of a sound node
-- (`NodeFacts.antt` of `sound`). In what follows f is the format and n the address count.
-- Assumes nothing.
use Prim.Native.Nat.{ℕ, ◌<◌, ◌≤◌}
use mathlib.Core.Path.{◌≡◌, refl, sym, ap, subst, ◌∙◌}
use mathlib.Core.Bool.{Bool, true, false}
use mathlib.Core.List.{List}
use native.Mathlib.Omega.{arith}
use lib.ListN.{get_or, set, length-replicate, get_or-replicate}
use lib.Seq.{set-get_or, set-set, ext_get_or}
use lib.Dec.{eqb}
use Rattle.net.specs.Choice.{choose}
use Rattle.net.specs.Records.{alike, zero_row, zero_node, row_at, with_row, with_rows, address_of}
use Rattle.text.specs.Joined.{joined}
use Rattle.image.specs.Image.{each_address, single_row, row_from, node_rows}
use Rattle.written.specs.Types.{Row, Node}
use Rattle.written.specs.ImageOf.{row_bits, node_rows_bits}
use Rattle.net.proofs.Every.{filled_each}
use Rattle.net.proofs.Past.{past_row}
use Rattle.sound.proofs.NodeFacts.{RowOk, RowsOk, of_zero}
use Rattle.sound.proofs.NodeChanges.{zero_row_law, alike_rows}
use Rattle.written.proofs.ReadsWrites.{Reads, reads_as, reads_map}
use Rattle.written.proofs.ReadsCells.{Arrayed, Through, Filling, reads_turn, reads_cells}
use Rattle.written.proofs.ReadsCells.{rewritten_filled, filled_rewritten}
use Rattle.written.proofs.WrittenRow.{reads_row}
use Rattle.written.proofs.WrittenProcesses.{bare_node, free}

never : {A : Type 0} {b : Bool} → b ≡ true → b ≡ false → A
never e d = let z : ◌≡◌ {A = ℕ} 0 1 = cc in absurd (omega arith)

-- a blank node becomes one with rows
pub record Ruled (f n : ℕ) (x : Node) : Type 0 where
  pub rows_ok : RowsOk f n x.rows
  pub bare : bare_node x.rows free ≡ x

-- ---- format 1
rows_alike_law : (f n : ℕ) (rs : List Row) → eqb f 1 ≡ true → RowsOk f n rs → alike (get_or rs 0 past_row) ≡ rs
unfolding alike
rows_alike_law f n rs e ok =
    let first = get_or rs 0 past_row in
    let size = length-replicate 16 first in
    ext_get_or past_row _ rs (size ∙ sym ok.each_ok.size_is)
    (λ o h. let l : o < 16 = omega arith in get_or-replicate 16 o first past_row l ∙ sym (ok.as_first e o l))

module _ (f n : ℕ) (h : n ≤ 16) where
  reads_single : eqb f 1 ≡ true → Reads (single_row n zero_node) (λ x. row_bits n (row_at x (address_of 0))) (Ruled f n)
  unfolding single_row row_at with_rows alike zero_node bare_node
  reads_single e =
      reads_map (λ r. with_rows zero_node (alike r)) (reads_row n h)
      (λ r ok. record { rows_ok = alike_rows f n r ok (λ d. never e d); bare = refl }) (λ r ok. refl)
      (λ x g. (
        get_or x.rows 0 past_row,
        g.rows_ok.each_ok.holds 0 (omega arith),
        ap (λ rs. bare_node rs free) (rows_alike_law f n x.rows e g.rows_ok) ∙ g.bare,
      ))

-- ---- format 2
abbrev rows_in : ℕ → Arrayed Node Row
rows_in n = record {
  cells = λ x. x.rows;
  put = λ o x r. with_row x (address_of o) r;
  cut = λ o x r. with_row x (address_of o) r;
  past = past_row;
  Good = λ o. RowOk n;
  undo = λ r. zero_row;
  Frame = λ i x. bare_node x.rows free ≡ x;
  Extra = λ i x r. Unit {0};
  size = 16;
}

-- a node whose rows are replaced
replaced : (x : Node) (o : ℕ) (r : Row) → bare_node x.rows free ≡ x
    → bare_node (set x.rows o r) free ≡ with_row x (address_of o) r
unfolding with_row with_rows bare_node
replaced x o r e = ap (λ (y : Node). with_row y (address_of o) r) e

module _ (f n : ℕ) (h : n ≤ 16) where
  filling_rows : Filling (rows_in n) zero_node (λ o. row_from n (address_of o)) n (row_bits n)
  unfolding row_from with_row with_rows alike zero_node bare_node
  filling_rows = record {
    room = h;
    size_is = length-replicate 16 zero_row;
    begins = refl;
    starts = λ x e d. ap (λ rs. bare_node rs free) d ∙ e;
    turn = λ o m x e b s.
        reads_turn (rows_in n) zero_node o x (row_bits n) (λ r. r) (omega arith) (λ r. refl) (reads_row n h)
        (λ r ok. (ok, sym (get_or-replicate 16 o zero_row past_row (omega arith)), tt)) (λ r ok. refl)
        (λ r ok _ _. (r, ok, refl));
    put_cells = λ o m x r e. refl;
    put_frame = λ o m x r e s _. replaced x o r e;
    cut_cells = λ o m x r. refl;
    cut_frame = λ o m x r e. replaced x o r e;
    cut_extra = λ o m x r e. tt;
    put_cut = λ o m x r e.
        ap (with_rows x) (set-set x.rows o r (get_or x.rows o past_row) ∙ set-get_or x.rows o past_row);
  }

  through_rows : (x : Node) → eqb f 1 ≡ false → Through (rows_in n) zero_node n x → Ruled f n x
  unfolding alike zero_node
  through_rows x e g =
      let filled = rewritten_filled refl g.cells_ok in
      record {
        rows_ok = record {
          each_ok = record {
            size_is = filled.size_is;
            holds = filled_each filled (λ r ok. ok) (λ r z. of_zero (RowOk n) (zero_row_law n) r (sym z));
          };
          as_first = λ d. never d e;
          barred = λ _ o l m. sym ((filled.holds o m).unused l);
        };
        bare = g.frame;
      }

  rows_through : (x : Node) → eqb f 1 ≡ false → Ruled f n x → Through (rows_in n) zero_node n x
  unfolding alike zero_node
  rows_through x e g = record {
    frame = g.bare;
    cells_ok = filled_rewritten refl (record {
      size_is = g.rows_ok.each_ok.size_is;
      holds = λ o m. record {
        used = λ _. g.rows_ok.each_ok.holds o m;
        unused = λ l. sym (g.rows_ok.barred e o l m);
      };
    });
  }

  reads_several : eqb f 1 ≡ false
      → Reads (each_address n (row_from n) zero_node) (λ x. joined n (λ o. row_bits n (row_at x (address_of o)))) (Ruled f n)
  unfolding each_address row_at
  reads_several e =
      reads_as (reads_cells (rows_in n) zero_node (λ o. row_from n (address_of o)) n (row_bits n) filling_rows)
      (λ x. through_rows x e) (λ x. rows_through x e) (λ x g. refl)

  -- ---- either
  pub reads_node_rows : Reads (node_rows f n zero_node) (node_rows_bits f n) (Ruled f n)
  unfolding node_rows node_rows_bits choose
  reads_node_rows = go (eqb f 1) refl
    where
      go : (b : Bool) → eqb f 1 ≡ b
          → Reads (choose b (single_row n zero_node) (each_address n (row_from n) zero_node))
          (λ x. choose b (row_bits n (row_at x (address_of 0))) (joined n (λ o. row_bits n (row_at x (address_of o))))) (Ruled f n)
      go true e = reads_single f n h e
      go false e = reads_several e
