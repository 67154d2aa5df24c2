-- A row (`Image.antt` of `image`, `specs/ImageOf.antt`, 2): what is read is what is written, for the rows of a sound node
-- (`NodeFacts.antt` of `sound`).
-- Assumes nothing.
use Prim.Native.Nat.{ℕ, ◌%◌, ◌≤◌}
use mathlib.Core.Path.{◌≡◌, refl, sym, ap, ◌∙◌}
use mathlib.Core.Bool.{Bool}
use mathlib.Core.List.{◌∷◌}
use native.Mathlib.Omega.{arith}
use lib.ListN.{get_or, replicate, length-replicate, get_or-replicate}
use lib.Seq.{set-get_or, set-set}
use lib.Dec.{eqb}
use Rattle.written.specs.Types.{Rights, Row}
use Rattle.net.specs.Records.{no_rights, zero_row, rights_at, address_of}
use Rattle.net.specs.Records.{with_rights}
use Rattle.image.specs.Image.{each_address, rights_of, creating, rights, row}
use Rattle.written.specs.ImageOf.{bits_of, rights_bits, row_bits}
use Rattle.text.specs.Joined.{joined}
use Rattle.written.specs.ImageOf.{digit}
use Rattle.net.proofs.Every.{filled_map}
use Rattle.sound.proofs.NodeFacts.{RowOk}
use Rattle.written.proofs.ReadsWrites.{Reads, reads_then, reads_bits}
use Rattle.written.proofs.ReadsCells.{Arrayed, Through, Filling, reads_turn, reads_cells}
use Rattle.written.proofs.ReadsCells.{rewritten_filled, filled_rewritten}
use Rattle.written.proofs.WrittenFields.{rights_written, rights_parts, digit_set, digit_small}
use Rattle.net.proofs.Past.{past_rights}

abbrev rights_in : ℕ → Arrayed Row Rights
rights_in v = record {
  cells = λ r. r.rights;
  put = λ i r x. with_rights r (address_of i) x;
  cut = λ i r x. with_rights r (address_of i) x;
  past = past_rights;
  Good = λ i x. Unit {0};
  undo = λ x. no_rights;
  Frame = λ i r. r.create ≡ eqb v 1;
  Extra = λ i r x. Unit {0};
  size = 16;
}

filling_rights : (v n : ℕ) → n ≤ 16 → Filling (rights_in v) (creating v) (λ i. rights (address_of i)) n rights_bits
unfolding rights creating zero_row with_rights
filling_rights v n l = record {
  room = l;
  size_is = length-replicate 16 no_rights;
  begins = refl;
  starts = λ r e d.
      ap (λ (c : Bool). record { create = c; rights = replicate 16 no_rights }) (sym e)
      ∙ ap (λ y. record { create = r.create; rights = y }) d;
  turn = λ i m r e b s.
      reads_turn (rights_in v) (creating v) i r rights_bits rights_of (omega arith) (λ x. refl) (reads_bits 4)
      (λ x h. (tt, sym (get_or-replicate 16 i no_rights past_rights (omega arith)), tt)) rights_written
      (λ x _ _ _. rights_parts x);
  put_cells = λ i m r x e. refl;
  put_frame = λ i m r x e s _. e;
  cut_cells = λ i m r x. refl;
  cut_frame = λ i m r x e. e;
  cut_extra = λ i m r x e. tt;
  put_cut = λ i m r x e.
      ap (λ y. record { create = r.create; rights = y })
      (set-set r.rights i x (get_or r.rights i past_rights) ∙ set-get_or r.rights i past_rights);
}

through_rights : (v n : ℕ) (r : Row) → Through (rights_in v) (creating v) n r → RowOk n r
unfolding creating zero_row
through_rights v n r g = filled_map (λ x u. u) (λ x. sym) (rewritten_filled refl g.cells_ok)

rights_through : (v n : ℕ) (r : Row) → r.create ≡ eqb v 1 → RowOk n r → Through (rights_in v) (creating v) n r
unfolding creating zero_row
rights_through v n r e ok = record { frame = e; cells_ok = filled_rewritten refl (filled_map (λ x u. u) (λ x. sym) ok) }

pub reads_row : (n : ℕ) → n ≤ 16 → Reads (row n) (row_bits n) (RowOk n)
unfolding row each_address row_bits rights_at bits_of
reads_row n l =
    reads_then (reads_bits 1)
    (λ v h. reads_cells (rights_in v) (creating v) (λ i. rights (address_of i)) n rights_bits (filling_rights v n l))
    (record {
      keeps = λ v r h g. through_rights v n r g;
      writes = λ v r h g.
          let m : v ≡ v % 2 = omega arith in
          ap (λ (c : Bool). c ∷ joined n (λ i. rights_bits (get_or r.rights i past_rights)))
          (g.frame ∙ ap (λ (x : ℕ). eqb x 1) m);
      parts = λ r ok. (
        digit r.create,
        digit_small r.create,
        rights_through (digit r.create) n r (sym (digit_set r.create (digit r.create) refl)) ok,
      );
    })
