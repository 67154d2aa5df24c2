-- The rows of a node by its format (`node_rows_bits` of `ImageOf.antt`). Assumes nothing.
use Rattle.std.proofs.Common.{◌≡◌, ℕ, sym}
use lib.Dec.{eqb}
use borrow.Author.Tests.{eq-eqb, ne_eqb}
use Rattle.net.specs.Records.{row_at, address_of}
use Rattle.net.proofs.Laws.{choose_true, choose_false}
use Rattle.text.specs.Joined.{joined}
use Rattle.written.specs.ImageOf.{row_bits, node_rows_bits}
use Rattle.layout.specs.Types.{Node}

module _ (f n : ℕ) (x : Node) where
  pub single_row : f ≡ 1 → joined 1 (λ o. row_bits n (row_at x (address_of o))) ≡ node_rows_bits f n x
  unfolding node_rows_bits joined
  single_row e = sym (choose_true (eqb f 1) _ _ (eq-eqb f 1 e))

  pub each_row : (f ≡ 1 → ⊥) → joined n (λ o. row_bits n (row_at x (address_of o))) ≡ node_rows_bits f n x
  unfolding node_rows_bits
  each_row e = sym (choose_false (eqb f 1) _ _ (ne_eqb f 1 e))
