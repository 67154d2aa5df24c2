-- Laws of matches, and of the rows after a new, that the crates above use. Assumes nothing.
use Prim.Native.Nat.{ℕ, ◌<◌}
use mathlib.Core.Path.{◌≡◌, sym, ap, ◌∙◌}
use mathlib.Core.List.{List}
use borrow.Author.Tests.{lt-ltb}
use Rattle.net.specs.Records.{with_rows, row_at}
use Rattle.net.proofs.Laws.{choose_true}
use Rattle.plans.specs.Types.{Locality, Row, Node}
use Rattle.plans.specs.Additions.{own_row}

-- ---- matches: the pattern y of an arm stands for the value x
module _ {A R : Type 0} (f : A → R) where
  pub by : (x y : A) (r : R) → x ≡ y → r ≡ f y → r ≡ f x
  by x y r p q = rw p q

module _ {A B C R : Type 0} (f : B → C → A → R) where
  pub by3 : (b : B) (c : C) (x y : A) (r : R) → x ≡ y → r ≡ f b c y → r ≡ f b c x
  by3 b c x y r p q = rw p q

module _ {A B C D E R : Type 0} (f : B → C → D → E → A → R) where
  pub by5 : (b : B) (c : C) (d : D) (e : E) (x y : A) (r : R) → x ≡ y → r ≡ f b c d e y → r ≡ f b c d e x
  by5 b c d e x y r p q = rw p q

pub rows_as : (x y z : Node) (r s : List Row) → x ≡ y → r ≡ s → z ≡ with_rows x r → z ≡ with_rows y s
rows_as x y z r s a b d = d ∙ ap (λ (w : Node). with_rows w r) a ∙ ap (with_rows y) b

-- ---- the row of a node for itself
pub own_in_law : (x : Node) (a : Locality) → a.0 < 16 → row_at x a ≡ own_row x a
unfolding own_row
own_in_law x a h = sym (choose_true _ _ _ (lt-ltb _ 16 h))
