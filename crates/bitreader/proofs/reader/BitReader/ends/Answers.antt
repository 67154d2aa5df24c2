use Prim.Native.Nat.{ℕ, ◌+◌, ◌-◌, ◌/◌, ◌%◌}
use mathlib.Core.Path.{◌≡◌, ap, ◌∙◌}
use mathlib.Core.Bool.{false}
use mathlib.Core.List.{List}
use lib.ListN.{length}
use lib.Dec.{eqb}
use native.Mathlib.Omega.{arith}
use borrow.Author.Tests.{eq-eqb, ne_eqb}
use Rattle.net.specs.Choice.{both}
use Rattle.net.proofs.Laws.{both_false_l}
use Rattle.bitreader.specs.BitReader.{number_at}
use Rattle.bitreader.specs.Ending.{padding, ends_at}
use Rattle.bitreader.proofs.reader.BitReader.ends.Goals as goal

module _ (s : List ℕ) (p : ℕ) where
  not_here : (length s ≡ (p + 7) / 8 → ⊥) → false ≡ ends_at s p
  unfolding ends_at
  not_here h = both_false_l _ _ (ne_eqb (length s) ((p + 7) / 8) h)

  here : (v : ℕ) → length s ≡ (p + 7) / 8 → v ≡ number_at s p ((8 - p % 8) % 8) → eqb v 0 ≡ ends_at s p
  unfolding ends_at padding both
  here v h e = rw (eq-eqb (length s) ((p + 7) / 8) h) (ap (λ (x : ℕ). eqb x 0) e)

pub returns-then-self-p : goal.returns-then-self-p
returns-then-self-p c = not_here _ _ (λ e. omega arith)

pub returns-then-self-p-2 : goal.returns-then-self-p-2
returns-then-self-p-2 c = here _ _ _ c.if-self-p-2.true c.number.ensures.is

pub returns-else-self-p-2 : goal.returns-else-self-p-2
returns-else-self-p-2 c = ne_eqb _ _ c.if-self-p-2.false ∙ not_here _ _ c.if-self-p-2.false
