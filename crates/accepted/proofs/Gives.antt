-- What the readers of an image give: the logic of readers (`Gives.antt` of the crate `readers`) with the numbers of the
-- paper's table that a reader of an image gives, 21 to 29, and the laws of its fields. Assumes nothing.
use Prim.Native.Nat.{ℕ, ◌+◌, ◌*◌, ◌^◌, ◌<◌, ◌≤◌}
use mathlib.Core.Path.{◌≡◌}
use mathlib.Core.Bool.{Bool, true}
use native.Mathlib.Omega.{arith}
use lib.ListN.{length}
use lib.Dec.{leb, ltb}
use borrow.Author.Tests.{leb-true, ltb-true}
use Rattle.net.specs.Choice.{both}
use Rattle.readers.specs.Reader.{Parsed, got, Reader, require}
use Rattle.bitreader.specs.BitReader.{number_at, judged, field, bits}
use Rattle.net.proofs.Laws.{both_l, both_r}
use Rattle.readers.proofs.Gives as Logic
use Rattle.readers.proofs.Gives.{fine_unless}
pub use Rattle.readers.proofs.Gives.{value, stopped, gives_pure, gives_weaken, gives_then, gives_and, gives_each}
pub use Rattle.readers.proofs.Gives.{gives_last, gives_first, gives_choice, gives_passing}

-- the numbers of the table
pub record Listed (n : ℕ) : Type 0 where
  pub least : 21 ≤ n
  pub most : n ≤ 29

abbrev pub Fine : {A : Type 0} → (A → Type 0) → Parsed A → Type 0
Fine = Logic.Fine Listed

abbrev pub Gives : {A : Type 0} → Reader A → (A → Type 0) → Type 0
Gives = Logic.Gives Listed

pub gives_require : (ok : Bool) (n : ℕ) → Listed n → Gives (require ok n) (λ _. ok ≡ true)
gives_require = Logic.gives_require

-- a number from low up to below end
pub record Between (low v end : ℕ) : Type 0 where
  pub above : low ≤ v
  pub below : v < end

between : (low v end : ℕ) → both (leb low v) (ltb v end) ≡ true → Between low v end
between low v end e = record {
  above = leb-true low v (both_l _ (ltb v end) e);
  below = ltb-true v end (both_r (leb low v) _ e);
}

fine_judged : (low end n p w v : ℕ) → Listed n → Fine (λ a. Between low a end) (judged low end n p w v)
unfolding judged
fine_judged low end n p w v l =
    fine_unless _ (both (leb low v) (ltb v end)) (got v (p + w)) n p w l (λ e. value (between low v end e))

pub gives_field : (w low end n : ℕ) → Listed n → Gives (field w low end n) (λ v. Between low v end)
unfolding field
gives_field w low end n l = record {
  run = λ s p.
      fine_unless _ (leb (p + w) (8 * length s)) (judged low end n p w (number_at s p w)) 28 p w (omega arith)
      (λ _. fine_judged low end n p w (number_at s p w) l);
}

pub gives_bits : (w : ℕ) → Gives (bits w) (λ v. v < 2 ^ w)
unfolding bits
gives_bits w = gives_weaken (gives_field w 0 (2 ^ w) 28 (omega arith)) (λ v h. h.below)
