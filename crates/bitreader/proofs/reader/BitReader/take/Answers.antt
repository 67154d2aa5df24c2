use Prim.Native.Nat.{ℕ, ◌+◌, ◌*◌, ◌<◌, ◌≤◌}
use mathlib.Core.Path.{◌≡◌, refl, sym, ap, ◌∙◌}
use mathlib.Core.List.{List}
use lib.ListN.{length}
use native.Mathlib.Omega.{arith}
use borrow.Author.Tests.{lt-ltb, le-ltb, le-leb, lt-leb}
use Rattle.std.proofs.Common.{Ok, Err, ◌⊎◌, inl, inr}
use Rattle.net.proofs.Laws.{choose_true, choose_false, both_i, both_false_l, both_false_r}
use Rattle.readers.specs.Reader.{fault, fault_at}
use Rattle.readers.specs.Progress.{came}
use Rattle.bitreader.specs.BitReader.{number_at, judged, field}
use Rattle.bitreader.specs.Types.{Fault}
use Rattle.bitreader.proofs.reader.BitReader.take.Goals as goal
use Rattle.bitreader.proofs.reader.BitReader.take.Goals.{then-bits-p-via-then-bits-p, then-bits-p-via-else-bits-p+then-bits-p-2}

module _ (low end n : ℕ) (s : List ℕ) (p w : ℕ) where
  -- the bits end before the field's last bit
  cut : (f : Fault) (q : ℕ) → 8 * length s < p + w → f ≡ fault_at 28 p w → came (Err f) q ≡ field w low end n s p
  unfolding field came
  cut f q h e = ap fault e ∙ sym (choose_false _ _ _ (lt-leb (p + w) (8 * length s) h))

  whole : p + w ≤ 8 * length s → field w low end n s p ≡ judged low end n p w (number_at s p w)
  unfolding field
  whole h = choose_true _ _ _ (le-leb (p + w) (8 * length s) h)

  -- its number is out of range
  wrong : (v : ℕ) (f : Fault) (q : ℕ) → p + w ≤ 8 * length s → v ≡ number_at s p w → (v < low) ⊎ ((low ≤ v) × (end ≤ v))
      → f ≡ fault_at n p w → came (Err f) q ≡ field w low end n s p
  unfolding judged came
  wrong v f q h i e d = out e ∙ ap (judged low end n p w) i ∙ sym (whole h)
    where
      out : (v < low) ⊎ ((low ≤ v) × (end ≤ v)) → came (Err f) q ≡ judged low end n p w v
      out (inl l) = ap fault d ∙ sym (choose_false _ _ _ (sym (both_false_l _ _ (lt-leb low v l))))
      out (inr (l, g)) = ap fault d ∙ sym (choose_false _ _ _ (sym (both_false_r _ _ (le-leb low v l) (le-ltb v end g))))

  right : (v : ℕ) → p + w ≤ 8 * length s → v ≡ number_at s p w → low ≤ v → v < end → came (Ok v) (p + w) ≡ field w low end n s p
  unfolding judged came
  right v h i l g =
      sym (choose_true _ _ _ (both_i _ _ (le-leb low v l) (lt-ltb v end g))) ∙
      ap (judged low end n p w) i ∙ sym (whole h)

pub returns-then-bits-p-clause-field : goal.returns-then-bits-p-clause-field
returns-then-bits-p-clause-field c = record { gave = cut _ _ _ _ _ _ _ _ over c.at.ensures; same = refl }
  where
    over : 8 * length c.args.self.now.image.now < c.args.self.now.at + c.args.w
    over = elim c.then-bits-p.branch [
      | then-bits-p-via-then-bits-p w ↦ omega arith
      | then-bits-p-via-else-bits-p+then-bits-p-2 w ↦ omega arith
    ]

pub returns-then-v-low-clause-field : goal.returns-then-v-low-clause-field
returns-then-v-low-clause-field c = record {
  gave = wrong _ _ _ _ _ _ _ _ _ (omega arith) c.number-v.ensures.is c.then-v-low.either c.at-then-v-low.ensures;
  same = refl;
}

pub returns-clause-field : goal.returns-clause-field
returns-clause-field c = record {
  gave = right _ _ _ _ _ _ _ (omega arith) c.number-v.ensures.is c.if-v-low.false c.if-end-v.false;
  same = refl;
}
