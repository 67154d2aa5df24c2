use Prim.Native.Nat.{ℕ, ◌≤◌, ◌<◌}
use mathlib.Core.Path.{◌≡◌, ap}
use mathlib.Core.List.{List}
use lib.ListN.{length, length-take}
use lib.Seq.{take_all}
use native.Mathlib.Omega.{arith}
use Rattle.bitreader.specs.Window.{window, seen}
use Rattle.bitreader.proofs.reader.BitReader.new.Goals as goal
use Rattle.bitreader.proofs.reader.BitReader.new.Goals.{then-image-lt-WINDOW, else-image-lt-WINDOW}

short : (s t : List ℕ) → length s < window → t ≡ s → t ≡ seen s
unfolding seen
short s t h e = let l : length s ≤ window = omega arith in rw take_all e

narrow : (s t : List ℕ) → t ≡ seen s → length t ≤ window
unfolding seen
narrow s t e = rw e (simp length-take (omega arith))

looked : goal.returns-clause-bytes
unfolding seen
looked c = elim c.if-image-lt-WINDOW.branch [
  | then-image-lt-WINDOW w ↦ short _ _ w.if-image-lt-WINDOW.true (ap (λ b. b.now) w.image-is)
  | else-image-lt-WINDOW w ↦ ap (λ b. b.now) w.image-is
]

pub returns-clause-bytes : goal.returns-clause-bytes
returns-clause-bytes c = looked c

pub invariant_of-result : goal.invariant_of-result
unfolding seen
invariant_of-result c = record {
  narrow = elim c.if-image-lt-WINDOW.branch [
    | then-image-lt-WINDOW w ↦ narrow c.args.image.now _ (short _ _ w.if-image-lt-WINDOW.true (ap (λ b. b.now) w.image-is))
    | else-image-lt-WINDOW w ↦ narrow c.args.image.now _ (ap (λ b. b.now) w.image-is)
  ];
}
