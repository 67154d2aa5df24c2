-- Laws of the end of an image (`specs/Ending.antt`). Assumes nothing.
use Prim.Native.Nat.{ℕ, ◌+◌, ◌*◌, ◌/◌, ◌<◌, ◌≤◌}
use mathlib.Core.Path.{◌≡◌, ap}
use mathlib.Core.Bool.{true, false}
use mathlib.Core.List.{List}
use native.Mathlib.Omega.{arith}
use native.Mathlib.Decide.{dec_le}
use lib.ListN.{length, take}
use lib.Seq.{take_all, length-take-le}
use borrow.Author.Tests.{eqb-true, ne_eqb}
use Rattle.bitreader.specs.Types.{Fault}
use Rattle.readers.specs.Reader.{got, fault, fault_at, require_in, require}
use Rattle.bitreader.specs.Ending.{ends_at, ending}
use Rattle.net.proofs.Laws.{both_l, both_false_l}
use Rattle.readers.proofs.ReaderLaws.{choose_got, choose_fault}
use Rattle.bitreader.proofs.Budget.{Stops, Closes}

-- ---- with a further byte it fails, whatever the bytes are
fails_past : (s : List ℕ) (p : ℕ) → (p + 7) / 8 < length s → false ≡ ends_at s p
unfolding ends_at
fails_past s p h = both_false_l _ _ (ne_eqb (length s) ((p + 7) / 8) (λ e. omega arith))

-- 29 at the place after the code
only_29 : (s : List ℕ) (p : ℕ) (f : Fault) → ending s p ≡ fault f → fault_at 29 p 0 ≡ f
unfolding ending require require_in
only_29 s p f e = choose_fault (ends_at s p) tt p (fault_at 29 p 0) f e

stops_29 : (s : List ℕ) (p : ℕ) (f : Fault) → fault_at 29 p 0 ≡ f → Stops s p 8 f
unfolding fault_at
stops_29 s p f e = rw (← e) (record { near = omega arith; past = λ l. absurd (omega arith); inside = λ i. i })

not_29 : (p : ℕ) (f : Fault) → fault_at 29 p 0 ≡ f → f.number ≤ 27 → ⊥
unfolding fault_at
not_29 p f e l = let n : 29 ≡ f.number = ap (λ (g : Fault). g.number) e in omega arith

pub ending_closes : Closes ending 8
unfolding ending require require_in ends_at
ending_closes = record {
  fills = fills;
  same = same;
  stops = λ s p f e. stops_29 s p f (only_29 s p f e);
  stays = λ s t e p d f i n l. absurd (not_29 p f (only_29 s p f i) n);
  cuts = λ s t e p d k l h u q i. absurd (early s t e p k l h (choose_got (ends_at s p) _ i).0);
}
  where
    -- an image that goes on for e bits and more does not end at one of them
    early : (s t : List ℕ) (e p : ℕ) → 8 * length t ≡ e → e < 8 * length s → p ≤ e → ends_at s p ≡ true → ⊥
    early s t e p k l h g = let d = eqb-true (length s) ((p + 7) / 8) (both_l _ _ g) in omega arith

    fills : (s : List ℕ) (p : ℕ) (u : Unit {0}) (q : ℕ) → ending s p ≡ got u q → 8 * length s ≤ p + 8
    fills s p u q e =
        let g = choose_got (ends_at s p) _ e in
        let d = eqb-true (length s) ((p + 7) / 8) (both_l _ _ g.0) in
        omega arith

    same : (s : List ℕ) (p k : ℕ) → p + 8 ≤ 8 * k → ending (take k s) p ≡ ending s p
    same s p k l = go (dec_le (length s) k)
      where
        go : Dec (length s ≤ k) → ending (take k s) p ≡ ending s p
        go (yes h) = rw take_all
        go (no h) =
            let n : length (take k s) ≡ k = length-take-le k s (omega arith) in
            rw (← (fails_past (take k s) p (omega arith)), ← (fails_past s p (omega arith)))
