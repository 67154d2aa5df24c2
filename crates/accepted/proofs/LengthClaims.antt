-- The claims of `specs/LengthClaims.antt`, of the bits that the layout takes at most. Assumes nothing.
use Prim.Native.Nat.{ℕ, ◌+◌, ◌*◌, ◌≤◌}
use mathlib.Core.Path.{◌≡◌, refl}
use mathlib.Core.Bool.{Bool, true, false}
use native.Mathlib.Omega.{arith}
use lib.Dec.{eqb}
use lib.ListN.{length}
use Rattle.net.specs.Choice.{choose}
use Rattle.keeping.specs.Admission.{admits}
use Rattle.accepted.specs.Types.{Net, Verdict}
use Rattle.readers.specs.Reader.{Parsed, got, fault}
use Rattle.image.specs.Image.{layout, beyond_row, accepted, refused, judged_net, opened_of}
use Rattle.accepted.specs.LengthClaims.{longest_in, FirstBytesDecide, LongestAccepted}
use Rattle.instructions.proofs.InstructionWithin.{instruction_bits}
use Rattle.image.proofs.FirstBytes.{row_bits, after_header, layout_fills}
use Rattle.image.proofs.LayoutLaws.{opened_take}
use Rattle.accepted.proofs.AcceptedSound.{never}

pub first_bytes_decide : FirstBytesDecide
unfolding FirstBytesDecide
first_bytes_decide s k h = opened_take s k (omega arith)

-- the bytes that hold the bits of a format
bytes_in_law : (f m : ℕ) → 8 * m ≤ 19 + after_header (row_bits f) (instruction_bits f) → m ≤ longest_in f
unfolding row_bits instruction_bits longest_in choose
bytes_in_law f m h = by (eqb f 1) refl
  where
    by : (b : Bool) → eqb f 1 ≡ b → m ≤ longest_in f
    by true e = let g = rw e at h in rw e (omega arith)
    by false e = let g = rw e at h in rw e (omega arith)

pub longest_accepted : LongestAccepted
unfolding LongestAccepted opened_of judged_net accepted refused choose
longest_accepted s = go (layout s 0) refl
  where
    judged : (x : Net) (q : ℕ) → layout s 0 ≡ got x q → (b : Bool)
        → (choose b (accepted x) (refused (beyond_row s x))).answer ≡ Verdict.Accepted
        → length s ≤ longest_in (choose b (accepted x) (refused (beyond_row s x))).net.format
    judged x q d true e = bytes_in_law _ _ (layout_fills s x q d)
    judged x q d false e = never _ e

    go : (o : Parsed Net) → layout s 0 ≡ o → (judged_net s o).answer ≡ Verdict.Accepted → length s ≤ longest_in (judged_net s o).net.format
    go (got x q) d e = judged x q d (admits x) e
    go (fault f) d e = never f e
