-- The claims of `specs/FaultClaims.antt`, from how the readers of an image go on and follow themselves from one image to
-- another (`Budget.antt` of the crate `bitreader`). Assumes nothing.
use Prim.Native.Nat.{ℕ, ◌+◌, ◌*◌, ◌<◌, ◌≤◌}
use mathlib.Core.Path.{◌≡◌, refl, sym, ap, subst, ◌∙◌}
use mathlib.Core.Bool.{Bool, true, false}
use mathlib.Core.List.{List}
use native.Mathlib.Omega.{arith}
use lib.ListN.{length, take}
use lib.Seq.{length-take-le}
use Rattle.net.specs.Choice.{choose}
use Rattle.keeping.specs.Admission.{admits}
use Rattle.readers.specs.Reader.{Parsed, got, fault, fault_at, field_end}
use Rattle.bitreader.specs.SameBits.{SameBits}
use Rattle.image.specs.Image.{layout, all_entries, end_of, beyond_row, refused, accepted, judged_net, opened_of}
use Rattle.faults.specs.Types.{Fault, Net, Verdict, Opened}
use Rattle.faults.specs.FaultClaims.{RefusedWith, FaultInside, FaultStays, CutIn, CutAnywhere}
use Rattle.bitreader.proofs.Following.{Goes, forward, stopped, Cut, cut}
use Rattle.bitreader.proofs.Budget.{bit_same}
use Rattle.image.proofs.FirstBytes.{layout_closes, all_entries_within}

-- ---- an image is refused for its layout, or for a starting process beyond its row
data Why (s : List ℕ) (f : Fault) : Type 0 where
  laid_out : layout s 0 ≡ fault f → Why s f
  beyond : (net : Net) → f ≡ beyond_row s net → Why s f

same_fault : (f g : Fault) → Verdict.Refused f ≡ Verdict.Refused g → f ≡ g
same_fault f g e = cc

not_accepted : {C : Type 0} (f : Fault) → Verdict.Accepted ≡ Verdict.Refused f → C
not_accepted f e = let z : ◌≡◌ {A = ℕ} 0 1 = cc in absurd (omega arith)

why : (s : List ℕ) (f : Fault) → RefusedWith s f → Why s f
unfolding RefusedWith opened_of judged_net choose accepted refused
why s f = by (layout s 0) refl
  where
    judged : (net : Net) (b : Bool) → (choose b (accepted net) (refused (beyond_row s net))).answer ≡ Verdict.Refused f → Why s f
    judged net true e = not_accepted f e
    judged net false e = beyond net (sym (same_fault _ _ e))

    by : (o : Parsed Net) → layout s 0 ≡ o → (judged_net s o).answer ≡ Verdict.Refused f → Why s f
    by (got net p) d e = judged net (admits net) e
    by (fault g) d e = laid_out (d ∙ ap fault (same_fault _ _ e))

-- a layout at fault is refused
faulted : (s : List ℕ) (f : Fault) → layout s 0 ≡ fault f → RefusedWith s f
unfolding RefusedWith opened_of judged_net refused
faulted s f e = ap (λ (o : Parsed Net). (judged_net s o).answer) e

-- ---- the place is inside
goes_inside : {A : Type 0} (s : List ℕ) (b : ℕ) (o : Parsed A) → Goes s 0 b o → end_of o ≤ 8 * length s
unfolding end_of
goes_inside s b _ (forward l h k) = k (omega arith)
goes_inside s b _ (stopped l h k) = k (omega arith)

beyond_inside : (s : List ℕ) (net : Net) → (beyond_row s net).place ≤ 8 * length s
unfolding beyond_row fault_at
beyond_inside s net = goes_inside s _ (all_entries net s 0) ((all_entries_within net).goes s 0)

inside : (s : List ℕ) (f : Fault) → Why s f → f.place ≤ 8 * length s
inside s f (laid_out e) = (layout_closes.stops s 0 f e).inside (omega arith)
inside s f (beyond net e) = rw e (beyond_inside s net)

pub fault_inside : FaultInside
unfolding FaultInside
fault_inside s f r = inside s f (why s f r)

-- ---- the fault stays
not_30 : (s : List ℕ) (f : Fault) (net : Net) → f ≡ beyond_row s net → f.number ≤ 27 → ⊥
unfolding beyond_row fault_at
not_30 s f net e l = let n : f.number ≡ 30 = ap (λ (g : Fault). g.number) e in omega arith

stays : (s t : List ℕ) (f : Fault) → Why s f → f.number ≤ 27 → SameBits (field_end f) s t → RefusedWith t f
stays s t f (laid_out e) l b = faulted t f (layout_closes.stays s t (field_end f) 0 b f e l (omega arith))
stays s t f (beyond net e) l b = absurd (not_30 s f net e l)

pub fault_stays : FaultStays
unfolding FaultStays
fault_stays s t f r l b = stays s t f (why s f r) l b

-- ---- cut to fewer bytes
same_first : (s : List ℕ) (k : ℕ) → k ≤ length s → SameBits (8 * k) s (take k s)
same_first s k l =
    let n : length (take k s) ≡ k = length-take-le k s l in
    record { first = omega arith; second = omega arith; same = λ i h. sym (bit_same s k i h) }

cut_in : (k : ℕ) (t : List ℕ) (o : Parsed Net) → layout t 0 ≡ o → Cut (8 * k) o → CutIn k t
unfolding fault_at
cut_in k t _ e (cut at w l) = record { fault = fault_at 28 at w; refused = faulted t _ e; is = refl; inside = l }

accepts : (s : List ℕ) → (opened_of s).answer ≡ Verdict.Accepted → (net : Net) × (p : ℕ) × (layout s 0 ≡ got net p)
unfolding opened_of judged_net refused
accepts s = by (layout s 0) refl
  where
    by : (o : Parsed Net) → layout s 0 ≡ o → (judged_net s o).answer ≡ Verdict.Accepted → (net : Net) × (p : ℕ) × (layout s 0 ≡ got net p)
    by (got net p) d e = (net, p, d)
    by (fault f) d e = not_accepted f (sym e)

pub cut_anywhere : CutAnywhere
unfolding CutAnywhere
cut_anywhere s k e l =
    let (net, p, d) = accepts s e in
    let n : length (take k s) ≡ k = length-take-le k s (omega arith) in
    cut_in k (take k s) (layout (take k s) 0) refl
    (layout_closes.cuts s (take k s) (8 * k) 0 (same_first s k (omega arith)) (omega arith) (omega arith) (omega arith) net p d)
