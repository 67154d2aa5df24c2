-- The whole of an image (`specs/Image.antt`): where its entries begin, and what it gives.
-- Assumes nothing.
use Prim.Native.Nat.{ℕ, ◌+◌, ◌*◌, ◌≤◌}
use mathlib.Core.Path.{◌≡◌, refl, sym, ap, subst, ◌∙◌}
use mathlib.Core.Bool.{true, false}
use mathlib.Core.List.{List}
use native.Mathlib.Omega.{arith}
use lib.ListN.{take}
use Rattle.std.proofs.Common.{Result, Ok, Err}
use Rattle.net.specs.Choice.{choose}
use Rattle.keeping.specs.Admission.{admits}
use Rattle.image.specs.Types.{BitReader, Fault, Net}
use Rattle.readers.specs.Reader.{Parsed, got, fault, fault_at}
use Rattle.readers.specs.Progress.{came}
use Rattle.readers.proofs.CameLaws.{then_came}
use Rattle.bitreader.specs.Window.{window, seen}
use Rattle.bitreader.specs.Progress.{Reads}
use Rattle.image.specs.Image.{Opened, header, rows, layout, each_address, entries_of, all_entries}
use Rattle.image.specs.Image.{end_of, beyond_row, accepted, refused, judged_net, opened_of}
use Rattle.image.specs.Progress.{Begun}
use Rattle.net.proofs.Laws.{choose_true, choose_false}
use Rattle.image.proofs.FirstBytes.{after_header, layout_closes, all_entries_within}

-- ---- where the entries begin
pub begun :
    (r₀ r₁ r₂ : BitReader) (start ruled net : Net) → r₀.at ≡ 0 → Reads r₀ header (Ok start) r₁ → Reads r₁ (rows start) (Ok ruled) r₂
    → net.addresses ≡ start.addresses → Begun r₀.image.now r₂.at net
begun r₀ r₁ r₂ start ruled net z g h e = record {
  headed = r₁.at;
  start = start;
  ruled = ruled;
  first = g.gave ∙ ap (header r₀.image.now) z;
  second = h.gave ∙ ap (λ i. rows start i.now r₁.at) g.same;
  addresses = e;
}

-- ---- the entries again
module _ (s : List ℕ) (q : ℕ) (net : Net) (b : Begun s q net) where
  entries_law :
      (o : Result (Unit {0}) Fault) (p : ℕ) → came o p ≡ each_address net.addresses (entries_of net) tt s q
      → came o p ≡ all_entries net s 0
  unfolding all_entries
  entries_law o p g =
      then_came header _ b.start b.headed o p b.first
      (then_came (rows b.start) _ b.ruled q o p b.second
      (subst (λ (n : ℕ). came o p ≡ each_address n (entries_of net) tt s q) b.addresses g))

  beyond : (o : Result (Unit {0}) Fault) (p : ℕ) → came o p ≡ each_address net.addresses (entries_of net) tt s q
      → fault_at 30 (end_of (came o p)) 9 ≡ beyond_row s net
  unfolding beyond_row
  beyond o p g = ap (λ (x : Parsed (Unit {0})). fault_at 30 (end_of x) 9) (entries_law o p g)

module _ (r r' : BitReader) (net : Net) (f : Fault) (b : Begun r.image.now r.at net) where
  pub beyond_end : (u : Unit {0}) → Reads r (each_address net.addresses (entries_of net) tt) (Ok u) r' → f ≡ fault_at 30 r'.at 9
      → f ≡ beyond_row r.image.now net
  unfolding came end_of
  beyond_end u g e = e ∙ beyond r.image.now r.at net b (Ok u) r'.at g.gave

  pub beyond_entry : (e : Fault) → Reads r (each_address net.addresses (entries_of net) tt) (Err e) r' → f ≡ fault_at 30 e.place 9
      → f ≡ beyond_row r.image.now net
  unfolding came end_of
  beyond_entry e g d = d ∙ beyond r.image.now r.at net b (Err e) r'.at g.gave

-- ---- what an image gives
-- its first bytes decide
beyond_take : (s : List ℕ) (k : ℕ) (net : Net) → 19 + (16 * (16 * 65) + 16 * 39) ≤ 8 * k → beyond_row (take k s) net ≡ beyond_row s net
unfolding beyond_row
beyond_take s k net l = ap (λ (o : Parsed (Unit {0})). fault_at 30 (end_of o) 9) ((all_entries_within net).same s 0 k l)

judged_take : (s : List ℕ) (k : ℕ) (o : Parsed Net) → 19 + (16 * (16 * 65) + 16 * 39) ≤ 8 * k → judged_net (take k s) o ≡ judged_net s o
unfolding judged_net
judged_take s k (got net p) l = ap (λ (f : Fault). choose (admits net) (accepted net) (refused f)) (beyond_take s k net l)
judged_take s k (fault f) l = refl

pub opened_take : (s : List ℕ) (k : ℕ) → 19 + after_header (16 * 65) 170 ≤ 8 * k → opened_of (take k s) ≡ opened_of s
unfolding opened_of
opened_take s k l =
    judged_take s k (layout (take k s) 0) (omega arith) ∙ ap (judged_net s) (layout_closes.same s 0 k (omega arith))

module _ (s : List ℕ) (r r' : BitReader) (o : Result Net Fault) (first : r.at ≡ 0) (bytes : r.image.now ≡ seen s) (g : Reads r layout o r') where
  opened : judged_net (seen s) (came o r'.at) ≡ opened_of s
  unfolding opened_of seen
  opened =
      ap (judged_net (seen s)) (g.gave ∙ ap (layout r.image.now) first ∙ ap (λ i. layout i 0) bytes) ∙
      opened_take s window (omega arith)

module _ (s : List ℕ) (r r' : BitReader) (first : r.at ≡ 0) (bytes : r.image.now ≡ seen s) where
  pub opened_refused : (e : Fault) (x : Opened) → Reads r layout (Err e) r' → x ≡ refused e → x ≡ opened_of s
  unfolding came judged_net
  opened_refused e x g d = d ∙ opened s r r' (Err e) first bytes g

  pub opened_whole : (net : Net) → Reads r layout (Ok net) r' → admits net ≡ true → accepted net ≡ opened_of s
  unfolding came judged_net
  opened_whole net g h = sym (choose_true _ _ _ h) ∙ opened s r r' (Ok net) first bytes g

  pub opened_not : (net : Net) (f : Fault) (x : Opened) → Reads r layout (Ok net) r' → admits net ≡ false → f ≡ beyond_row (seen s) net
      → x ≡ refused f → x ≡ opened_of s
  unfolding came judged_net
  opened_not net f x g h e d = d ∙ ap refused e ∙ sym (choose_false _ _ _ h) ∙ opened s r r' (Ok net) first bytes g
