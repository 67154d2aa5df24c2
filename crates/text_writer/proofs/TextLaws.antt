-- A text in the writer's own buffer, and what copying it gives. Assumes nothing.
use Prim.Native.Nat.{ℕ, ◌<◌, ◌≤◌}
use mathlib.Core.Path.{◌≡◌, sym, ap, ◌∙◌}
use mathlib.Core.Bool.{Bool, true, false}
use mathlib.Core.List.{List}
use native.Mathlib.Omega.{arith}
use lib.ListN.{length, take}
use lib.Seq.{sets-eq, take_at, length-take-le}
use borrow.Author.Tests.{le-leb, lt-leb}
use Rattle.std.specs.Prelude.{Option, Some, None, Ok, Err, if◌then◌else◌}
use Rattle.net.proofs.Laws.{choose_true, choose_false}
use Rattle.fresh.specs.Fresh.{fresh_of}
use Rattle.read_back.specs.NetSource.{text_of}
use Rattle.read_back.specs.ReadBackClaims.{longest_text, WrittenInBounds}
use Rattle.read_back.proofs.ReadBackClaims.{written_in_bounds}
use Rattle.text.specs.Buffer.{over}
use Rattle.text.specs.Writer.{fitted}
use Rattle.text.proofs.WritingLaws.{over_length}
use Rattle.writer.specs.Calls.{placed_of, placed_in}
use Rattle.text_writer.specs.Calls.{texted_of, text_in}
use Rattle.text_writer.specs.Types.{Net, Packed, Unwritten}

-- ---- a text copied, where there is room for it
module _ (text : List ℕ) where
  pub copied : (room : ℕ) → length text ≤ room → Ok (length text) ≡ placed_of (length text) room
  unfolding placed_of
  copied room h = sym (choose_true _ _ (Err Unwritten.NoRoom) (le-leb (length text) room h))

  pub cut : (room : ℕ) → room < length text → Err Unwritten.NoRoom ≡ placed_of (length text) room
  unfolding placed_of
  cut room h = sym (choose_false _ (Ok (length text)) _ (lt-leb (length text) room h))

  pub copied_in : (xs ys : List ℕ) → length text ≤ length xs → ys ≡ over xs 0 text → ys ≡ placed_in text xs
  unfolding placed_in
  copied_in xs ys h e = e ∙ sym (choose_true _ _ xs (le-leb (length text) (length xs) h))

  pub cut_in : (xs : List ℕ) → length xs < length text → xs ≡ placed_in text xs
  unfolding placed_in
  cut_in xs h = sym (choose_false _ (over xs 0 text) xs (lt-leb (length text) (length xs) h))

-- ---- the text of a fresh net
module _ (net : Net) (fresh : fresh_of net ≡ true) (xs : List ℕ) (size : 105920 ≡ length xs) where
  short : length (text_of net) ≤ length xs
  unfolding WrittenInBounds longest_text
  short = let most : length (text_of net) ≤ 105920 = written_in_bounds net fresh in omega arith

  pub text_fits : (r : Option ℕ) → r ≡ fitted (text_of net) (length xs) → r ≡ Some (length (text_of net))
  unfolding fitted
  text_fits r e =
      e ∙ ap (λ (b : Bool). if b then Some (length (text_of net)) else None) (le-leb (length (text_of net)) (length xs) short)

  pub text_end : (r : Option ℕ) (n : ℕ) → r ≡ fitted (text_of net) (length xs) → r ≡ Some n → n ≡ length (text_of net)
  text_end r n e u = let k = text_fits r e in cc

  module _ (ys : List ℕ) (n : ℕ) (w : ys ≡ over xs 0 (text_of net)) (d : n ≡ length (text_of net)) where
    pub text_fit : n ≤ length ys
    text_fit =
        let l : length ys ≡ length xs = ap length w ∙ over_length xs 0 (text_of net) in
        omega (arith, short, d, l)

    pub text_count : n ≡ length (take n ys)
    text_count = sym (length-take-le n ys text_fit)

    text_first : take n ys ≡ text_of net
    unfolding over
    text_first = ap (take n) (w ∙ sets-eq (text_of net) xs 0 (omega (arith, short))) ∙ take_at (text_of net) _ n (sym d)

    pub text_packed :
        (room : ℕ) (r : Packed) → r ≡ placed_of (length (take n ys)) room → r ≡ placed_of (length (text_of net)) room
    text_packed room r e = e ∙ ap (λ (t : List ℕ). placed_of (length t) room) text_first

    pub text_placed : (before after : List ℕ) → after ≡ placed_in (take n ys) before → after ≡ placed_in (text_of net) before
    text_placed before after e = e ∙ ap (λ (t : List ℕ). placed_in t before) text_first

-- ---- every net
module _ (net : Net) (answer : Bool) (e : answer ≡ fresh_of net) where
  pub net_texted :
      (r : Packed) (room : ℕ) → answer ≡ true → r ≡ placed_of (length (text_of net)) room → r ≡ texted_of net room
  unfolding texted_of
  net_texted r room p q = q ∙ sym (choose_true (fresh_of net) _ (Err Unwritten.NotFresh) (sym e ∙ p))

  pub net_placed :
      (before after : List ℕ) → answer ≡ true → after ≡ placed_in (text_of net) before → after ≡ text_in net before
  unfolding text_in
  net_placed before after p q = q ∙ sym (choose_true (fresh_of net) _ before (sym e ∙ p))

  pub net_refused : (room : ℕ) → answer ≡ false → Err Unwritten.NotFresh ≡ texted_of net room
  unfolding texted_of
  net_refused room p = sym (choose_false (fresh_of net) (placed_of (length (text_of net)) room) _ (sym e ∙ p))

  pub net_kept : (before : List ℕ) → answer ≡ false → before ≡ text_in net before
  unfolding text_in
  net_kept before p = sym (choose_false (fresh_of net) (placed_in (text_of net) before) before (sym e ∙ p))
