-- Our register in a buffer (`specs/Written.antt`). Assumes nothing.
use Prim.Native.Nat.{ℕ, ◌+◌, ◌<◌, ◌≤◌}
use mathlib.Core.Path.{◌≡◌, refl, sym, ap, ◌∙◌}
use mathlib.Core.Bool.{Bool, true, false}
use mathlib.Core.List.{List}
use native.Mathlib.Omega.{arith}
use lib.ListN.{length, take, drop, get_or}
use lib.Seq.{sets-eq, take-append_seam}
use lib.Dec.{leb}
use borrow.Author.Tests.{le-leb, leb-true}
use mir.Syntax.{w8}
use mir.Val.{Fits}
use Rattle.net.specs.Choice.{choose}
use Rattle.net.proofs.Laws.{choose_true}
use Rattle.text.specs.Buffer.{over}
use Rattle.std.specs.Prelude.{Option, Some, None}
use Rattle.registers.specs.Calls.{written_in, registered_of, registered_length}
use Rattle.lines.specs.declared.shown.Parts.{Parts}
use Rattle.lines.specs.Words.{printed}
use Rattle.lines.specs.Shown.{unnamed}
use Rattle.registers.specs.Register.{register_in, register_as}
use Rattle.registers.specs.Longest.{longest, LongestShowing}
use Rattle.registers.proofs.Longest.{longest_showing}
use Rattle.listing.specs.Listing.{Age, Checked, parts_for, wanted_lines, listing_of}
use Rattle.listing.specs.Comparing.{compared_of}
use Rattle.listing.specs.Written.{Holds, ComparedIn}
use Rattle.listing.proofs.ListingClaims.{compared_is}

module _ (out : List ℕ) (written : Option ℕ) where
  -- as much as was written
  pub written_inside : (n : ℕ) → written ≡ Some n → registered_length written ≤ length out → n ≤ length out
  unfolding registered_length
  written_inside n e h = omega (arith, ap registered_length e, h)

  pub written_compared : (listing : List ℕ) (r : Checked) (n : ℕ) → written ≡ Some n → r ≡ compared_of (take n out) listing → ComparedIn out written listing r
  unfolding registered_length
  written_compared listing r n e c = record {
    is = λ text l.
        let long : n ≡ length text = ap registered_length (sym e ∙ l.whole) in
        c ∙ ap (λ (xs : List ℕ). compared_of xs listing) (ap (λ (k : ℕ). take k out) long ∙ l.front);
  }

  pub written_never : (listing : List ℕ) (r : Checked) → written ≡ None → ComparedIn out written listing r
  written_never listing r e = record { is = λ text l. let whole = l.whole in let z : ◌≡◌ {A = ℕ} 0 1 = cc in absurd (omega arith) }

-- ---- what the call that writes a register promises
module _ (before out text : List ℕ) (written : Option ℕ) (e : written ≡ registered_of text (length before)) where
  fits_whole : (t : Bool) → leb (length text) (length before) ≡ t → registered_length (choose t (Some (length text)) None) ≤ length before
  unfolding registered_length choose
  fits_whole true h = leb-true _ _ h
  fits_whole false h = omega arith

  pub written_fits : length out ≡ length before → registered_length written ≤ length out
  unfolding registered_of written_in
  written_fits same = let n = fits_whole (leb (length text) (length before)) refl in omega (arith, ap registered_length e, n, same)

  pub written_holds : length text ≤ length before → out ≡ over before 0 text → Holds out written text
  unfolding registered_of written_in over
  written_holds fits o = record {
    whole = e ∙ choose_true _ _ _ (le-leb (length text) (length before) fits);
    front = ap (take (length text)) (o ∙ sets-eq text before 0 (omega arith)) ∙ take-append_seam text (drop (0 + length text) before);
  }

-- ---- the whole check
module _
    (image picks listing before out : List ℕ) (age : Age) (parts : Parts) (written : Option ℕ) (r : Checked)
  where
    -- what an age shows, printed
    wanted_is : parts ≡ parts_for age → register_as (unnamed parts) image picks ≡ printed (wanted_lines image picks age)
    unfolding register_as register_in wanted_lines
    wanted_is p = ap (λ (q : Parts). register_as (unnamed q) image picks) p

    pub age_checked :
        ((i : ℕ) → Fits w8 (get_or picks i 0)) → longest ≡ length before → parts ≡ parts_for age
        → written ≡ registered_of (register_as (unnamed parts) image picks) (length before)
        → out ≡ over before 0 (register_as (unnamed parts) image picks)
        → ComparedIn out written listing r
        → r ≡ listing_of image picks listing age
    unfolding LongestShowing
    age_checked known room p e o c =
        let bytes : (i : ℕ) → get_or picks i 0 < 256 = λ i. omega (arith, known i) in
        let fits = longest_showing parts image picks bytes in
        c.is _ (written_holds before out (register_as (unnamed parts) image picks) written e (omega (arith, fits, room)) o)
        ∙ ap (λ (xs : List ℕ). compared_of xs listing) (wanted_is p)
        ∙ compared_is image picks listing age bytes
