-- The code that compares our register with a listing keeps to the comparison from cursor to cursor (`specs/Comparing.antt`).
-- Assumes nothing.
use Prim.Native.Nat.{ℕ, ◌+◌, ◌-◌, ◌*◌, ◌^◌, ◌<◌, ◌≤◌}
use mathlib.Core.Path.{◌≡◌, refl, sym, ap, subst, ◌∙◌}
use mathlib.Core.Bool.{Bool, true, false}
use mathlib.Core.List.{List, [], ◌∷◌}
use native.Mathlib.Omega.{arith}
use native.Mathlib.Numerals.{add-one}
use native.Mathlib.Decide.{dec_le}
use lib.ListN.{length, drop, get_or, drop_of_length-le}
use lib.Seq.{drop-cons, drop-drop}
use lib.Dec.{eqb}
use borrow.Author.Tests.{le-leb, lt-leb, lt-ltb, le-ltb}
use Rattle.std.specs.Prelude.{Err, Some, None, Option}
use Rattle.net.specs.Choice.{choose, both}
use Rattle.net.proofs.Laws.{choose_true, choose_false}
use Rattle.net.proofs.Every.{chosen}
use Rattle.net.proofs.ReadingLaws.{never}
use Rattle.lexemes.specs.Lexemes.{is_digit}
use Rattle.listing.specs.Listing.{Checked, Mismatch, digits_of, after_digits, value_from, writes}
use Rattle.listing.specs.Comparing.{Number, Cursor, stands_first, parted_at, comparing, compared_of, number_at, alike, compared_from, parted_from, after_number, after_byte, ended_from, Open, Advances, Turned, goes_on, parts, Compared}
use Rattle.listing.proofs.TurnLaws.{byte_turn, number_turn, digits_one}
use Rattle.listing.proofs.NumberLaws.{alike_writes, after_number_law}

-- the test is what a callee answered
pub called : (t answer value : Bool) → answer ≡ t → answer ≡ value → t ≡ value
called t answer value e v = sym e ∙ v

-- ---- a byte of theirs
module _ (s : List ℕ) (p b : ℕ) where
  pub stands_here : p < length s → eqb (get_or s p 0) b ≡ stands_first b (drop p s)
  unfolding stands_first
  stands_here h = sym (ap (stands_first b) (drop-cons s p 0 h))

  pub stands_nowhere : length s ≤ p → false ≡ stands_first b (drop p s)
  unfolding stands_first
  stands_nowhere h = sym (ap (stands_first b) (drop_of_length-le s h))

  stands_inside : Dec (length s ≤ p) → stands_first b (drop p s) ≡ true → p < length s
  stands_inside (yes h) e = absurd (never (stands_nowhere h ∙ e))
  stands_inside (no h) e = omega arith

-- ---- where the two part, and where ours end
over : (fresh : Bool) (x y : Checked) → choose (both fresh true) x y ≡ choose fresh x y
unfolding choose both
over true x y = refl
over false x y = refl

not_over : (fresh : Bool) (x y : Checked) → choose (both fresh false) x y ≡ y
unfolding choose both
not_over true x y = refl
not_over false x y = refl

module _ (theirs : List ℕ) (at : Cursor) where
  parted_by : Dec (length theirs ≤ at.theirs) → parted_from theirs at ≡ parted_at at.fresh at.line (drop at.theirs theirs)
  unfolding parted_from parted_at
  parted_by (yes h) =
      ap (λ (t : Bool). choose (both at.fresh t) (Err (Mismatch.Wanting at.line)) (Err (Mismatch.Differs at.line))) (le-leb (length theirs) at.theirs h)
      ∙ over at.fresh (Err (Mismatch.Wanting at.line)) (Err (Mismatch.Differs at.line))
      ∙ ap (parted_at at.fresh at.line) (sym (drop_of_length-le theirs h))
  parted_by (no h) =
      ap (λ (t : Bool). choose (both at.fresh t) (Err (Mismatch.Wanting at.line)) (Err (Mismatch.Differs at.line))) (lt-leb (length theirs) at.theirs (omega arith))
      ∙ not_over at.fresh (Err (Mismatch.Wanting at.line)) (Err (Mismatch.Differs at.line))
      ∙ ap (parted_at at.fresh at.line) (sym (drop-cons theirs at.theirs 0 (omega arith)))

  parted_is : parted_from theirs at ≡ parted_at at.fresh at.line (drop at.theirs theirs)
  parted_is = parted_by (dec_le (length theirs) at.theirs)

  ended_by : Dec (length theirs ≤ at.theirs) → ended_from theirs at ≡ comparing false at.fresh at.line [] (drop at.theirs theirs)
  unfolding ended_from comparing
  ended_by (yes h) =
      choose_false _ _ _ (le-ltb at.theirs (length theirs) h)
      ∙ ap (comparing false at.fresh at.line []) (sym (drop_of_length-le theirs h))
  ended_by (no h) =
      choose_true _ _ _ (lt-ltb at.theirs (length theirs) (omega arith))
      ∙ ap (comparing false at.fresh at.line []) (sym (drop-cons theirs at.theirs 0 (omega arith)))

-- ---- after a byte
pub byte_cursor :
    (at : Cursor) (b line : ℕ) → line ≡ choose (eqb b 10) (at.line + 1) at.line
    → record { ours = at.ours + 1; theirs = at.theirs + 1; line = line; fresh = eqb b 10 } ≡ after_byte at b
unfolding after_byte
byte_cursor at b line e = λ k. record { ours = at.ours + 1; theirs = at.theirs + 1; line = e k; fresh = eqb b 10 }

module _ (ours theirs : List ℕ) (at : Cursor) (l : Open ours at) where
  opens : drop at.ours ours ≡ get_or ours at.ours 0 ∷ drop (at.ours + 1) ours
  opens =
      drop-cons ours at.ours 0 l.left
      ∙ ap (λ (n : ℕ). get_or ours at.ours 0 ∷ drop n ours) (sym (add-one at.ours))

  -- ---- a number
  module _ (d : is_digit (get_or ours at.ours 0) ≡ true) where
    further : at.ours < (number_at ours at.ours).next
    unfolding number_at
    further =
        let long = ap length (ap digits_of opens ∙ digits_one (get_or ours at.ours 0) (drop (at.ours + 1) ours) d) in
        omega (arith, long)

    number_turned :
        compared_from ours theirs at
        ≡ choose (alike (number_at ours at.ours) (number_at theirs at.theirs) at.theirs)
        (compared_from ours theirs (after_number at (number_at ours at.ours) (number_at theirs at.theirs)))
        (parted_from theirs at)
    unfolding compared_from after_number
    number_turned =
        let rest : List ℕ = drop at.theirs theirs in
        ap (λ (xs : List ℕ). comparing false at.fresh at.line xs rest) opens
        ∙ number_turn at.line at.fresh (get_or ours at.ours 0) (drop (at.ours + 1) ours) rest d
        ∙ ap (λ (xs : List ℕ). choose (writes (value_from 0 (digits_of xs)) (digits_of rest)) (comparing false false at.line (after_digits xs) (after_digits rest)) (parted_at at.fresh at.line rest)) (sym opens)
        ∙ (λ k. choose (sym (alike_writes ours theirs at.ours at.theirs) k)
        (comparing false false at.line (sym (after_number_law ours at.ours) k) (sym (after_number_law theirs at.theirs) k))
        (sym (parted_is theirs at) k))

    module _ (mine other : Number) (m : mine ≡ number_at ours at.ours) (o : other ≡ number_at theirs at.theirs) where
      number_comes :
          compared_from ours theirs at
          ≡ choose (alike mine other at.theirs) (compared_from ours theirs (after_number at mine other)) (parted_from theirs at)
      number_comes =
          number_turned
          ∙ (λ k. choose (alike (sym m k) (sym o k) at.theirs) (compared_from ours theirs (after_number at (sym m k) (sym o k))) (parted_from theirs at))

      pub number_on :
          (next : Cursor) (same : Bool) → next ≡ after_number at mine other → same ≡ alike mine other at.theirs → same ≡ true
          → Turned ours theirs at (Some next)
      unfolding after_number
      number_on next same n e t =
          let on = ap (λ (x : Number). x.next) m in
          subst (λ (x : Cursor). Turned ours theirs at (Some x)) (sym n)
          (goes_on (sym (number_comes ∙ choose_true _ _ _ (sym e ∙ t))) (omega (arith, on, further)) (omega (arith, on, further, l.lines)))

      pub number_parts : (same : Bool) → same ≡ alike mine other at.theirs → same ≡ false → Turned ours theirs at None
      number_parts same e f = parts (sym (number_comes ∙ choose_false _ _ _ (sym e ∙ f)))

  -- ---- any other byte
  module _ (d : is_digit (get_or ours at.ours 0) ≡ false) (b : ℕ) (e : b ≡ get_or ours at.ours 0) where
    byte_comes :
        compared_from ours theirs at
        ≡ choose (stands_first b (drop at.theirs theirs)) (compared_from ours theirs (after_byte at b)) (parted_from theirs at)
    unfolding compared_from after_byte
    byte_comes =
        let rest : List ℕ = drop at.theirs theirs in
        ap (λ (xs : List ℕ). comparing false at.fresh at.line xs rest) opens
        ∙ byte_turn at.line false at.fresh (get_or ours at.ours 0) (drop (at.ours + 1) ours) rest d
        ∙ (λ k. choose (stands_first (sym e k) rest)
        (comparing false (eqb (sym e k) 10) (choose (eqb (sym e k) 10) (at.line + 1) at.line) (drop (at.ours + 1) ours) (drop-drop 1 at.theirs theirs k))
        (sym (parted_is theirs at) k))

    lines_after_law : (after_byte at b).line ≤ (after_byte at b).ours + 1
    unfolding after_byte
    lines_after_law =
        chosen (λ (n : ℕ). n ≤ (at.ours + 1) + 1) (eqb b 10) _ _ (λ _. omega (arith, l.lines)) (λ _. omega (arith, l.lines))

    -- no slice has 2^63 bytes
    pub byte_fits :
        (same : Bool) → length ours * 1 < 2 ^ 63 → length theirs < 2 ^ 64 → same ≡ stands_first b (drop at.theirs theirs) → same ≡ true
        → Advances at
    byte_fits same o t s e =
        let inside = stands_inside theirs at.theirs b (dec_le (length theirs) at.theirs) (sym s ∙ e) in
        record { ours = omega (arith, l.left, o); theirs = omega (arith, inside, t); line = omega (arith, l.left, l.lines, o) }

    pub byte_on :
        (next : Cursor) (same : Bool) → next ≡ after_byte at b → same ≡ stands_first b (drop at.theirs theirs) → same ≡ true
        → Turned ours theirs at (Some next)
    unfolding after_byte
    byte_on next same n s t =
        subst (λ (x : Cursor). Turned ours theirs at (Some x)) (sym n)
        (goes_on (sym (byte_comes ∙ choose_true _ _ _ (sym s ∙ t))) (omega arith) lines_after_law)

    pub byte_parts : (same : Bool) → same ≡ stands_first b (drop at.theirs theirs) → same ≡ false → Turned ours theirs at None
    byte_parts same s f = parts (sym (byte_comes ∙ choose_false _ _ _ (sym s ∙ f)))

-- ---- from cursor to cursor
pub compared_begin : (ours theirs : List ℕ) → Compared ours theirs (record { ours = 0; theirs = 0; line = 1; fresh = true })
unfolding compared_from compared_of
compared_begin ours theirs = record { rest = refl; lines = omega arith }

module _ (ours theirs : List ℕ) (at : Cursor) where
  pub compared_open : Compared ours theirs at → at.ours < length ours → Open ours at
  compared_open k h = record { left = h; lines = k.lines }

  on : (next : Cursor) → Compared ours theirs at → Turned ours theirs at (Some next) → Compared ours theirs next
  on next k (goes_on e h l) = record { rest = e ∙ k.rest; lines = l }

  pub compared_more : (next : Cursor) (t : Option Cursor) → Compared ours theirs at → Turned ours theirs at t → t ≡ Some next → Compared ours theirs next
  compared_more next t k turned e = on next k (subst (Turned ours theirs at) e turned)

  less : (next : Cursor) → Turned ours theirs at (Some next) → at.ours < next.ours
  less next (goes_on e h l) = h

  pub compared_less : (next : Cursor) (t : Option Cursor) → Turned ours theirs at t → t ≡ Some next → at.ours < length ours → length ours - next.ours < length ours - at.ours
  compared_less next t turned e h = omega (arith, less next (subst (Turned ours theirs at) e turned))

  apart : Turned ours theirs at None → parted_from theirs at ≡ compared_from ours theirs at
  apart (parts e) = e

  pub compared_parts : (t : Option Cursor) (r : Checked) → Compared ours theirs at → Turned ours theirs at t → t ≡ None → r ≡ parted_from theirs at → r ≡ compared_of ours theirs
  compared_parts t r k turned e p = p ∙ apart (subst (Turned ours theirs at) e turned) ∙ k.rest

  pub compared_end : (r : Checked) → Compared ours theirs at → length ours ≤ at.ours → r ≡ ended_from theirs at → r ≡ compared_of ours theirs
  unfolding compared_from
  compared_end r k h e =
      e ∙ ended_by theirs at (dec_le (length theirs) at.theirs)
      ∙ ap (λ (xs : List ℕ). comparing false at.fresh at.line xs (drop at.theirs theirs)) (sym (drop_of_length-le ours h))
      ∙ k.rest
