-- The first bytes of a listing decide: as many as every number padded to ten digits would take, and one more.
-- Assumes nothing.
use Prim.Native.Nat.{ℕ, zero, suc, ◌+◌, ◌-◌, ◌<◌, ◌≤◌}
use mathlib.Core.Path.{◌≡◌, refl, sym, ap, subst, ◌∙◌}
use mathlib.Core.Bool.{Bool, true, false, not}
use mathlib.Core.List.{List, [], ◌∷◌, ◌++◌}
use native.Mathlib.Omega.{arith}
use native.Mathlib.Decide.{dec_le}
use lib.ListN.{length, take, length-append}
use lib.Seq.{take_all, take-append-le, take-append-add, length-take-le}
use lib.Dec.{eqb}
use borrow.Author.Tests.{eqb-true, not-true}
use Rattle.std.specs.Prelude.{Err}
use Rattle.net.specs.Choice.{choose}
use Rattle.net.proofs.Laws.{both_i, both_l, both_r, choose_false}
use Rattle.net.proofs.Every.{chosen}
use Rattle.lines.specs.Words.{Word, name, number, reading, address}
use Rattle.listing.specs.Listing.{Mismatch, at_front, listed, carries, checked_from}
use Rattle.listing.specs.ListingClaims.{PaddedWord, as_it_is, a_number, above, below, an_address}
use Rattle.listing.specs.ListingClaims.{PaddedWords, no_words, word_first, PaddedLine, empty_line, line_of}
use Rattle.listing.specs.ListingClaims.{Padded, no_lines, line_then}
use Rattle.listing.proofs.Digits.{padded_length}
use Rattle.listing.proofs.Carrying.{carried_line}
use Rattle.listing.proofs.Agreeing.{clean, listed_body}

-- ---- how many bytes words and lines take at most
unfoldable pub word_room : Word → ℕ
word_room (name text) = length text
word_room (number n) = 10
word_room (reading x) = 11
word_room (address l) = 11

-- each with a space
unfoldable pub words_room : List Word → ℕ
words_room [] = 0
words_room (w ∷ ws) = suc (word_room w) + words_room ws

-- a space less, and a newline
unfoldable pub line_room : List Word → ℕ
line_room [] = 1
line_room (w ∷ ws) = words_room (w ∷ ws)

unfoldable pub lines_room : List (List Word) → ℕ
lines_room [] = 0
lines_room (line ∷ lines) = line_room line + lines_room lines

word_room_law : {w : Word} {u : List ℕ} → PaddedWord w u → length u ≤ word_room w
unfolding word_room
word_room_law as_it_is = omega arith
word_room_law (a_number p) = padded_length p
word_room_law (above p) = omega (arith, padded_length p)
word_room_law (below p) = omega (arith, padded_length p)
word_room_law (an_address p) = omega (arith, padded_length p)

words_room_law : {ws : List Word} {t : List ℕ} → PaddedWords ws t → length t ≤ words_room ws
unfolding words_room
words_room_law no_words = omega arith
words_room_law (word_first {u = u} {t = t} p r) = omega (arith, word_room_law p, words_room_law r, length-append u t)

line_room_law : {line : List Word} {u : List ℕ} → PaddedLine line u → length u ≤ line_room line
unfolding line_room words_room
line_room_law empty_line = omega arith
line_room_law (line_of {u = u} {t = t} p r) =
    omega (arith, word_room_law p, words_room_law r, length-append u (t ++ 10 ∷ []), length-append t (10 ∷ []))

pub lines_room_law : {lines : List (List Word)} {bs : List ℕ} → Padded lines bs → length bs ≤ lines_room lines
unfolding lines_room
lines_room_law no_lines = omega arith
lines_room_law (line_then {u = u} {t = t} p r) = omega (arith, line_room_law p, lines_room_law r, length-append u t)

-- ---- a line that is too long differs
too_long : (line : List Word) (xs : List ℕ) → line_room line < length xs → carries line xs ≡ false
too_long line xs h = go (carries line xs) refl
  where
    go : (b : Bool) → carries line xs ≡ b → b ≡ false
    go true e = let room = line_room_law (carried_line line xs e) in absurd (omega arith)
    go false e = refl

differs :
    (i : ℕ) (line : List Word) (lines : List (List Word)) (bs xs : List ℕ) (more : List (List ℕ)) → listed bs ≡ xs ∷ more
    → line_room line < length xs → checked_from i (line ∷ lines) (listed bs) ≡ Err (Mismatch.Differs i)
unfolding checked_from
differs i line lines bs xs more e h =
    ap (checked_from i (line ∷ lines)) e
    ∙ choose_false (carries line xs) (checked_from (i + 1) lines more) (Err (Mismatch.Differs i)) (too_long line xs h)

-- ---- the first line of some bytes
data Opens (bs : List ℕ) : Type 0 where
  ended : (body rest : List ℕ) → clean body ≡ true → (body ++ 10 ∷ []) ++ rest ≡ bs → Opens bs
  unended : clean bs ≡ true → Opens bs

opens_more : (b : ℕ) (bs : List ℕ) → eqb b 10 ≡ false → Opens bs → Opens (b ∷ bs)
unfolding clean
opens_more b bs h (ended body rest c e) =
    ended (b ∷ body) rest (both_i _ _ (ap not h) c) (ap (λ (xs : List ℕ). b ∷ xs) e)
opens_more b bs h (unended c) = unended (both_i _ _ (ap not h) c)

opens : (bs : List ℕ) → Opens bs
unfolding clean
opens [] = unended refl
opens (b ∷ bs) = go (eqb b 10) refl (opens bs)
  where
    go : (t : Bool) → eqb b 10 ≡ t → Opens bs → Opens (b ∷ bs)
    go true e o = ended [] bs refl (ap (λ (x : ℕ). x ∷ bs) (sym (eqb-true b 10 e)))
    go false e o = opens_more b bs e o

clean_first : (m : ℕ) (bs : List ℕ) → clean bs ≡ true → clean (take m bs) ≡ true
unfolding clean
clean_first zero bs h = refl
clean_first (suc m) [] h = refl
clean_first (suc m) (b ∷ bs) h = both_i _ _ (both_l _ _ h) (clean_first m bs (both_r (not (eqb b 10)) _ h))

-- bytes without a newline are one line
front_open :
    (b : ℕ) (bs : List ℕ) (lines : List (List ℕ)) → clean (b ∷ bs) ≡ true → listed bs ≡ lines
    → listed (b ∷ bs) ≡ at_front b lines
unfolding listed clean
front_open b bs lines h e =
    choose_false (eqb b 10) ((b ∷ []) ∷ listed bs) (at_front b (listed bs)) (not-true (eqb b 10) (both_l _ _ h))
    ∙ ap (at_front b) e

listed_open : (b : ℕ) (bs : List ℕ) → clean (b ∷ bs) ≡ true → listed (b ∷ bs) ≡ (b ∷ bs) ∷ []
unfolding listed clean at_front
listed_open b [] h = front_open b [] [] h refl
listed_open b (c ∷ bs) h = front_open b (c ∷ bs) _ h (listed_open c bs (both_r (not (eqb b 10)) _ h))

listed_unended : (bs : List ℕ) → clean bs ≡ true → 1 ≤ length bs → listed bs ≡ bs ∷ []
listed_unended [] h l = absurd (omega arith)
listed_unended (b ∷ bs) h l = listed_open b bs h

-- ---- what the first bytes decide: no line is wanted
over_front : (i b : ℕ) (lines : List (List ℕ)) → checked_from i [] (at_front b lines) ≡ Err (Mismatch.LeftOver i)
unfolding at_front checked_from
over_front i b [] = refl
over_front i b (line ∷ lines) = refl

pub left_over : (i b : ℕ) (bs : List ℕ) → checked_from i [] (listed (b ∷ bs)) ≡ Err (Mismatch.LeftOver i)
unfolding listed checked_from
left_over i b bs = chosen (λ (ls : List (List ℕ)). checked_from i [] ls ≡ Err (Mismatch.LeftOver i)) (eqb b 10) _ _ (λ _. refl)
    (λ _. over_front i b (listed bs))

none_wanted : (i m : ℕ) (bs : List ℕ) → checked_from i [] (listed (take (suc m) bs)) ≡ checked_from i [] (listed bs)
none_wanted i m [] = refl
none_wanted i m (b ∷ bs) = left_over i b (take m bs) ∙ sym (left_over i b bs)

-- the first line is wanted, and those after it are decided
alike : {A : Type 0} (b : Bool) (x y z : A) → (b ≡ true → x ≡ y) → choose b x z ≡ choose b y z
unfolding choose
alike true x y z f = f refl
alike false x y z f = refl

module _
    (line : List Word) (lines : List (List Word)) (i m : ℕ) (room : line_room line + lines_room lines < m)
    (after : (j n : ℕ) (bs : List ℕ) → lines_room lines < n → checked_from j lines (listed (take n bs)) ≡ checked_from j lines (listed bs))
  where
    abbrev Decided : List ℕ → Type 0
    Decided bs = checked_from i (line ∷ lines) (listed (take m bs)) ≡ checked_from i (line ∷ lines) (listed bs)

    -- it ends within the first m bytes
    within : (body rest : List ℕ) → clean body ≡ true → length (body ++ 10 ∷ []) ≤ m → Decided ((body ++ 10 ∷ []) ++ rest)
    unfolding checked_from
    within body rest c l =
        let u : List ℕ = body ++ 10 ∷ [] in
        let n : ℕ = m - length u in
        let split : m ≡ length u + n = omega arith in
        let first : take m (u ++ rest) ≡ u ++ take n rest =
        ap (λ (k : ℕ). take k (u ++ rest)) split ∙ take-append-add u rest n in
        ap (λ (bs : List ℕ). checked_from i (line ∷ lines) (listed bs)) first
        ∙ ap (checked_from i (line ∷ lines)) (listed_body body (take n rest) c)
        ∙ alike (carries line u) (checked_from (i + 1) lines (listed (take n rest))) (checked_from (i + 1) lines (listed rest)) (Err (Mismatch.Differs i))
        (λ e. let most = line_room_law (carried_line line u e) in after (i + 1) n rest (omega (arith, most)))
        ∙ sym (ap (checked_from i (line ∷ lines)) (listed_body body rest c))

    -- the first m bytes have no newline
    cut : (bs : List ℕ) → clean bs ≡ true → m ≤ length bs → checked_from i (line ∷ lines) (listed (take m bs)) ≡ Err (Mismatch.Differs i)
    cut bs c l =
        let long = length-take-le m bs l in
        differs i line lines (take m bs) (take m bs) []
        (listed_unended (take m bs) (clean_first m bs c) (omega (arith, long))) (omega (arith, long))

    beyond : (body rest : List ℕ) → clean body ≡ true → m < length (body ++ 10 ∷ []) → Decided ((body ++ 10 ∷ []) ++ rest)
    beyond body rest c l =
        let u : List ℕ = body ++ 10 ∷ [] in
        let size = length-append body (10 ∷ []) in
        let first : take m (u ++ rest) ≡ take m body =
        take-append-le m u rest (omega arith) ∙ take-append-le m body (10 ∷ []) (omega (arith, size)) in
        ap (λ (bs : List ℕ). checked_from i (line ∷ lines) (listed bs)) first ∙ cut body c (omega (arith, size))
        ∙ sym (differs i line lines (u ++ rest) u (listed rest) (listed_body body rest c) (omega arith))

    by_line : (bs : List ℕ) → m < length bs → Opens bs → Decided bs
    by_line bs l (unended c) =
        cut bs c (omega arith) ∙ sym (differs i line lines bs bs [] (listed_unended bs c (omega arith)) (omega arith))
    by_line bs l (ended body rest c e) = subst Decided e (go (dec_le (length (body ++ 10 ∷ [])) m))
      where
        go : Dec (length (body ++ 10 ∷ []) ≤ m) → Decided ((body ++ 10 ∷ []) ++ rest)
        go (yes h) = within body rest c h
        go (no h) = beyond body rest c (omega arith)

    one_wanted : (bs : List ℕ) → Decided bs
    one_wanted bs = go (dec_le (length bs) m)
      where
        go : Dec (length bs ≤ m) → Decided bs
        go (yes h) = ap (λ (xs : List ℕ). checked_from i (line ∷ lines) (listed xs)) (take_all m bs h)
        go (no h) = by_line bs (omega arith) (opens bs)

pub decided :
    (lines : List (List Word)) (i m : ℕ) (bs : List ℕ) → lines_room lines < m
    → checked_from i lines (listed (take m bs)) ≡ checked_from i lines (listed bs)
unfolding lines_room
decided [] i zero bs h = absurd (omega arith)
decided [] i (suc m) bs h = none_wanted i m bs
decided (line ∷ lines) i m bs h = one_wanted line lines i m h (λ j n xs l. decided lines j n xs l) bs
