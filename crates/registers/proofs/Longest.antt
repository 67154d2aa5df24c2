-- The claims of `specs/Longest.antt`. Numbers have at most 20 digits; those of a `pick` line fewer.
-- Assumes nothing.
use Prim.Native.Nat.{ℕ, zero, suc, ◌+◌, ◌*◌, ◌/◌, ◌%◌, ◌^◌, ◌<◌, ◌≤◌}
use mathlib.Core.Path.{◌≡◌, ap, ◌∙◌}
use mathlib.Core.Bool.{Bool}
use mathlib.Core.List.{List, [], ◌∷◌, ◌++◌, map}
use native.Mathlib.Omega.{arith}
use native.Mathlib.Nat.{suc-mul, mul-le-mul_right, le_trans}
use lib.ListN.{length, get_or, take, length-append, length-take}
use lib.IntN.{ℤ}
use Rattle.text.specs.Bytes.{bytes}
use Rattle.text.specs.Decimal.{signed_decimal}
use Rattle.text.specs.Joined.{joined}
use Rattle.text.proofs.DecimalLaws.{decimal_short, decimal_below}
use Rattle.net.specs.Records.{field_at, tuple_at, node_at, address_of}
use Rattle.net.specs.Choice.{choose}
use Rattle.net.proofs.Every.{chosen, chosen_lt}
use Rattle.plans.specs.Answer.{number_of}
use Rattle.step.specs.Pick.{host_of, slot_of}
use Rattle.run.specs.Run.{Ran, Outcome, refused, refused_text, ran, numbers}
use Rattle.registers.specs.Types.{Parts, Locality, Item, Tuple, Node, Net, Answer, Fault}
use Rattle.lines.specs.Words.{Word, name, number, word_text, spaced, line_text, printed}
use Rattle.lines.specs.Shown.{Shown, unnamed, named, all_parts, current}
use Rattle.lines.specs.Lines.{fewer, refusal_line, place_words, refused_line, net_line, pick_line, made_line, name_words, node_line}
use Rattle.lines.specs.Lines.{item_word, field_words, mark_words, tuple_line, tuple_lines, node_lines, address_lines, net_lines, pick_lines}
use Rattle.registers.specs.Register.{register_lines, register_in, register_as, register_of, register_text_as, register_text_of}
use Rattle.lines.specs.Lines.{tuple_count, total_line, closing_lines, after_lines}
use Rattle.names.proofs.NameClaims.{name_is_short}
use Rattle.registers.specs.Register.{named_register_of, named_register_text_of}
use Rattle.registers.specs.Longest.{longest, LongestShowing, LongestNamed, LongestRegister, LongestTextRegister}
use Rattle.lines.proofs.WordLaws.{spaced_none, spaced_both, printed_none, printed_both}

-- ---- numbers
pub fewer_below : (count size : ℕ) → fewer count size ≤ size
unfolding fewer
fewer_below count size = chosen_lt (λ (n : ℕ). n ≤ size) count size _ _ (λ l. omega arith) (λ l. omega arith)

-- ---- words
item_short : (x : Item) → length (word_text (item_word x)) ≤ 21
unfolding word_text item_word signed_decimal
item_short (Item.Reading (ℤ.pos n)) = omega (arith, decimal_short n)
item_short (Item.Reading (ℤ.negsuc n)) = omega (arith, decimal_short (n + 1))
item_short (Item.Address l) = omega (arith, decimal_short l.0)

no_words : length (spaced []) ≤ 0
unfolding spaced
no_words = omega arith

word_more :
    (w : Word) (ws : List Word) (m rest : ℕ) → length (word_text w) ≤ m → length (spaced ws) ≤ rest
    → length (spaced (w ∷ ws)) ≤ suc m + rest
unfolding spaced
word_more w ws m rest h g = omega (arith, length-append (word_text w) (spaced ws))

-- words that may be left out
some_or_none : (t : Bool) (ws : List Word) (m : ℕ) → length (spaced ws) ≤ m → length (spaced (choose t ws [])) ≤ m
some_or_none t ws m h = chosen (λ (vs : List Word). length (spaced vs) ≤ m) t ws [] (λ _. h) (λ _. omega (arith, no_words))

number_more : (n : ℕ) (ws : List Word) (rest : ℕ) → length (spaced ws) ≤ rest → length (spaced (number n ∷ ws)) ≤ 21 + rest
unfolding word_text
number_more n ws rest h = word_more (number n) ws 20 rest (decimal_short n) h

number_below :
    (j n : ℕ) (ws : List Word) (rest : ℕ) → n < 10 ^ suc j → length (spaced ws) ≤ rest
    → length (spaced (number n ∷ ws)) ≤ suc (suc j) + rest
unfolding word_text
number_below j n ws rest h g = word_more (number n) ws (suc j) rest (decimal_below j n h) g

line_short :
    (text : List ℕ) (ws : List Word) (m : ℕ) → length (spaced ws) ≤ m
    → length (printed ((name text ∷ ws) ∷ [])) ≤ length text + m + 1
unfolding printed line_text word_text
line_short text ws m h =
    let words = length-append (spaced ws) (10 ∷ []) in
    let line = length-append text (spaced ws ++ 10 ∷ []) in
    let whole = length-append (text ++ (spaced ws ++ 10 ∷ [])) [] in
    omega (arith, words, line, whole)

-- ---- parts, one after another
module _ {B : Type 0} (g : List B → List ℕ) (none : g [] ≡ []) (both : (a b : List B) → g (a ++ b) ≡ g a ++ g b) where
  two_short : (a b : List B) (m n : ℕ) → length (g a) ≤ m → length (g b) ≤ n → length (g (a ++ b)) ≤ m + n
  two_short a b m n h k =
      let whole = ap length (both a b) ∙ length-append (g a) (g b) in
      omega (arith, whole)

  parts_short : (n m : ℕ) (f : ℕ → List B) → ((i : ℕ) → i < n → length (g (f i)) ≤ m) → length (g (joined n f)) ≤ n * m
  unfolding joined
  parts_short zero m f h = omega (arith, ap length none)
  parts_short (suc n) m f h =
      let before = parts_short n m f (λ i l. h i (omega arith)) in
      let last = two_short (joined n f) (f n) (n * m) m before (h n (omega arith)) in
      let product : suc n * m ≡ n * m + m = suc-mul n m in
      omega (arith, last, product)

  -- so many at most
  some_short :
      (count size m : ℕ) (f : ℕ → List B) → ((i : ℕ) → i < size → length (g (f i)) ≤ m)
      → length (g (joined (fewer count size) f)) ≤ size * m
  some_short count size m f h =
      let few = fewer_below count size in
      let some = parts_short (fewer count size) m f (λ i l. h i (omega (arith, few))) in
      le_trans some (mul-le-mul_right m few)

-- a line, and more after it
lines_short :
    (line : List Word) (lines : List (List Word)) (m n : ℕ) → length (printed (line ∷ [])) ≤ m → length (printed lines) ≤ n
    → length (printed (line ∷ lines)) ≤ m + n
lines_short line lines m n h k = two_short printed printed_none printed_both (line ∷ []) lines m n h k

-- ---- the lines
refused_short : (n : ℕ) → length (printed (refusal_line n ∷ [])) ≤ 29
unfolding refusal_line bytes
refused_short n = line_short _ _ 21 (number_more _ _ 0 no_words)

place_short : (parts : Parts) (f : Fault) → length (spaced (place_words parts f)) ≤ 24
unfolding place_words bytes word_text
place_short parts f =
    some_or_none parts.place _ 24 (word_more (name _) _ 2 21 (omega arith) (number_more _ _ 0 no_words))

refused_at_short : (parts : Parts) (f : Fault) → length (printed (refused_line parts f ∷ [])) ≤ 53
unfolding refused_line bytes
refused_at_short parts f = line_short _ _ 45 (number_more _ _ 24 (place_short parts f))

net_short : (n k : ℕ) → length (printed (net_line n k ∷ [])) ≤ 46
unfolding net_line bytes
net_short n k = line_short _ _ 42 (number_more _ _ 21 (number_more _ _ 0 no_words))

name_short : (station : List ℕ) → length station ≤ 15 → length (spaced (name_words station)) ≤ 16
unfolding name_words word_text
name_short [] h = omega (arith, no_words)
name_short (b ∷ text) h = word_more (name (b ∷ text)) [] 15 0 h no_words

node_short : (station : List ℕ) (a : Locality) (n busy : ℕ) → length station ≤ 15 → length (printed (node_line station a n busy ∷ [])) ≤ 84
unfolding node_line bytes
node_short station a n busy h =
    line_short _ _ 79 (number_more _ _ 58 (number_more _ _ 37 (number_more _ _ 16 (name_short station h))))

made_short : (i b x : ℕ) → i < 100000 → b < 256 → x < 100 → length (printed (made_line i b x ∷ [])) ≤ 19
unfolding made_line pick_line host_of slot_of bytes
made_short i b x h g l =
    line_short _ _ 14
    (number_below 4 i _ 8 h
    (number_below 1 (b / 16) _ 5 (omega arith)
    (number_below 0 (b / 4 % 4) _ 3 (omega arith) (number_below 1 x _ 0 l no_words))))

fields_short : (t : Tuple) → length (spaced (field_words t)) ≤ 88
unfolding field_words
fields_short t =
    some_short spaced spaced_none spaced_both t.count 4 22 _ (λ i _. word_more _ _ 21 0 (item_short (field_at t i)) no_words)

mark_short : (parts : Parts) (t : Tuple) → length (spaced (mark_words parts t)) ≤ 26
unfolding mark_words bytes word_text
mark_short parts t =
    some_or_none parts.mark _ 26 (word_more (name _) _ 4 21 (omega arith) (number_more _ _ 0 no_words))

tuple_short : (parts : Parts) (a : Locality) (t : Tuple) → length (printed (tuple_line parts a t ∷ [])) ≤ 141
unfolding tuple_line bytes
tuple_short parts a t =
    line_short _ _ 135
    (number_more _ _ 114 (two_short spaced spaced_none spaced_both _ _ _ _ (fields_short t) (mark_short parts t)))

tuples_short : (parts : Parts) (a : Locality) (x : Node) → length (printed (tuple_lines parts a x)) ≤ 2256
unfolding tuple_lines
tuples_short parts a x =
    some_short printed printed_none printed_both x.stored 16 141 _ (λ i _. tuple_short parts a (tuple_at x i))

-- of names that are no longer than an entry's
module _ (shown : Shown) (short : (l : Locality) → length (shown.names l) ≤ 15) where
  address_short : (s : Net) (a : Locality) → length (printed (address_lines shown s a)) ≤ 2340
  unfolding address_lines node_lines
  address_short s a =
      lines_short _ _ 84 2256 (node_short (shown.names a) a _ _ (short a)) (tuples_short shown.parts a (node_at s a))

  net_lines_short : (s : Net) → length (printed (net_lines shown s)) ≤ 37440
  unfolding net_lines
  net_lines_short s =
      some_short printed printed_none printed_both s.addresses 16 2340 _
      (λ a _. address_short s (address_of a))

total_short : (n : ℕ) → length (printed (total_line n ∷ [])) ≤ 27
unfolding total_line bytes
total_short n = line_short _ _ 21 (number_more _ _ 0 no_words)

closing_short : (parts : Parts) (s : Net) → length (printed (closing_lines parts s)) ≤ 27
unfolding closing_lines
closing_short parts s =
    chosen (λ (ls : List (List Word)). length (printed ls) ≤ 27) parts.total _ _ (λ _. total_short (tuple_count s))
    (λ _. omega (arith, ap length printed_none))

-- ---- the picks
number_small : (x : Answer) → number_of x < 100
unfolding number_of
number_small Answer.Performed = omega arith
number_small Answer.Ended = omega arith
number_small Answer.NoTuple = omega arith
number_small Answer.NoRoom = omega arith
number_small Answer.NoRight = omega arith
number_small Answer.NotWithin = omega arith
number_small Answer.NotSet = omega arith
number_small Answer.FreeSlot = omega arith
number_small Answer.NotInUse = omega arith
number_small Answer.Malformed = omega arith
number_small Answer.Unsound = omega arith

pub answers_small : (xs : List Answer) (i : ℕ) → get_or (map number_of xs) i 0 < 100
answers_small [] i = omega arith
answers_small (x ∷ xs) zero = number_small x
answers_small (x ∷ xs) (suc i) = answers_small xs i

pub take_small : (picks : List ℕ) (n : ℕ) → ((i : ℕ) → get_or picks i 0 < 256) → (i : ℕ) → get_or (take n picks) i 0 < 256
take_small picks zero h i = omega arith
take_small [] (suc n) h i = omega arith
take_small (b ∷ bs) (suc n) h zero = h 0
take_small (b ∷ bs) (suc n) h (suc i) = take_small bs n (λ j. h (suc j)) i

picks_short :
    (picks : List ℕ) (r : Ran) → length picks ≤ 65536 → ((i : ℕ) → get_or picks i 0 < 256)
    → length (printed (pick_lines picks (numbers r))) ≤ 1245184
unfolding pick_lines numbers
picks_short picks r h g =
    let each = parts_short printed printed_none printed_both (length picks) 19 _
    (λ i l. made_short (i + 1) _ _ (omega arith) (g i) (answers_small r.answers i)) in
    le_trans each (mul-le-mul_right 19 h)

module _ (shown : Shown) (short : (l : Locality) → length (shown.names l) ≤ 15) where
  after_short : (s : Net) → length (printed (after_lines shown s)) ≤ 37467
  unfolding after_lines
  after_short s =
      two_short printed printed_none printed_both _ _ 37440 27 (net_lines_short shown short s) (closing_short shown.parts s)

  register_short :
      (s : Net) (picks : List ℕ) (x : Outcome) → length picks ≤ 65536 → ((i : ℕ) → get_or picks i 0 < 256)
      → length (register_in shown s picks x) ≤ longest
  unfolding register_in register_lines longest
  register_short s picks (refused f) h g = omega (arith, refused_at_short shown.parts f)
  register_short s picks (refused_text n) h g = omega (arith, refused_short n)
  register_short s picks (ran r) h g =
      let rest = two_short printed printed_none printed_both _ _ _ _ (picks_short picks r h g) (after_short r.net) in
      let whole = lines_short _ _ 46 _ (net_short s.addresses s.length) rest in
      omega (arith, whole)

  -- of which the first 65,536 count
  first_short :
      (s : Net) (picks : List ℕ) (x : Outcome) → ((i : ℕ) → get_or picks i 0 < 256)
      → length (register_in shown s (take 65536 picks) x) ≤ longest
  first_short s picks x h =
      register_short s (take 65536 picks) x (omega (arith, length-take 65536 picks)) (take_small picks 65536 h)

no_names_short : (parts : Parts) (l : Locality) → length ((unnamed parts).names l) ≤ 15
unfolding unnamed
no_names_short parts l = omega arith

pub longest_showing : LongestShowing
unfolding LongestShowing register_as
longest_showing parts image picks h = first_short (unnamed parts) (no_names_short parts) _ picks _ h

-- no name is longer than an entry's
named_short : (parts : Parts) (site office : List ℕ) (l : Locality) → length ((named parts site office).names l) ≤ 15
unfolding named
named_short parts site office l = name_is_short.few site office l

pub longest_named : LongestNamed
unfolding named_register_of register_as named_register_text_of register_text_as
longest_named = record {
  of_image = λ site office image picks h. first_short (named all_parts site office) (named_short all_parts site office) _ picks _ h;
  of_text = λ site office text picks h. first_short (named all_parts site office) (named_short all_parts site office) _ picks _ h;
}

pub longest_register : LongestRegister
unfolding LongestRegister LongestShowing register_of current
longest_register image picks h = longest_showing all_parts image picks h

pub longest_text_register : LongestTextRegister
unfolding LongestTextRegister register_text_of register_text_as current
longest_text_register text picks h = first_short (unnamed all_parts) (no_names_short all_parts) _ picks _ h
