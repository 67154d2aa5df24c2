-- How many bytes the wanted lines take at most, every number padded to ten digits.
-- Assumes nothing.
use Prim.Native.Nat.{ℕ, zero, suc, ◌+◌, ◌*◌, ◌≤◌}
use mathlib.Core.Path.{◌≡◌, refl}
use mathlib.Core.List.{List, [], ◌∷◌, ◌++◌}
use native.Mathlib.Omega.{arith}
use native.Mathlib.Nat.{suc-mul, mul-le-mul_right, le_trans}
use lib.ListN.{length}
use Rattle.text.specs.Bytes.{bytes}
use Rattle.text.specs.Joined.{joined}
use Rattle.net.specs.Records.{field_at, tuple_at, address_of}
use Rattle.net.proofs.Every.{chosen}
use Rattle.run.specs.Run.{Outcome, refused, refused_text, ran, numbers}
use Rattle.registers.specs.Types.{Locality, Item, Tuple, Node, Net, Fault}
use Rattle.lines.specs.Words.{Word}
use Rattle.lines.specs.declared.shown.Parts.{Parts}
use Rattle.lines.specs.Shown.{unnamed}
use Rattle.lines.specs.Lines.{fewer, refusal_line, place_words, refused_line, net_line, pick_line, made_line, name_words, node_line, item_word, field_words, mark_words}
use Rattle.lines.specs.Lines.{tuple_line, tuple_lines, node_lines, address_lines, net_lines, total_line, closing_lines, after_lines}
use Rattle.lines.specs.Lines.{pick_lines}
use Rattle.registers.specs.Register.{register_lines}
use Rattle.registers.proofs.Longest.{fewer_below}
use Rattle.listing.specs.ListingClaims.{longest_listing}
use Rattle.listing.proofs.FirstBytes.{word_room, words_room, line_room, lines_room}

-- ---- parts, one after another
module _ {A : Type 0} (g : List A → ℕ) (none : g [] ≡ 0) (both : (a b : List A) → g (a ++ b) ≡ g a + g b) where
  parts : (n m : ℕ) (f : ℕ → List A) → ((i : ℕ) → g (f i) ≤ m) → g (joined n f) ≤ n * m
  unfolding joined
  parts zero m f h = omega (arith, none)
  parts (suc n) m f h =
      let product : suc n * m ≡ n * m + m = suc-mul n m in
      omega (arith, parts n m f h, h n, both (joined n f) (f n), product)

  -- so many at most
  parts_most : (n size m : ℕ) (f : ℕ → List A) → n ≤ size → ((i : ℕ) → g (f i) ≤ m) → g (joined n f) ≤ size * m
  parts_most n size m f l h = le_trans (parts n m f h) (mul-le-mul_right m l)

words_both : (a b : List Word) → words_room (a ++ b) ≡ words_room a + words_room b
unfolding words_room
words_both [] b = omega arith
words_both (w ∷ a) b = omega (arith, words_both a b)

lines_both : (a b : List (List Word)) → lines_room (a ++ b) ≡ lines_room a + lines_room b
unfolding lines_room
lines_both [] b = omega arith
lines_both (line ∷ a) b = omega (arith, lines_both a b)

no_words : words_room [] ≡ 0
unfolding words_room
no_words = refl

no_lines : lines_room [] ≡ 0
unfolding lines_room
no_lines = refl

-- ---- the lines
item_room : (x : Item) → words_room (item_word x ∷ []) ≤ 12
unfolding words_room word_room item_word
item_room (Item.Reading x) = omega arith
item_room (Item.Address l) = omega arith

fields_room : (t : Tuple) → words_room (field_words t) ≤ 4 * 12
unfolding field_words
fields_room t =
    parts_most words_room no_words words_both (fewer t.count 4) 4 12 _ (fewer_below t.count 4)
    (λ i. item_room (field_at t i))

made_room : (i b x : ℕ) → lines_room (made_line i b x ∷ []) ≤ 49
unfolding made_line pick_line lines_room line_room words_room word_room bytes
made_room i b x = omega arith

picks_room : (picks answers : List ℕ) → length picks ≤ 65536 → lines_room (pick_lines picks answers) ≤ 65536 * 49
unfolding pick_lines
picks_room picks answers l =
    parts_most lines_room no_lines lines_both (length picks) 65536 49 _ l (λ i. made_room (i + 1) _ _)

module _ (parts : Parts) where
  refused_room : (f : Fault) → line_room (refused_line parts f) ≤ 33
  unfolding refused_line place_words line_room words_room word_room bytes
  refused_room f = chosen (λ (ws : List Word). suc 7 + (suc 10 + words_room ws) ≤ 33) parts.place _ _ (λ _. omega arith) (λ _. omega arith)

  mark_room : (t : Tuple) → words_room (mark_words parts t) ≤ 16
  unfolding mark_words words_room word_room bytes
  mark_room t = chosen (λ (ws : List Word). words_room ws ≤ 16) parts.mark _ _ (λ _. omega arith) (λ _. omega arith)

  tuple_room : (a : Locality) (t : Tuple) → lines_room (tuple_line parts a t ∷ []) ≤ 81
  unfolding tuple_line lines_room line_room words_room word_room bytes
  tuple_room a t = omega (arith, words_both (field_words t) (mark_words parts t), fields_room t, mark_room t)

  node_room : (a : Locality) (x : Node) → lines_room (node_lines parts [] a x) ≤ 1334
  unfolding node_lines node_line name_words tuple_lines lines_room line_room words_room word_room bytes
  node_room a x =
      let tuples = parts_most lines_room no_lines lines_both (fewer x.stored 16) 16 81
      (λ i. tuple_line parts a (tuple_at x i) ∷ []) (fewer_below x.stored 16) (λ i. tuple_room a (tuple_at x i)) in
      omega (arith, tuples)

  nodes_room : (s : Net) → lines_room (net_lines (unnamed parts) s) ≤ 16 * 1334
  unfolding net_lines address_lines unnamed
  nodes_room s =
      parts_most lines_room no_lines lines_both (fewer s.addresses 16) 16 1334 _ (fewer_below s.addresses 16)
      (λ a. node_room (address_of a) _)

  closing_room : (s : Net) → lines_room (closing_lines parts s) ≤ 17
  unfolding closing_lines total_line lines_room line_room words_room word_room bytes
  closing_room s = chosen (λ (ls : List (List Word)). lines_room ls ≤ 17) parts.total _ _ (λ _. omega arith) (λ _. omega arith)

  after_room : (s : Net) → lines_room (after_lines (unnamed parts) s) ≤ 21361
  unfolding after_lines unnamed
  after_room s = omega (arith, lines_both (net_lines (unnamed parts) s) (closing_lines parts s), nodes_room s, closing_room s)

  pub register_room :
      (s : Net) (picks : List ℕ) (o : Outcome) → length picks ≤ 65536 → lines_room (register_lines (unnamed parts) s picks o) ≤ longest_listing
  unfolding register_lines unnamed refusal_line net_line lines_room line_room words_room word_room bytes
  register_room s picks (refused f) l = omega (arith, refused_room f)
  register_room s picks (refused_text n) l = omega arith
  register_room s picks (ran r) l =
      omega (arith, lines_both (pick_lines picks (numbers r)) (after_lines (unnamed parts) r.net), picks_room picks (numbers r) l, after_room r.net)
