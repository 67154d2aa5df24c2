-- Laws of words and lines as they are written (`specs/Words.antt`). Assumes nothing.
use Prim.Native.Nat.{ℕ, zero, suc, ◌+◌, ◌≤◌}
use mathlib.Core.Path.{◌≡◌, refl, sym, ap, subst, ◌∙◌}
use mathlib.Core.List.{List, [], ◌∷◌, ◌++◌, append-nil, append_assoc}
use native.Mathlib.Omega.{arith}
use Rattle.text.specs.Joined.{joined}
use Rattle.text.specs.Writing.{Wrote}
use Rattle.text.proofs.WritingLaws.{wrote_then, joined_none, joined_more}
use Rattle.std.proofs.Common.{◌<◌, length, map, take, get_or, min, add-one}
use Rattle.std.specs.Prelude.{ltb}
use native.Mathlib.Decide.{dec_le}
use borrow.Author.Tests.{lt-ltb, le-ltb}
use lib.Seq.{take-suc}
use Rattle.std.proofs.lemmas.List.{map-append}
use Rattle.net.specs.Choice.{choose}
use Rattle.net.proofs.Laws.{choose_true, choose_false}
use Rattle.text.specs.declared.writer.Writer.{Writer}
use Rattle.text.specs.Writer.{after}
use Rattle.text.proofs.WriterLaws.{after_none, after_both, joined_step}
use mathlib.Core.Bool.{true, false}
use lib.IntN.{ℤ}
use mir.Syntax.{w32}
use mir.Val.{SFits, to_z, of_z}
use mir.Facts.{to_z-of_z}
use Rattle.text.specs.Bytes.{bytes}
use Rattle.text.specs.Decimal.{decimal, signed_decimal}
use Rattle.lines.specs.Types.{Locality, Item, Tuple, Node, Net, Fault}
use Rattle.lines.specs.Shown.{Parts, named, named_after}
use Rattle.net.specs.Records.{process_count}
use Rattle.names.specs.Names.{names_fault, name_of}
use Rattle.lines.specs.Lines.{fewer, item_word, place_words, mark_words, name_words, made_line, pick_lines, node_line, tuple_lines, node_lines, net_lines, tuple_count, total_line, closing_lines, after_lines}
use Rattle.lines.specs.Words.{Word, name, number, word_text, spaced, line_text, printed}

-- a count or a size
pub fewer_min : (count size : ℕ) → fewer count size ≡ min count size
unfolding fewer
fewer_min count size = go (dec_le size count)
  where
    go : Dec (size ≤ count) → choose (ltb count size) count size ≡ min count size
    go (yes p) = choose_false _ _ _ (le-ltb count size p) ∙ omega arith
    go (no p) = choose_true _ _ _ (lt-ltb count size (omega arith)) ∙ omega arith

-- ---- a word, as a further one of its line
pub spaced_word :
    (xs : List ℕ) (at : ℕ) (w : Word) (ys : List ℕ) (r : ℕ) → Wrote xs at (32 ∷ word_text w) ys r
    → Wrote xs at (spaced (w ∷ [])) ys r
unfolding spaced
spaced_word xs at w ys r h = subst (λ (t : List ℕ). Wrote xs at (32 ∷ t) ys r) (sym (append-nil (word_text w))) h

-- ---- words and lines, one after another
pub spaced_none : spaced [] ≡ []
unfolding spaced
spaced_none = refl

pub spaced_both : (a b : List Word) → spaced (a ++ b) ≡ spaced a ++ spaced b
unfolding spaced
spaced_both [] b = refl
spaced_both (w ∷ a) b =
    ap (λ (t : List ℕ). 32 ∷ (word_text w ++ t)) (spaced_both a b)
    ∙ ap (λ (t : List ℕ). 32 ∷ t) (sym (append_assoc (word_text w) (spaced a) (spaced b)))

pub printed_none : printed [] ≡ []
unfolding printed
printed_none = refl

pub printed_both : (a b : List (List Word)) → printed (a ++ b) ≡ printed a ++ printed b
unfolding printed
printed_both [] b = refl
printed_both (line ∷ a) b =
    ap (λ (t : List ℕ). line_text line ++ t) (printed_both a b)
    ∙ sym (append_assoc (line_text line) (printed a) (printed b))

-- the text of a list is that of its parts, one after another
module _
    {A B : Type 0} (g : List B → List A) (none : g [] ≡ []) (both : (a b : List B) → g (a ++ b) ≡ g a ++ g b)
    (xs : List A) (at : ℕ)
  where
    pub parts_then :
        (a b : List B) (ys zs : List A) (r q : ℕ) → Wrote xs at (g a) ys r → Wrote ys r (g b) zs q
        → Wrote xs at (g (a ++ b)) zs q
    parts_then a b ys zs r q h k =
        subst (λ (t : List A). Wrote xs at t zs q) (sym (both a b)) (wrote_then xs at (g a) (g b) ys zs r q h k)

    module _ (f : ℕ → List B) where
      texts : (n : ℕ) → joined n (λ i. g (f i)) ≡ g (joined n f)
      unfolding joined
      texts zero = sym none
      texts (suc n) = ap (λ (t : List A). t ++ g (f n)) (texts n) ∙ sym (both (joined n f) (f n))

      pub parts_none : Wrote xs at (g (joined 0 f)) xs at
      parts_none = subst (λ (t : List A). Wrote xs at t xs at) (texts 0) (joined_none xs at (λ i. g (f i)))

      pub parts_more :
          (i : ℕ) (ys zs : List A) (r q : ℕ) → Wrote xs at (g (joined i f)) ys r → Wrote ys r (g (f i)) zs q
          → Wrote xs at (g (joined (i + 1) f)) zs q
      parts_more i ys zs r q h k =
          subst (λ (t : List A). Wrote xs at t zs q) (texts (i + 1))
          (joined_more xs at (λ j. g (f j)) i ys zs r q (subst (λ (t : List A). Wrote xs at t ys r) (sym (texts i)) h) k)

      pub parts_end :
          (i n : ℕ) (ys : List A) (r : ℕ) → Wrote xs at (g (joined i f)) ys r → i ≤ n → n ≤ i → Wrote xs at (g (joined n f)) ys r
      parts_end i n ys r h l m =
          let same : i ≡ n = omega arith in
          subst (λ (j : ℕ). Wrote xs at (g (joined j f)) ys r) same h

      -- up to a count that a callee gave
      pub parts_upto :
          (i n count : ℕ) (ys : List A) (r : ℕ) → Wrote xs at (g (joined i f)) ys r → i ≤ n → n ≤ i → n ≡ count
          → Wrote xs at (g (joined count f)) ys r
      parts_upto i n count ys r h l m e =
          subst (λ (j : ℕ). Wrote xs at (g (joined j f)) ys r) e (parts_end i n ys r h l m)

-- a line, and more after it
pub lines_then :
    (xs : List ℕ) (at : ℕ) (line : List Word) (lines : List (List Word)) (ys zs : List ℕ) (r q : ℕ)
    → Wrote xs at (printed (line ∷ [])) ys r → Wrote ys r (printed lines) zs q → Wrote xs at (printed (line ∷ lines)) zs q
lines_then xs at line lines ys zs r q h k =
    parts_then printed printed_none printed_both xs at (line ∷ []) lines ys zs r q h k

-- words, and more after them
pub spaced_then :
    (xs : List ℕ) (at : ℕ) (a b : List Word) (ys zs : List ℕ) (r q : ℕ) → Wrote xs at (spaced a) ys r → Wrote ys r (spaced b) zs q
    → Wrote xs at (spaced (a ++ b)) zs q
spaced_then xs at a b ys zs r q h k = parts_then spaced spaced_none spaced_both xs at a b ys zs r q h k

-- a name
pub spaced_name :
    (xs : List ℕ) (at : ℕ) (text ys zs : List ℕ) (r q : ℕ) → Wrote xs at (32 ∷ []) ys r → Wrote ys r text zs q
    → Wrote xs at (spaced (name text ∷ [])) zs q
unfolding word_text
spaced_name xs at text ys zs r q h k = spaced_word xs at (name text) zs q (wrote_then xs at (32 ∷ []) text ys zs r q h k)

-- a word, and more after it
pub spaced_more :
    (xs : List ℕ) (at : ℕ) (w : Word) (ws : List Word) (ys zs : List ℕ) (r q : ℕ) → Wrote xs at (spaced (w ∷ [])) ys r
    → Wrote ys r (spaced ws) zs q → Wrote xs at (spaced (w ∷ ws)) zs q
spaced_more xs at w ws ys zs r q h k = parts_then spaced spaced_none spaced_both xs at (w ∷ []) ws ys zs r q h k

-- ---- a line: its name, its other words and its end
module _ (xs₀ : List ℕ) (at : ℕ) (text xs₁ : List ℕ) (r₁ : ℕ) (h : Wrote xs₀ at text xs₁ r₁) where
  pub line_words_law :
      (ws : List Word) (xs₂ zs : List ℕ) (r₂ q : ℕ) → Wrote xs₁ r₁ (spaced ws) xs₂ r₂ → Wrote xs₂ r₂ (10 ∷ []) zs q
      → Wrote xs₀ at (printed ((name text ∷ ws) ∷ [])) zs q
  unfolding printed line_text word_text
  line_words_law ws xs₂ zs r₂ q h₁ k =
      subst (λ (t : List ℕ). Wrote xs₀ at t zs q) (sym (append-nil (text ++ (spaced ws ++ 10 ∷ []))))
      (wrote_then xs₀ at text (spaced ws ++ 10 ∷ []) xs₁ zs r₁ q h
      (wrote_then xs₁ r₁ (spaced ws) (10 ∷ []) xs₂ zs r₂ q h₁ k))

  pub line_word_then :
      (w : Word) (ws : List Word) (xs₂ xs₃ zs : List ℕ) (r₂ r₃ q : ℕ) → Wrote xs₁ r₁ (spaced (w ∷ [])) xs₂ r₂
      → Wrote xs₂ r₂ (spaced ws) xs₃ r₃ → Wrote xs₃ r₃ (10 ∷ []) zs q
      → Wrote xs₀ at (printed ((name text ∷ w ∷ ws) ∷ [])) zs q
  line_word_then w ws xs₂ xs₃ zs r₂ r₃ q h₁ h₂ k =
      line_words_law (w ∷ ws) xs₃ zs r₃ q
      (parts_then spaced spaced_none spaced_both xs₁ r₁ (w ∷ []) ws xs₂ xs₃ r₂ r₃ h₁ h₂) k

  pub line_two_then :
      (w v : Word) (ws : List Word) (xs₂ xs₃ zs : List ℕ) (r₂ r₃ q : ℕ) → Wrote xs₁ r₁ (spaced (w ∷ v ∷ [])) xs₂ r₂
      → Wrote xs₂ r₂ (spaced ws) xs₃ r₃ → Wrote xs₃ r₃ (10 ∷ []) zs q
      → Wrote xs₀ at (printed ((name text ∷ w ∷ v ∷ ws) ∷ [])) zs q
  line_two_then w v ws xs₂ xs₃ zs r₂ r₃ q h₁ h₂ k =
      line_words_law (w ∷ v ∷ ws) xs₃ zs r₃ q
      (parts_then spaced spaced_none spaced_both xs₁ r₁ (w ∷ v ∷ []) ws xs₂ xs₃ r₂ r₃ h₁ h₂) k

  pub line_counts_then :
      (w v u : Word) (ws : List Word) (xs₂ xs₃ zs : List ℕ) (r₂ r₃ q : ℕ) → Wrote xs₁ r₁ (spaced (w ∷ v ∷ u ∷ [])) xs₂ r₂
      → Wrote xs₂ r₂ (spaced ws) xs₃ r₃ → Wrote xs₃ r₃ (10 ∷ []) zs q
      → Wrote xs₀ at (printed ((name text ∷ w ∷ v ∷ u ∷ ws) ∷ [])) zs q
  line_counts_then w v u ws xs₂ xs₃ zs r₂ r₃ q h₁ h₂ k =
      line_words_law (w ∷ v ∷ u ∷ ws) xs₃ zs r₃ q
      (parts_then spaced spaced_none spaced_both xs₁ r₁ (w ∷ v ∷ u ∷ []) ws xs₂ xs₃ r₂ r₃ h₁ h₂) k

-- ---- by a writer
-- a word
pub spaced_is : (w v : Writer ℕ) (x : Word) → v ≡ after w (32 ∷ word_text x) → v ≡ after w (spaced (x ∷ []))
unfolding spaced
spaced_is w v x e = rw (e, append-nil) refl

-- words, and more after them
pub words_then : (w v u : Writer ℕ) (a b : List Word) → v ≡ after w (spaced a) → u ≡ after v (spaced b) → u ≡ after w (spaced (a ++ b))
words_then w v u a b d e = rw (e, d, after_both, spaced_both) refl

pub lines_after :
    (w v u : Writer ℕ) (a b : List (List Word)) → v ≡ after w (printed a) → u ≡ after v (printed b) → u ≡ after w (printed (a ++ b))
lines_after w v u a b d e = rw (e, d, after_both, printed_both) refl

-- a line: its name and its numbers, its other words and its end
pub line_ends :
    (w v z : Writer ℕ) (text ns : List ℕ) → v ≡ after w (text ++ spaced (map number ns)) → z ≡ after v (10 ∷ [])
    → z ≡ after w (printed ((name text ∷ map number ns) ∷ []))
unfolding printed line_text word_text
line_ends w v z text ns d e = rw (e, d, after_both, append-nil, append_assoc) refl

module _ (w v u z : Writer ℕ) (text ns : List ℕ) where
  pub line_is :
      (ws : List Word) → v ≡ after w (text ++ spaced (map number ns)) → u ≡ after v (spaced ws) → z ≡ after u (10 ∷ [])
      → z ≡ after w (printed ((name text ∷ (map number ns ++ ws)) ∷ []))
  unfolding printed line_text word_text
  line_is ws d e h = rw (h, e, d, after_both, after_both, append-nil, spaced_both, append_assoc, append_assoc) refl

-- numbers, one after another
pub numbers_more :
    (w v u : Writer ℕ) (i : ℕ) (ns : List ℕ) (n : ℕ) → v ≡ after w (spaced (map number (take i ns))) → i < length ns → n ≡ get_or ns i n
    → u ≡ after v (spaced (number n ∷ [])) → u ≡ after w (spaced (map number (take (i + 1) ns)))
numbers_more w v u i ns n d h x e =
    let t : take (i + 1) ns ≡ take i ns ++ get_or ns i n ∷ [] = ap (λ (j : ℕ). take j ns) (add-one i) ∙ take-suc ns i n h in
    rw (e, d, after_both, t, ← x, map-append, spaced_both) refl

-- parts in a loop, up to a count or a size
module _ (w v : Writer ℕ) (i n count size : ℕ) where
  pub words_upto :
      (f : ℕ → List Word) → v ≡ after w (joined i (λ j. spaced (f j))) → i ≤ n → n ≤ i → n ≡ min count size
      → v ≡ after w (spaced (joined (fewer count size) f))
  words_upto f e l m s =
      let k : i ≡ fewer count size = rw fewer_min (omega arith) in rw (← k, e, texts spaced spaced_none spaced_both [] 0 f i) refl

  pub lines_upto :
      (f : ℕ → List (List Word)) → v ≡ after w (joined i (λ j. printed (f j))) → i ≤ n → n ≤ i → n ≡ min count size
      → v ≡ after w (printed (joined (fewer count size) f))
  lines_upto f e l m s =
      let k : i ≡ fewer count size = rw fewer_min (omega arith) in rw (← k, e, texts printed printed_none printed_both [] 0 f i) refl

-- ---- a tuple's field
pub item_reading :
    (w v u : Writer ℕ) (item : Item) (x : ℤ) → SFits w32 x → item ≡ Item.Reading x → v ≡ after w (32 ∷ []) → u ≡ after v (signed_decimal (to_z w32 (of_z w32 x)))
    → u ≡ after w (spaced (item_word item ∷ []))
unfolding item_word word_text
item_reading w v u item x s i d e =
    spaced_is w u (item_word item) (rw (e, d, i, to_z-of_z s, after_both) refl)

pub item_address :
    (w v u z : Writer ℕ) (item : Item) (l : Locality) → item ≡ Item.Address l → v ≡ after w (32 ∷ []) → u ≡ after v (64 ∷ []) → z ≡ after u (decimal l.0)
    → z ≡ after w (spaced (item_word item ∷ []))
unfolding item_word word_text
item_address w v u z item l i d e h = spaced_is w z (item_word item) (rw (h, e, d, i, after_both, after_both) refl)

-- ---- what may be left out
module _ (w v u : Writer ℕ) (parts : Parts) where
  pub place_shown :
      (f : Fault) → parts.place ≡ true → v ≡ after w (spaced (name (bytes "at") ∷ [])) → u ≡ after v (spaced (number f.place ∷ []))
      → u ≡ after w (spaced (place_words parts f))
  unfolding place_words
  place_shown f t d e = rw (e, d, after_both, t, ← spaced_both, choose_true _ _ _ refl) refl

  pub mark_shown :
      (t : Tuple) → parts.mark ≡ true → v ≡ after w (spaced (name (bytes "from") ∷ [])) → u ≡ after v (spaced (number t.mark.0 ∷ []))
      → u ≡ after w (spaced (mark_words parts t))
  unfolding mark_words
  mark_shown t h d e = rw (e, d, after_both, h, ← spaced_both, choose_true _ _ _ refl) refl

module _ (w : Writer ℕ) (parts : Parts) where
  pub place_left : (f : Fault) → parts.place ≡ false → w ≡ after w (spaced (place_words parts f))
  unfolding place_words spaced
  place_left f t = rw (t, choose_false _ _ _ refl, after_none) refl

  pub mark_left : (t : Tuple) → parts.mark ≡ false → w ≡ after w (spaced (mark_words parts t))
  unfolding mark_words spaced
  mark_left t h = rw (h, choose_false _ _ _ refl, after_none) refl

-- a station's name
module _ (w v : Writer ℕ) (station : List ℕ) where
  pub station_shown : v ≡ after w (spaced (name station ∷ [])) → 0 < length station → v ≡ after w (spaced (name_words station))
  unfolding name_words
  station_shown e h = go station h e
    where
      go : (t : List ℕ) → 0 < length t → v ≡ after w (spaced (name t ∷ [])) → v ≡ after w (spaced (name_words t))
      go [] l d = absurd (omega arith)
      go (b ∷ text) l d = d

module _ (w : Writer ℕ) where
  pub station_left : (station : List ℕ) → length station ≡ 0 → w ≡ after w (spaced (name_words station))
  unfolding name_words spaced
  station_left [] h = rw after_none refl
  station_left (b ∷ text) h = absurd (omega arith)

-- ---- picks
module _ (w v u : Writer ℕ) (picks answers : List ℕ) (i : ℕ) where
  pub picks_step :
      (b answer : ℕ) → v ≡ after w (joined i (λ j. printed (made_line (j + 1) (get_or picks j 0) (get_or answers j 0) ∷ [])))
      → b ≡ get_or picks i 0 → answer ≡ get_or answers i 0 → u ≡ after v (printed (made_line (i + 1) b answer ∷ []))
      → u ≡ after w (joined (i + 1) (λ j. printed (made_line (j + 1) (get_or picks j 0) (get_or answers j 0) ∷ [])))
  picks_step b answer d x y e = joined_step w (λ j. printed (made_line (j + 1) (get_or picks j 0) (get_or answers j 0) ∷ [])) v u i d (rw (e, x, y) refl)

pub picks_end :
    (w v : Writer ℕ) (picks answers : List ℕ) (i : ℕ) → v ≡ after w (joined i (λ j. printed (made_line (j + 1) (get_or picks j 0) (get_or answers j 0) ∷ [])))
    → i ≤ length picks → length picks ≤ i → v ≡ after w (printed (pick_lines picks answers))
unfolding pick_lines
picks_end w v picks answers i e l m =
    let k : i ≡ length picks = omega arith in
    rw (← k, e, texts printed printed_none printed_both [] 0 (λ j. made_line (j + 1) (get_or picks j 0) (get_or answers j 0) ∷ []) i) refl

-- ---- a node, and what follows
pub node_lines_law :
    (w v u : Writer ℕ) (parts : Parts) (station : List ℕ) (a : Locality) (x : Node) (busy : ℕ) → busy ≡ process_count x
    → v ≡ after w (printed (node_line station a x.stored busy ∷ [])) → u ≡ after v (printed (tuple_lines parts a x))
    → u ≡ after w (printed (node_lines parts station a x))
unfolding node_lines
node_lines_law w v u parts station a x busy e h k = lines_after w v u (node_line station a x.stored (process_count x) ∷ []) (tuple_lines parts a x) (rw (← e) h) k

module _ (w v : Writer ℕ) (parts : Parts) (s : Net) where
  pub closing_shown :
      (n : ℕ) → parts.total ≡ true → n ≡ tuple_count s → v ≡ after w (printed ((name (bytes "total") ∷ number n ∷ []) ∷ []))
      → v ≡ after w (printed (closing_lines parts s))
  unfolding closing_lines total_line
  closing_shown n t e h = rw (t, ← e, choose_true _ _ _ refl) h

pub closing_left : (w : Writer ℕ) (parts : Parts) (s : Net) → parts.total ≡ false → w ≡ after w (printed (closing_lines parts s))
unfolding closing_lines printed
closing_left w parts s t = rw (t, choose_false _ _ _ refl, after_none) refl

-- after the test of the lists
pub after_law :
    (w v u : Writer ℕ) (parts : Parts) (site office : List ℕ) (s : Net) (n : ℕ) → n ≡ names_fault site office
    → v ≡ after w (printed (net_lines (named_after n parts site office) s)) → u ≡ after v (printed (closing_lines parts s))
    → u ≡ after w (printed (after_lines (named parts site office) s))
unfolding after_lines named named_after name_of
after_law w v u parts site office s n z e h = lines_after w v u (net_lines (named_after (names_fault site office) parts site office) s) (closing_lines parts s)
    (subst (λ (m : ℕ). v ≡ after w (printed (net_lines (named_after m parts site office) s))) z e) h
