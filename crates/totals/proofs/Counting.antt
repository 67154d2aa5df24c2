-- The tuple lines of a register, counted in its bytes, are the tuples that its last line gives. Assumes nothing.
use Prim.Native.Nat.{ℕ, ◌+◌}
use mathlib.Core.Path.{◌≡◌, refl, sym, ap, subst, ◌∙◌}
use mathlib.Core.List.{List, [], ◌∷◌, ◌++◌, append-nil, append_assoc}
use native.Mathlib.Omega.{arith}
use Rattle.net.specs.Choice.{choose, both}
use Rattle.net.specs.Records.{field_at, tuple_at, node_at, address_of}
use Rattle.text.specs.Bytes.{bytes}
use Rattle.run.specs.Run.{Ran, ran, numbers}
use Rattle.registers.specs.Types.{Locality, Tuple, Node, Net}
use Rattle.lines.specs.Words.{Word, word_text, spaced, printed}
use Rattle.lines.specs.Shown.{Shown, all_parts}
use Rattle.lines.specs.Lines.{fewer, net_line, pick_line, made_line, name_words, node_line, field_words, tuple_line, tuple_lines, node_lines}
use Rattle.lines.specs.Lines.{address_lines, net_lines, pick_lines, tuples_below, tuple_count, total_line, closing_lines, after_lines}
use Rattle.registers.specs.Register.{register_lines, register_in}
use Rattle.totals.specs.TextLines.{lines_of, last_or, opens_with}
use Rattle.totals.specs.TotalClaims.{TotalIs, tuple_lines_in}
use Rattle.totals.proofs.Whole.{clean, Plain, no_words, number_more, plain_both, mark_plain, items_plain, Whole, whole_both, whole_line}
use Rattle.totals.proofs.Whole.{whole_parts, whole_each, last_line, lines_count}

-- ---- which lines are a tuple's
net_whole : (n k : ℕ) → Whole (printed (net_line n k ∷ [])) 0
unfolding net_line bytes clean both opens_with choose
net_whole n k = whole_line _ _ refl (number_more (number_more no_words)) 0 refl

pick_whole : (i b x : ℕ) → Whole (printed (made_line i b x ∷ [])) 0
unfolding made_line pick_line bytes clean both opens_with choose
pick_whole i b x = whole_line _ _ refl (number_more (number_more (number_more (number_more no_words)))) 0 refl

node_whole : (station : List ℕ) (a : Locality) (n k : ℕ) → Plain (name_words station) → Whole (printed (node_line station a n k ∷ [])) 0
unfolding node_line bytes clean both opens_with choose
node_whole station a n k h = whole_line _ _ refl (number_more (number_more (number_more h))) 0 refl

tuple_whole : (a : Locality) (t : Tuple) → Whole (printed (tuple_line all_parts a t ∷ [])) 1
unfolding tuple_line field_words bytes clean both opens_with choose spaced
tuple_whole a t = whole_line _ _ refl (number_more (plain_both _ _ (items_plain (fewer t.count 4) (field_at t)) (mark_plain t))) 1 refl

-- ---- parts of a register
picks_whole : (picks answers : List ℕ) → Whole (printed (pick_lines picks answers)) 0
unfolding pick_lines
picks_whole picks answers = subst (Whole _) (omega arith) (whole_each _ 0 _ (λ i. pick_whole (i + 1) _ _))

tuples_whole : (a : Locality) (x : Node) → Whole (printed (tuple_lines all_parts a x)) (fewer x.stored 16)
unfolding tuple_lines
tuples_whole a x = subst (Whole _) (omega arith) (whole_each (fewer x.stored 16) 1 _ (λ i. tuple_whole a (tuple_at x i)))

node_lines_whole :
    (station : List ℕ) (a : Locality) (x : Node) → Plain (name_words station)
    → Whole (printed (node_lines all_parts station a x)) (fewer x.stored 16)
unfolding node_lines
node_lines_whole station a x h =
    subst (Whole _) (omega arith)
    (whole_both (node_line station a _ _ ∷ []) (tuple_lines all_parts a x) 0 _ (node_whole station a _ _ h) (tuples_whole a x))

-- with names that hold no newline
module _ (names : Locality → List ℕ) (plain : (l : Locality) → Plain (name_words (names l))) where
  abbrev pub showing : Shown
  showing = record { parts = all_parts; names = names }

  net_lines_whole : (s : Net) → Whole (printed (net_lines showing s)) (tuple_count s)
  unfolding net_lines address_lines tuple_count tuples_below
  net_lines_whole s =
      whole_parts (fewer s.addresses 16) _ (λ a. fewer (node_at s (address_of a)).stored 16)
      (λ a. node_lines_whole (names (address_of a)) (address_of a) _ (plain (address_of a)))

  module _ (s : Net) (picks : List ℕ) (r : Ran) where
    abbrev above : List (List Word)
    above = net_line s.addresses s.length ∷ (pick_lines picks (numbers r) ++ net_lines showing r.net)

    above_whole : Whole (printed above) (tuple_count r.net)
    above_whole =
        subst (Whole (printed above)) (omega arith)
        (whole_both (net_line s.addresses s.length ∷ []) _ 0 _ (net_whole _ _)
        (whole_both (pick_lines picks (numbers r)) (net_lines showing r.net) 0 _ (picks_whole _ _) (net_lines_whole r.net)))

    text_is : register_in showing s picks (ran r) ≡ printed (above ++ total_line (tuple_count r.net) ∷ [])
    unfolding register_in register_lines after_lines closing_lines all_parts choose
    text_is =
        ap (λ (ls : List (List Word)). printed (net_line s.addresses s.length ∷ ls))
        (sym (append_assoc (pick_lines picks (numbers r)) (net_lines showing r.net) _))

    pub counted : tuple_lines_in (register_in showing s picks (ran r)) ≡ tuple_count r.net
    unfolding tuple_lines_in total_line bytes clean both opens_with
    counted =
        ap tuple_lines_in text_is
        ∙ lines_count above _ above_whole _ _ refl (number_more no_words) refl

    pub last_is_total : TotalIs (register_in showing s picks (ran r)) (tuple_count r.net)
    unfolding TotalIs total_line bytes clean both spaced word_text
    last_is_total =
        ap (λ (text : List ℕ). last_or [] (lines_of text)) text_is
        ∙ last_line above _ above_whole _ _ refl (number_more no_words)
        ∙ simp append-nil
