-- The wanted lines, word by word: no name has a digit or a newline, and each number has Q where it has it in the net, the picks and the
-- answers that the lines are made of.
-- Assumes nothing.
use Prim.Native.Nat.{ℕ, ◌+◌, ◌<◌}
use mathlib.Core.Path.{refl}
use mathlib.Core.List.{List, []}
use lib.ListN.{length, get_or}
use lib.IntN.{ℤ}
use Rattle.text.specs.Bytes.{bytes}
use Rattle.net.specs.Choice.{both}
use Rattle.net.specs.Records.{field_at, tuple_at, node_at, address_of, process_count}
use Rattle.net.proofs.Every.{chosen}
use Rattle.lexemes.specs.Lexemes.{is_digit}
use Rattle.step.specs.Pick.{host_of, slot_of}
use Rattle.run.specs.Run.{Ran, Outcome, refused, refused_text, ran, numbers}
use Rattle.registers.specs.Types.{Locality, Item, Tuple, Node, Net, Fault}
use Rattle.lines.specs.declared.shown.Parts.{Parts}
use Rattle.lines.specs.Shown.{unnamed}
use Rattle.lines.specs.Lines.{fewer, refusal_line, place_words, refused_line, net_line, pick_line, made_line, name_words, node_line, item_word, field_words, mark_words}
use Rattle.lines.specs.Lines.{tuple_line, tuple_lines, node_lines, address_lines, net_lines, tuple_count, total_line, closing_lines, after_lines}
use Rattle.lines.specs.Lines.{pick_lines}
use Rattle.registers.specs.Register.{register_lines}
use Rattle.listing.proofs.Agreeing.{Each, nil, cons, each_both, each_joined, plain, Fine, label, value, FineLines}

-- ---- the numbers of a register
pub record TupleHas (Q : ℕ → Type 0) (t : Tuple) : Type 0 where
  pub mark : Q t.mark.0
  pub fields : (i : ℕ) → i < fewer t.count 4 → Fine Q (item_word (field_at t i))

pub record NodeHas (Q : ℕ → Type 0) (a : ℕ) (x : Node) : Type 0 where
  pub at : Q a
  pub stored : Q x.stored
  pub busy : Q (process_count x)
  pub tuples : (i : ℕ) → i < fewer x.stored 16 → TupleHas Q (tuple_at x i)

pub record NetHas (Q : ℕ → Type 0) (s : Net) : Type 0 where
  pub total : Q (tuple_count s)
  pub nodes : (a : ℕ) → a < fewer s.addresses 16 → NodeHas Q a (node_at s (address_of a))

pub record PickHas (Q : ℕ → Type 0) (i b x : ℕ) : Type 0 where
  pub at : Q i
  pub host : Q (host_of b).0
  pub slot : Q (slot_of b)
  pub answer : Q x

pub data OutcomeHas (Q : ℕ → Type 0) (s : Net) (picks : List ℕ) : Outcome → Type 0 where
  of_refused : {f : Fault} → Q f.number → Q f.place → OutcomeHas Q s picks (refused f)
  of_text : {n : ℕ} → Q n → OutcomeHas Q s picks (refused_text n)
  of_run :
      {r : Ran} → Q s.addresses → Q s.length
      → ((i : ℕ) → i < length picks → PickHas Q (i + 1) (get_or picks i 0) (get_or (numbers r) i 0))
      → NetHas Q r.net
      → OutcomeHas Q s picks (ran r)

-- ---- and of its lines
module _ {Q : ℕ → Type 0} (parts : Parts) where
  refused_fine : (f : Fault) → Q f.number → Q f.place → Each (Fine Q) (refused_line parts f)
  unfolding refused_line place_words bytes plain both is_digit
  refused_fine f h g =
      cons (label refl) (cons (value h)
      (chosen (Each (Fine Q)) parts.place _ _ (λ _. cons (label refl) (cons (value g) nil)) (λ _. nil)))

  mark_fine : (t : Tuple) → Q t.mark.0 → Each (Fine Q) (mark_words parts t)
  unfolding mark_words bytes plain both is_digit
  mark_fine t h = chosen (Each (Fine Q)) parts.mark _ _ (λ _. cons (label refl) (cons (value h) nil)) (λ _. nil)

  tuple_fine : (a : Locality) (t : Tuple) → Q a.0 → TupleHas Q t → Each (Fine Q) (tuple_line parts a t)
  unfolding tuple_line field_words bytes plain both is_digit
  tuple_fine a t h g =
      cons (label refl) (cons (value h)
      (each_both (each_joined (fewer t.count 4) _ (λ i l. cons (g.fields i l) nil)) (mark_fine t g.mark)))

  node_fine : (a : ℕ) (x : Node) → NodeHas Q a x → FineLines Q (node_lines parts [] (address_of a) x)
  unfolding node_lines node_line name_words tuple_lines bytes plain both is_digit
  node_fine a x h =
      cons (cons (label refl) (cons (value h.at) (cons (value h.stored) (cons (value h.busy) nil))))
      (each_joined (fewer x.stored 16) _ (λ i l. cons (tuple_fine (address_of a) _ h.at (h.tuples i l)) nil))

  after_fine : (s : Net) → NetHas Q s → FineLines Q (after_lines (unnamed parts) s)
  unfolding after_lines unnamed net_lines address_lines closing_lines total_line bytes plain both is_digit
  after_fine s h =
      each_both (each_joined (fewer s.addresses 16) _ (λ a l. node_fine a _ (h.nodes a l)))
      (chosen (FineLines Q) parts.total _ _ (λ _. cons (cons (label refl) (cons (value h.total) nil)) nil) (λ _. nil))

  made_fine : (i b x : ℕ) → PickHas Q i b x → Each (Fine Q) (made_line i b x)
  unfolding made_line pick_line bytes plain both is_digit
  made_fine i b x h =
      cons (label refl)
      (cons (value h.at) (cons (value h.host) (cons (value h.slot) (cons (value h.answer) nil))))

  pub lines_fine :
      (s : Net) (picks : List ℕ) {o : Outcome} → OutcomeHas Q s picks o → FineLines Q (register_lines (unnamed parts) s picks o)
  unfolding register_lines unnamed refusal_line net_line pick_lines bytes plain both is_digit
  lines_fine s picks (of_refused {f} h g) = cons (refused_fine f h g) nil
  lines_fine s picks (of_text h) = cons (cons (label refl) (cons (value h) nil)) nil
  lines_fine s picks (of_run {r} h g each net) =
      cons (cons (label refl) (cons (value h) (cons (value g) nil)))
      (each_both (each_joined (length picks) _ (λ i l. cons (made_fine (i + 1) _ _ (each i l)) nil)) (after_fine r.net net))

-- ---- where every number has it
module _ (Q : ℕ → Type 0) (always : (n : ℕ) → Q n) where
  item_always : (x : Item) → Fine Q (item_word x)
  unfolding item_word
  item_always (Item.Reading (ℤ.pos n)) = Fine.upward (always n)
  item_always (Item.Reading (ℤ.negsuc n)) = Fine.downward (always (n + 1))
  item_always (Item.Address l) = Fine.located (always l.0)

  net_always : (s : Net) → NetHas Q s
  net_always s = record {
    total = always _;
    nodes = λ a l. record {
      at = always _;
      stored = always _;
      busy = always _;
      tuples = λ i g. record { mark = always _; fields = λ j k. item_always _ };
    };
  }

  pub outcome_always : (s : Net) (picks : List ℕ) (o : Outcome) → OutcomeHas Q s picks o
  outcome_always s picks (refused f) = of_refused (always _) (always _)
  outcome_always s picks (refused_text n) = of_text (always _)
  outcome_always s picks (ran r) =
      of_run (always _) (always _)
      (λ i l. record { at = always _; host = always _; slot = always _; answer = always _ }) (net_always r.net)
