-- Describes the code, and is no part of what a reader has to believe: what is known of the words before and after each pick. In what
-- follows `start` is the net that they were loaded from, and `net_in start w` the one that they stand for now.
use Rattle.std.specs.Prelude.{ℕ, ◌<◌, ◌≤◌, ◌≡◌, true, List, [], length, get_or, drop}
use Rattle.net.specs.Records.{address_of, place_of, node_at, process_at, instruction_at}
use Rattle.net.specs.Shape.{Shaped}
use Rattle.sound.specs.Soundness.{sound_of}
use Rattle.plans.specs.Answer.{number_of}
use Rattle.text.specs.Buffer.{over}
use Rattle.lean_words.specs.Processes.{process_in}
use Rattle.lean_code.specs.Fields.{template_words}
use Rattle.lean_code.specs.Heads.{head_words, set_flags}
use Rattle.lean_code.specs.Needs.{needs_of}
use Rattle.lean_code.specs.Ranged.{RangedTemplate}
use Rattle.lean.specs.Types.{Place, Target, Action, Process, Instruction, Net, Picked}
use Rattle.lean.specs.Words.{Words, Sized, Ranged, slot_at, net_in}
use Rattle.lean.specs.Rounds.{Tables, Stepped, ran_words}

-- ---- the words stand for a sound net
pub record Stands (start : Net) (w : Words) : Type 0 where
  pub shaped : Shaped (net_in start w)
  pub sound : sound_of (net_in start w) ≡ true
  pub sized : Sized w
  pub ranged : Ranged w

-- ---- the tables are those of the code, at each place that it has
pub record Tabled (start : Net) (tb : Tables) : Type 0 where
  pub heads_are : (q : ℕ) → q < start.length → get_or tb.heads q [] ≡ head_words (instruction_at start.code (place_of q))
  pub fields_are : (q : ℕ) → q < start.length → get_or tb.fields q [] ≡ template_words (instruction_at start.code (place_of q))
  pub sets_are : (q : ℕ) → q < start.length → get_or tb.sets q [] ≡ set_flags (instruction_at start.code (place_of q))
  pub needs_are :
      (q : ℕ) (t : Target) (sent next : Place)
      → q < start.length
      → (instruction_at start.code (place_of q)).action ≡ Action.Eval t sent next
      → get_or tb.needs q [] ≡ needs_of start.code sent
  pub format_is : tb.format ≡ start.format
  pub readings_are : (q : ℕ) → q < start.length → RangedTemplate (instruction_at start.code (place_of q))

-- ---- a process p stands in slot k of the address a, with the words ws, before the instruction c
pub record Seated (start : Net) (w : Words) (a k : ℕ) (ws : List ℕ) (p : Process) (c : Instruction) : Type 0 where
  pub stands : Stands start w
  pub used : a < w.count
  pub slot : k < 4
  pub words_are : slot_at w.slots a k ≡ ws
  pub busy : get_or ws 8 0 < 512
  pub process_is : process_at (node_at (net_in start w) (address_of a)) k ≡ p
  pub decoded : process_in ws ≡ p
  pub instruction_is : instruction_at start.code p.at ≡ c
  pub readings_are : RangedTemplate c

-- ---- what the words come to is what a pick comes to
pub record Agrees (start : Net) (x : Stepped) (r : Picked) : Type 0 where
  pub answer_is : x.answer ≡ number_of r.answer
  pub net_is : net_in start x.words ≡ r.net
  pub ranged : Ranged x.words

-- ---- how far the loop over picks has come: what is left gives what the whole gives
pub record Making (tb : Tables) (w₀ : Words) (picks xs₀ : List ℕ) (w : Words) (i : ℕ) (xs : List ℕ) : Type 0 where
  pub some : i ≤ length picks
  pub words_are : (ran_words tb w (drop i picks)).words ≡ (ran_words tb w₀ picks).words
  pub left_is : over xs i (ran_words tb w (drop i picks)).answers ≡ over xs₀ 0 (ran_words tb w₀ picks).answers
  pub long : length xs ≡ length xs₀

-- what the loop leaves
pub record MadeEach (tb : Tables) (w₀ : Words) (picks xs₀ : List ℕ) (w : Words) (xs : List ℕ) : Type 0 where
  pub words_are : w ≡ (ran_words tb w₀ picks).words
  pub left_is : xs ≡ over xs₀ 0 (ran_words tb w₀ picks).answers
