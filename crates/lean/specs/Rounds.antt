-- Describes the code, and is no part of what a reader has to believe: one pick, and a list of picks, on the words.
use Rattle.std.specs.Prelude.{ℕ, ◌/◌, ◌%◌, Bool, List, [], ◌∷◌, eqb, leb, get_or}
use Rattle.net.specs.Choice.{choose}
use Rattle.lean.specs.Words.{Words, slot_at}
use Rattle.lean.specs.Actions.{Acted, Moved, Created, stop_of, out_of, take_of, read_of, eval_of, create_of, fork_of, out_all_of}

-- ---- the tables of a code, by place, and the format
pub record Tables : Type 0 where
  pub heads : List (List ℕ)
  pub fields : List (List (List ℕ))
  pub sets : List (List Bool)
  pub needs : List (List Bool)
  pub format : ℕ

abbrev pub tables_with : List (List ℕ) → List (List (List ℕ)) → List (List Bool) → List (List Bool) → ℕ → Tables
tables_with heads fields sets needs format =
    record { heads = heads; fields = fields; sets = sets; needs = needs; format = format }

-- ---- an answer's number, and the words after it
pub record Stepped : Type 0 where
  pub answer : ℕ
  pub words : Words

abbrev pub stepped_with : ℕ → Words → Stepped
stepped_with answer words = record { answer = answer; words = words }

unfoldable pub after_acted : Words → Acted → Stepped
after_acted w r =
    stepped_with r.answer
    (record { count = w.count; slots = r.slots; stored = w.stored; tuples = w.tuples; rows = w.rows })

unfoldable pub after_moved : Words → Moved → Stepped
after_moved w r =
    stepped_with r.answer
    (record { count = w.count; slots = r.slots; stored = r.stored; tuples = r.tuples; rows = w.rows })

unfoldable pub after_created : Words → Created → Stepped
after_created w r =
    stepped_with r.answer
    (record { count = r.count; slots = r.slots; stored = w.stored; tuples = w.tuples; rows = r.rows })

-- ---- what each action comes to: h, f, g and need are the instruction's entries in the tables
unfoldable pub stop_words : Words → ℕ → ℕ → Stepped
stop_words w a k = after_acted w (stop_of w.slots a k)

unfoldable pub out_words : Words → List ℕ → List (List ℕ) → ℕ → ℕ → Stepped
out_words w h f a k = after_moved w (out_of w.slots w.stored w.tuples w.rows h f a k)

unfoldable pub take_words : Words → List ℕ → List (List ℕ) → ℕ → ℕ → Stepped
take_words w h f a k = after_moved w (take_of w.slots w.stored w.tuples w.rows h f a k)

unfoldable pub read_words : Words → List ℕ → List (List ℕ) → ℕ → ℕ → Stepped
read_words w h f a k = after_acted w (read_of w.slots w.stored w.tuples w.rows h f a k)

unfoldable pub eval_words : Words → List Bool → List ℕ → List (List ℕ) → ℕ → ℕ → Stepped
eval_words w need h f a k = after_acted w (eval_of w.slots w.rows need h f a k)

unfoldable pub create_words : Words → ℕ → List ℕ → ℕ → ℕ → Stepped
create_words w format h a k = after_created w (create_of w.count w.slots w.rows format h a k)

unfoldable pub fork_words : Words → List ℕ → ℕ → ℕ → Stepped
fork_words w h a k = after_acted w (fork_of w.slots h a k)

unfoldable pub out_all_words : Words → List Bool → List ℕ → List (List ℕ) → ℕ → ℕ → Stepped
out_all_words w g h f a k = after_moved w (out_all_of w.slots w.stored w.tuples g h f a k)

-- by the action's number
unfoldable pub act_by : ℕ → Words → List ℕ → List (List ℕ) → List Bool → List Bool → ℕ → ℕ → ℕ → Stepped
act_by x w h f g need format a k =
    choose (eqb x 0) (stop_words w a k)
    (choose (eqb x 1) (out_words w h f a k)
    (choose (eqb x 2) (take_words w h f a k)
    (choose (eqb x 3) (read_words w h f a k)
    (choose (eqb x 4) (eval_words w need h f a k)
    (choose (eqb x 5) (create_words w format h a k)
    (choose (eqb x 6) (fork_words w h a k) (out_all_words w g h f a k)))))))

-- of the instruction with these entries
unfoldable pub act_with : Words → List ℕ → List (List ℕ) → List Bool → List Bool → ℕ → ℕ → ℕ → Stepped
act_with w h f g need format a k = act_by (get_or h 0 0) w h f g need format a k

-- of the instruction at place q
unfoldable pub act_of : Tables → Words → ℕ → ℕ → ℕ → Stepped
act_of tb w a k q =
    act_with w (get_or tb.heads (q % 512) []) (get_or tb.fields (q % 512) []) (get_or tb.sets (q % 512) [])
    (get_or tb.needs (q % 512) []) tb.format a k

-- ---- a pick: 9, 8, 7, then the action
unfoldable pub step_at : Tables → Words → ℕ → ℕ → ℕ → Stepped
step_at tb w a k q = choose (leb 512 q) (stepped_with 7 w) (act_of tb w a k q)

unfoldable pub step_words : Tables → Words → ℕ → Stepped
step_words tb w b =
    choose (eqb (b % 4) 0)
    (choose (leb w.count (b / 16)) (stepped_with 8 w)
    (step_at tb w (b / 16) (b / 4 % 4) (get_or (slot_at w.slots (b / 16) (b / 4 % 4)) 8 0)))
    (stepped_with 9 w)

-- ---- a list of picks
pub record RanWords : Type 0 where
  pub answers : List ℕ
  pub words : Words

unfoldable pub answered_words : ℕ → RanWords → RanWords
answered_words x r = record { answers = x % 256 ∷ r.answers; words = r.words }

unfoldable pub ran_words : Tables → Words → List ℕ → RanWords
ran_words tb w [] = record { answers = []; words = w }
ran_words tb w (b ∷ bs) = answered_words (step_words tb w b).answer (ran_words tb (step_words tb w b).words bs)
