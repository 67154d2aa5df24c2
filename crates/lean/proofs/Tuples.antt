-- The tuple that an out makes on words (`tuple_from` of `specs/Actions.antt`) is the one of the step. Assumes nothing.
use Prim.Native.Nat.{ℕ, ◌<◌}
use mathlib.Core.Path.{◌≡◌, ap₂}
use mathlib.Core.Bool.{true}
use mathlib.Core.List.{List}
use lib.ListN.{get_or}
use Rattle.net.specs.Records.{address_of, pattern_at, marked}
use Rattle.matching.specs.Matching.{evaluated_of}
use Rattle.sound.specs.Soundness.{is_actual}
use Rattle.plans.specs.Additions.{tuple_of}
use Rattle.lean_words.specs.Stores.{tuple_in, put_words}
use Rattle.lean_code.specs.Fields.{template_words, defined_words, wants_words}
use Rattle.lean_code.specs.Ranged.{RangedTuple}
use Rattle.lean_code.proofs.PutLaws.{put_in, put_ranged}
use Rattle.lean.specs.Types.{Process, Instruction, Net}
use Rattle.lean.specs.Words.{Words}
use Rattle.lean.specs.Actions.{tuple_from}
use Rattle.lean.specs.Standing.{Seated}
use Rattle.lean.proofs.Aims.{seat_few, seat_ranged, seat_values, seat_fields}

module _
    (start : Net) (w : Words) (a k : ℕ) (ws : List ℕ) (p : Process) (c : Instruction) (seat : Seated start w a k ws p c)
    (actual : (i : ℕ) → i < c.count → is_actual (pattern_at c i) ≡ true) (there : defined_words ws (template_words c) ≡ true)
  where
    abbrev pub out_tuple : List ℕ
    out_tuple = put_words (wants_words ws a (template_words c) c.count) a

    pub tuple_is : tuple_in out_tuple ≡ marked (address_of a) (tuple_of (evaluated_of (address_of a) p c))
    tuple_is =
        put_in w.count a ws p (seat_few start w a k ws p c seat) seat.used (seat_ranged start w a k ws p c seat)
        (seat_values start w a k ws p c seat) c (seat_fields start w a k ws p c seat) there seat.readings_are actual

    pub tuple_ranged : RangedTuple out_tuple
    tuple_ranged =
        put_ranged w.count a ws p (seat_few start w a k ws p c seat) seat.used (seat_ranged start w a k ws p c seat)
        (seat_values start w a k ws p c seat) c (seat_fields start w a k ws p c seat) there seat.readings_are actual

    pub tuple_from_law : (h : List ℕ) → get_or h 5 0 ≡ c.count → tuple_from w.slots h (template_words c) a k ≡ out_tuple
    unfolding tuple_from
    tuple_from_law h count =
        ap₂ (λ (us : List ℕ) (m : ℕ). put_words (wants_words us a (template_words c) m) a) seat.words_are count
