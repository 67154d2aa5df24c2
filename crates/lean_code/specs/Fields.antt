-- Describes the code, and is no part of what a reader has to believe: a template as four words for each field, and what it is for the
-- words of one process. The four: from where the field's value comes (the word of the process that its variable stands in; 9, written in
-- the code; 25, the host); the lowest and the highest word that fit, where they are written; the word of the process to which what is met
-- goes, 10 where it is bound to no variable.
use Rattle.std.specs.Prelude.{ℕ, ◌%◌, Bool, not, List, [], ◌∷◌, get_or, set, replicate, eqb}
use Rattle.net.specs.Choice.{choose, all, fold}
use Rattle.net.specs.Records.{pattern_at}
use Rattle.net.specs.declared.instruction.Pattern.{Pattern}
use Rattle.net.specs.declared.instruction.Instruction.{Instruction}
use Rattle.lean_words.specs.Filled.{filled}
use Rattle.lean_words.specs.Items.{reading_word}

-- ---- a template's words

-- a field that has one value
unfoldable pub actual_words : ℕ → ℕ → List ℕ
actual_words from w = from ∷ w ∷ w ∷ 10 ∷ []

-- a formal
unfoldable pub formal_words : ℕ → ℕ → ℕ → List ℕ
formal_words low high v = 9 ∷ low ∷ high ∷ v ∷ []

unfoldable pub field_words : Pattern → List ℕ
field_words (Pattern.Reading x) = actual_words 9 (reading_word x)
field_words (Pattern.Address l) = actual_words 9 l.0
field_words Pattern.Own = actual_words 25 0
field_words (Pattern.Held v) = actual_words v 0
field_words (Pattern.FormalReading v) = formal_words 257 8589934592 v
field_words (Pattern.FormalAddress v) = formal_words 0 256 v

unfoldable pub template_words : Instruction → List (List ℕ)
template_words c = filled 4 (λ i. field_words (pattern_at c i)) (replicate 4 (replicate 4 0))

-- word j of field i
abbrev pub field_word : List (List ℕ) → ℕ → ℕ → ℕ
field_word f i j = get_or (get_or f i []) j 0

-- ---- what they are for the process with the words p, hosted at a

-- the word that a field or a target comes from, or the written one
unfoldable pub word_from : List ℕ → ℕ → ℕ → ℕ → ℕ
word_from p a from written = choose (eqb from 9) written (choose (eqb from 25) a (get_or p (from % 16) 0))

-- what a field comes from is there
unfoldable pub is_there : List ℕ → ℕ → Bool
is_there p from = not (eqb (get_or p (from % 16) 0) 256)

unfoldable pub defined_words : List ℕ → List (List ℕ) → Bool
defined_words p f = all 4 (λ i. is_there p (field_word f i 0))

-- the lowest word that fits field i, and the highest
unfoldable pub lowest : List ℕ → ℕ → List (List ℕ) → ℕ → ℕ
lowest p a f i = word_from p a (field_word f i 0) (field_word f i 1)

unfoldable pub highest : List ℕ → ℕ → List (List ℕ) → ℕ → ℕ
highest p a f i = word_from p a (field_word f i 0) (field_word f i 2)

-- for each field the lowest and the highest word, and the count
unfoldable pub wants_words : List ℕ → ℕ → List (List ℕ) → ℕ → List ℕ
wants_words p a f count =
    lowest p a f 0
    ∷ highest p a f 0
    ∷ lowest p a f 1
    ∷ highest p a f 1
    ∷ lowest p a f 2
    ∷ highest p a f 2
    ∷ lowest p a f 3
    ∷ highest p a f 3
    ∷ count
    ∷ []

-- the process bound to the tuple with the words t, and moved on
unfoldable pub bound_words : List ℕ → List (List ℕ) → List ℕ → ℕ → List ℕ
bound_words p f t next = set (fold 4 (λ i q. set q (field_word f i 3 % 16) (get_or t i 0)) p) 8 next
