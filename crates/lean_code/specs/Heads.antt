-- Describes the code, and is no part of what a reader has to believe: an action as 6 words (document 02, slip 12). Word 0 is its
-- number, 1 and 2 its target, 3 the next place, 4 what else it has (the sent place, a fork's second place, a new's variable), 5 the
-- field count.
use Rattle.std.specs.Prelude.{ℕ, Bool, false, List, [], ◌∷◌, replicate}
use Rattle.net.specs.Records.{address_of, place_of}
use Rattle.net.specs.Groups.{member}
use Rattle.lean_words.specs.Filled.{filled}
use Rattle.lean_code.specs.Types.{Place, Group, Target, Action, Instruction}

-- the written address of a target; 0 where it is none
unfoldable pub target_written : Target → ℕ
target_written (Target.Written l) = l.0
target_written Target.Own = 0
target_written (Target.Held v) = 0

-- from where a target comes: 9 is the code, 25 the host, a number below 8 the variable
unfoldable pub target_from : Target → ℕ
target_from (Target.Written l) = 9
target_from Target.Own = 25
target_from (Target.Held v) = v

-- an action at a target
unfoldable pub aimed_words : ℕ → Target → Place → ℕ → ℕ → List ℕ
aimed_words number t next other count = number ∷ target_written t ∷ target_from t ∷ next.0 ∷ other ∷ count ∷ []

-- an action without a target
unfoldable pub alone_words : ℕ → Place → ℕ → ℕ → List ℕ
alone_words number next other count = number ∷ 0 ∷ 9 ∷ next.0 ∷ other ∷ count ∷ []

unfoldable pub action_words : ℕ → Action → List ℕ
action_words count Action.Stop = alone_words 0 (place_of 0) 0 count
action_words count (Action.Out t q) = aimed_words 1 t q 0 count
action_words count (Action.In t q) = aimed_words 2 t q 0 count
action_words count (Action.Read t q) = aimed_words 3 t q 0 count
action_words count (Action.Eval t sent q) = aimed_words 4 t q sent.0 count
action_words count (Action.New v q) = alone_words 5 q v count
action_words count (Action.Fork q r) = alone_words 6 q r.0 count
action_words count (Action.OutAll g q) = alone_words 7 q 0 count

unfoldable pub head_words : Instruction → List ℕ
head_words c = action_words c.count c.action

-- ---- the members of a set, a flag for each address
unfoldable pub member_flags : Group → List Bool
member_flags g = filled 16 (λ l. member g (address_of l)) (replicate 16 false)

-- of the set that an action puts to
unfoldable pub flags_of : Action → List Bool
flags_of Action.Stop = replicate 16 false
flags_of (Action.Out t q) = replicate 16 false
flags_of (Action.In t q) = replicate 16 false
flags_of (Action.Read t q) = replicate 16 false
flags_of (Action.Eval t sent q) = replicate 16 false
flags_of (Action.New v q) = replicate 16 false
flags_of (Action.Fork q r) = replicate 16 false
flags_of (Action.OutAll g q) = member_flags g

unfoldable pub set_flags : Instruction → List Bool
set_flags c = flags_of c.action
