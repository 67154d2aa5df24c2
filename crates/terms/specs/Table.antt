-- Describes the code, and is no part of what a reader has to believe: instructions as words of a lent table, nine words an
-- instruction. Starts stay as they are written until names are resolved.
pub use Rattle.terms.specs.declared.table.Kind.{Kind}
pub use Rattle.terms.specs.declared.table.Entry.{Entry}
use Rattle.std.specs.Prelude.{ℕ, suc, ◌+◌, Bool, true, List, [], ◌∷◌, ◌++◌, set}
use Rattle.net.specs.Records.{zero_instruction, pattern_at}
use Rattle.text.specs.Joined.{joined}
use Rattle.text.specs.Signed.{complement_of}
use Rattle.terms.specs.Types.{Target, Pattern, Instruction}
use Rattle.terms.specs.Terms.{Process, Action, nil, name, fork, act, out, input, read, eval, newloc, out_all}
use Rattle.terms.specs.Numbering.{Start, here, called, start_of, size, size_in}

-- ---- one word each: a name's number is below 512, an address and a variable below 256, a two's complement below 2^32
unfoldable pub start_word : Start → ℕ
start_word (called k) = k
start_word (here n) = 512 + n

unfoldable pub target_word : Target → ℕ
target_word (Target.Written l) = l.0
target_word Target.Own = 256
target_word (Target.Held v) = 512 + v

unfoldable pub pattern_word : Pattern → ℕ
pattern_word (Pattern.Reading x) = complement_of x
pattern_word (Pattern.Address l) = 4294967296 + l.0
pattern_word Pattern.Own = 4294967552
pattern_word (Pattern.Held v) = 4294967808 + v
pattern_word (Pattern.FormalReading v) = 4294968064 + v
pattern_word (Pattern.FormalAddress v) = 4294968320 + v

-- ---- the nine words of an instruction: its action's number, its target, its template, the start that follows, and the
-- second one of a fork or the one that an eval sends
unfoldable pub template_words : Instruction → List ℕ
template_words c = c.count ∷ joined 4 (λ i. pattern_word (pattern_at c i) ∷ [])

unfoldable pub instruction_words : ℕ → ℕ → Instruction → ℕ → ℕ → List ℕ
instruction_words kind target c next second = (kind ∷ target ∷ []) ++ (template_words c ++ (next ∷ second ∷ []))

-- an instruction that is stored, by its kind
abbrev pub kind_number : Kind → ℕ
kind_number Kind.Stop = 0
kind_number Kind.Out = 1
kind_number Kind.In = 2
kind_number Kind.Read = 3
kind_number Kind.Eval = 4
kind_number Kind.New = 5
kind_number Kind.Fork = 6
kind_number Kind.OutAll = 7

abbrev pub entry_words : Entry → List ℕ
entry_words e = instruction_words (kind_number e.kind) e.target e.template e.next e.second

-- the one that has nothing but its kind
abbrev pub plain_entry : Kind → Entry
plain_entry k = record { kind = k; target = 0; template = zero_instruction; next = 0; second = 0 }

unfoldable pub stop_words : List ℕ
stop_words = instruction_words 0 0 zero_instruction 0 0

-- those of an action with the number n, and the start that follows it
unfoldable pub action_words : ℕ → Action → ℕ → List ℕ
action_words n (out c t) next = instruction_words 1 (target_word t) c next 0
action_words n (input c t) next = instruction_words 2 (target_word t) c next 0
action_words n (read c t) next = instruction_words 3 (target_word t) c next 0
action_words n (eval p t) next = instruction_words 4 (target_word t) zero_instruction next (start_word (start_of (suc n) p))
action_words n (newloc v) next = instruction_words 5 v zero_instruction next 0
action_words n (out_all c g) next = instruction_words 7 g.0 c next 0

unfoldable mutual
  -- those of a process whose first instruction has the number n
  pub words_of : ℕ → Process → List ℕ
  words_of n nil = stop_words
  words_of n (name k) = []
  words_of n (fork p q) =
      instruction_words 6 0 zero_instruction (start_word (start_of (suc n) p)) (start_word (start_of (suc n + size p) q))
      ++ (words_of (suc n) p ++ words_of (suc n + size p) q)
  words_of n (act a p) =
      (action_words n a (start_word (start_of (suc n + size_in a) p)) ++ words_in (suc n) a) ++ words_of (suc n + size_in a) p

  -- those of the process that an action holds
  pub words_in : ℕ → Action → List ℕ
  words_in n (out c t) = []
  words_in n (input c t) = []
  words_in n (read c t) = []
  words_in n (eval p t) = words_of n p
  words_in n (newloc v) = []
  words_in n (out_all c g) = []

-- ---- marks of names, with those that a process uses
unfoldable mutual
  pub marked : Process → List Bool → List Bool
  marked nil used = used
  marked (name k) used = set used k true
  marked (fork p q) used = marked q (marked p used)
  marked (act a p) used = marked p (marked_in a used)

  pub marked_in : Action → List Bool → List Bool
  marked_in (out c t) used = used
  marked_in (input c t) used = used
  marked_in (read c t) used = used
  marked_in (eval p t) used = marked p used
  marked_in (newloc v) used = used
  marked_in (out_all c g) used = used
