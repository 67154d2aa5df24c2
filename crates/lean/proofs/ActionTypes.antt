-- What is to be shown of each action: on words that stand for a sound net it answers and leaves the net as the lean step does. In what
-- follows the process p with the words ws stands in slot k of the address a before the instruction c. Assumes nothing.
use Prim.Native.Nat.{ℕ}
use mathlib.Core.Path.{◌≡◌}
use mathlib.Core.List.{List}
use Rattle.net.specs.Records.{address_of}
use Rattle.net.specs.declared.locality.Group.{Group}
use Rattle.lean_step.specs.LeanStep.{lean_process_step}
use Rattle.lean_code.specs.Fields.{template_words}
use Rattle.lean_code.specs.Heads.{head_words, set_flags}
use Rattle.lean_code.specs.Needs.{needs_of}
use Rattle.lean.specs.Types.{Place, Target, Action, Process, Instruction, Net}
use Rattle.lean.specs.Words.{Words, net_in}
use Rattle.lean.specs.Rounds.{stop_words, out_words, take_words, read_words, eval_words, create_words, fork_words, out_all_words}
use Rattle.lean.specs.Standing.{Seated, Agrees}

unfoldable pub StopAgrees : Type 0
StopAgrees =
    (start : Net) (w : Words) (a k : ℕ) (ws : List ℕ) (p : Process) (c : Instruction) → Seated start w a k ws p c
    → c.action ≡ Action.Stop
    → Agrees start (stop_words w a k) (lean_process_step (net_in start w) (address_of a) k p c)

unfoldable pub OutAgrees : Type 0
OutAgrees =
    (start : Net) (w : Words) (a k : ℕ) (ws : List ℕ) (p : Process) (c : Instruction) → Seated start w a k ws p c
    → (t : Target) (q : Place) → c.action ≡ Action.Out t q
    → Agrees start (out_words w (head_words c) (template_words c) a k) (lean_process_step (net_in start w) (address_of a) k p c)

unfoldable pub TakeAgrees : Type 0
TakeAgrees =
    (start : Net) (w : Words) (a k : ℕ) (ws : List ℕ) (p : Process) (c : Instruction) → Seated start w a k ws p c
    → (t : Target) (q : Place) → c.action ≡ Action.In t q
    → Agrees start (take_words w (head_words c) (template_words c) a k) (lean_process_step (net_in start w) (address_of a) k p c)

unfoldable pub ReadAgrees : Type 0
ReadAgrees =
    (start : Net) (w : Words) (a k : ℕ) (ws : List ℕ) (p : Process) (c : Instruction) → Seated start w a k ws p c
    → (t : Target) (q : Place) → c.action ≡ Action.Read t q
    → Agrees start (read_words w (head_words c) (template_words c) a k) (lean_process_step (net_in start w) (address_of a) k p c)

unfoldable pub EvalAgrees : Type 0
EvalAgrees =
    (start : Net) (w : Words) (a k : ℕ) (ws : List ℕ) (p : Process) (c : Instruction) → Seated start w a k ws p c
    → (t : Target) (sent q : Place) → c.action ≡ Action.Eval t sent q
    → Agrees start (eval_words w (needs_of start.code sent) (head_words c) (template_words c) a k)
    (lean_process_step (net_in start w) (address_of a) k p c)

unfoldable pub CreateAgrees : Type 0
CreateAgrees =
    (start : Net) (w : Words) (a k : ℕ) (ws : List ℕ) (p : Process) (c : Instruction) → Seated start w a k ws p c
    → (v : ℕ) (q : Place) → c.action ≡ Action.New v q
    → Agrees start (create_words w start.format (head_words c) a k) (lean_process_step (net_in start w) (address_of a) k p c)

unfoldable pub ForkAgrees : Type 0
ForkAgrees =
    (start : Net) (w : Words) (a k : ℕ) (ws : List ℕ) (p : Process) (c : Instruction) → Seated start w a k ws p c
    → (q r : Place) → c.action ≡ Action.Fork q r
    → Agrees start (fork_words w (head_words c) a k) (lean_process_step (net_in start w) (address_of a) k p c)

unfoldable pub OutAllAgrees : Type 0
OutAllAgrees =
    (start : Net) (w : Words) (a k : ℕ) (ws : List ℕ) (p : Process) (c : Instruction) → Seated start w a k ws p c
    → (g : Group) (q : Place) → c.action ≡ Action.OutAll g q
    → Agrees start (out_all_words w (set_flags c) (head_words c) (template_words c) a k)
    (lean_process_step (net_in start w) (address_of a) k p c)
