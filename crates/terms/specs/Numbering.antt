-- The instructions of a process (document 01, "The planners' notation"): numbered by the place of their first character; a
-- name makes none, and stands for the first instruction of its body.
use Rattle.std.specs.Prelude.{ℕ, suc, ◌+◌, Bool, true, false, List, [], ◌∷◌, ◌++◌, eqb}
use Rattle.net.specs.Choice.{choose}
use Rattle.net.specs.Records.{zero_instruction, with_action}
use Rattle.terms.specs.Types.{Place, Instruction}
use Rattle.terms.specs.Types as Types
use Rattle.terms.specs.Terms.{Process, Action, nil, name, fork, act, out, input, read, eval, newloc, out_all}

-- ---- how many instructions a process has
unfoldable mutual
  pub size : Process → ℕ
  size nil = 1
  size (name k) = 0
  size (fork p q) = suc (size p + size q)
  size (act a p) = suc (size_in a + size p)

  pub size_in : Action → ℕ
  size_in (out c t) = 0
  size_in (input c t) = 0
  size_in (read c t) = 0
  size_in (eval p t) = size p
  size_in (newloc v) = 0
  size_in (out_all c g) = 0

-- ---- what a process stands for where its first instruction has the number n
pub data Start : Type 0 where
  here : ℕ → Start
  called : ℕ → Start

unfoldable pub start_of : ℕ → Process → Start
start_of n nil = here n
start_of n (name k) = called k
start_of n (fork p q) = here n
start_of n (act a p) = here n

-- ---- instructions, each start resolved to its place
module _ (place : Start → Place) where
  -- the instruction of an action with the number n, and what follows it
  unfoldable pub instruction_of : ℕ → Action → Start → Instruction
  instruction_of n (out c t) q = with_action c (Types.Action.Out t (place q))
  instruction_of n (input c t) q = with_action c (Types.Action.In t (place q))
  instruction_of n (read c t) q = with_action c (Types.Action.Read t (place q))
  instruction_of n (eval p t) q = with_action zero_instruction (Types.Action.Eval t (place (start_of (suc n) p)) (place q))
  instruction_of n (newloc v) q = with_action zero_instruction (Types.Action.New v (place q))
  instruction_of n (out_all c g) q = with_action c (Types.Action.OutAll g (place q))

  -- the instruction of a fork
  unfoldable pub fork_of : Start → Start → Instruction
  fork_of p q = with_action zero_instruction (Types.Action.Fork (place p) (place q))

  unfoldable mutual
    -- those of a process whose first one has the number n
    pub code_of : ℕ → Process → List Instruction
    code_of n nil = zero_instruction ∷ []
    code_of n (name k) = []
    code_of n (fork p q) =
        fork_of (start_of (suc n) p) (start_of (suc n + size p) q) ∷ (code_of (suc n) p ++ code_of (suc n + size p) q)
    code_of n (act a p) =
        instruction_of n a (start_of (suc n + size_in a) p) ∷ (code_in (suc n) a ++ code_of (suc n + size_in a) p)

    -- those of the process that an action holds
    pub code_in : ℕ → Action → List Instruction
    code_in n (out c t) = []
    code_in n (input c t) = []
    code_in n (read c t) = []
    code_in n (eval p t) = code_of n p
    code_in n (newloc v) = []
    code_in n (out_all c g) = []

-- ---- whether a process uses the name k
unfoldable mutual
  pub uses : ℕ → Process → Bool
  uses k nil = false
  uses k (name j) = eqb k j
  uses k (fork p q) = choose (uses k p) true (uses k q)
  uses k (act a p) = choose (uses_in k a) true (uses k p)

  pub uses_in : ℕ → Action → Bool
  uses_in k (out c t) = false
  uses_in k (input c t) = false
  uses_in k (read c t) = false
  uses_in k (eval p t) = uses k p
  uses_in k (newloc v) = false
  uses_in k (out_all c g) = false
