-- How far the readers of processes go (`specs/Reading.antt`), in the logic of `Long.antt` of the crate `readers`: no
-- process has more than a third as many instructions as bytes. Assumes nothing.
use Prim.Native.Nat.{ℕ, zero, suc, ◌+◌, ◌*◌, ◌≤◌, ◌<◌}
use mathlib.Core.Path.{◌≡◌, refl}
use mathlib.Core.Bool.{true, false}
use mathlib.Core.List.{List}
use native.Mathlib.Omega.{arith}
use lib.ListN.{length}
use Rattle.text.specs.Bytes.{bytes}
use Rattle.readers.specs.Reader.{got, Reader}
use Rattle.readers.proofs.Long.{Long, Any, long_got, long_pure, long_weaken, long_then, long_and, long_choice, goes_and}
use Rattle.lexemes.specs.Lexemes.{byte_at}
use Rattle.lexemes.proofs.Long.{long_look, long_fail, long_byte, long_word, long_number, goes_word}
use Rattle.fields.proofs.Long.{goes_variable, goes_template, goes_target, goes_group}
use Rattle.terms.specs.Terms.{Process, Action, input, read}
use Rattle.terms.specs.Numbering.{size, size_in}
use Rattle.processes.specs.Types.{Target, Instruction, Scope}
use Rattle.processes.specs.Reading.{named, at_target, communication, to_one, to_all, receiving, putting, evaluation, creation, simple, action}
use Rattle.processes.specs.Reading.{called, forked, stopped, ends_chain, ended, acting, chain, process_at, process}

-- a process that i bytes hold
abbrev pub Holds : Process → ℕ → Type 0
Holds x i = (3 * size x ≤ i) × (1 ≤ i)

-- an action that i bytes hold, its own instruction counted
abbrev pub HoldsIn : Action → ℕ → Type 0
HoldsIn a i = 3 + 3 * size_in a ≤ i

pub long_named : Long named (λ _ i. 2 ≤ i)
unfolding named
long_named = long_and (long_byte 65) (λ _ i h. long_weaken (long_number 511) (λ _ j g. omega arith))

goes_at_target : (n : ℕ) → Long (at_target n) Any
unfolding at_target
goes_at_target n = goes_and (goes_word _) (goes_target n)

-- ---- actions
module _ (x : Scope) where
  long_communication :
      (opening : List ℕ) (make : Instruction → Target → Action) → 3 ≤ length opening
      → ((c : Instruction) (t : Target) → size_in (make c t) ≡ 0) → Long (communication opening make x) HoldsIn
  unfolding communication
  long_communication opening make l z =
      long_and (long_word opening) (λ _ i h. long_then (goes_template true x.addresses) (λ c j _. long_then (goes_at_target x.addresses) (λ t k _.
      long_pure _ (make c t) (let e = z c t in omega arith))))

  long_putting : Long (putting x) HoldsIn
  unfolding putting receiving to_one to_all size_in bytes
  long_putting =
      long_and (long_word _) (λ _ i h. long_then (goes_template false x.addresses) (λ c j _. long_and (goes_word _) (λ _ k _. long_look _ _ (λ b.
      long_choice _ _ _ _ (long_then (goes_group x.addresses) (λ g m _. long_pure _ _ (omega arith)))
      (long_then (goes_target x.addresses) (λ t m _. long_pure _ _ (omega arith)))))))

  long_simple : Long (simple x) HoldsIn
  unfolding simple creation size_in bytes
  long_simple =
      long_look _ _ (λ b. long_choice _ _ _ _ long_putting
      (long_choice _ _ _ _ (long_communication _ input (omega arith) (λ c t. refl))
      (long_choice _ _ _ _ (long_communication _ read (omega arith) (λ c t. refl))
      (long_and (long_word _) (λ _ i h. long_then goes_variable (λ v j _. long_and (long_byte 41) (λ _ k _.
      long_pure _ _ (omega arith))))))))

-- ---- processes, with a reader of those inside brackets and evals
module _ (inner : Reader Process) (l : Long inner Holds) (x : Scope) where
  long_action : Long (action inner x) HoldsIn
  unfolding action evaluation size_in bytes
  long_action =
      long_look _ _ (λ b. long_choice _ _ _ _
      (long_and (long_word _) (λ _ i h. long_then l (λ p j g. long_then (goes_at_target x.addresses) (λ t k _. long_pure _ _ (omega arith)))))
      (long_simple x))

  long_ended : Long (ended inner) Holds
  unfolding ended called forked stopped size bytes
  long_ended =
      long_look _ _ (λ b. long_choice _ _ _ _ (long_then long_named (λ k i h. long_pure _ _ (omega arith, omega arith)))
      (long_choice _ _ _ _
      (long_and (long_byte 40) (λ _ i h. long_then l (λ p j g. long_and (long_word _) (λ _ k f. long_then l (λ q m e.
      long_and (long_byte 41) (λ _ o d. long_pure _ _ (omega arith, omega arith)))))))
      (long_and (long_word _) (λ _ i h. long_pure _ _ (omega arith, omega arith)))))

  long_acting : (rest : Reader Process) → Long rest Holds → Long (acting inner rest x) Holds
  unfolding acting size
  long_acting rest r =
      long_then long_action (λ a i h. long_and (long_byte 46) (λ _ j _. long_then r (λ p m f.
      long_pure _ _ (omega arith, omega arith))))

  long_chain : (k : ℕ) → Long (chain k inner x) Holds
  unfolding chain
  long_chain zero = long_fail _ 31
  long_chain (suc k) = record {
    run = λ s p.
        (long_choice Holds (ends_chain (byte_at s p) (byte_at s (p + 1))) _ _ long_ended
        (long_acting (chain k inner x) (long_chain k))
        ).run s p;
  }

long_process_at : (d : ℕ) (x : Scope) → Long (process_at d x) Holds
unfolding process_at
long_process_at zero x = long_fail _ 32
long_process_at (suc d) x = record { run = λ s p. (long_chain (process_at d x) (long_process_at d x) x (length s)).run s p }

pub long_process : (x : Scope) → Long (process x) Holds
unfolding process
long_process x = long_process_at 33 x

pub process_long :
    (scope : Scope) (s : List ℕ) (p q : ℕ) (x : Process) → process scope s p ≡ got x q
    → (p + 3 * size x ≤ q) × (p < q) × (q ≤ length s)
process_long scope s p q x e = let w = long_got (long_process scope) s p x q e in (omega arith, omega arith, omega arith)
