-- The instructions of a process in range are sound and fit (`Compiled.antt` of `linking`), where every start is resolved to an
-- instruction. Assumes nothing.
use Prim.Native.Nat.{ℕ, suc, ◌+◌, ◌<◌, ◌≤◌}
use mathlib.Core.Path.{◌≡◌, refl, ap, ◌∙◌}
use mathlib.Core.Bool.{Bool, true, false}
use mathlib.Core.List.{List}
use native.Mathlib.Omega.{arith}
use lib.ListN.{length, length-append}
use borrow.Author.Tests.{eq-eqb, lt-ltb}
use Rattle.net.specs.Choice.{choose}
use Rattle.net.specs.Records.{zero_instruction, with_action}
use Rattle.net.proofs.ReadingLaws.{never}
use Rattle.sound.proofs.CodeFacts.{Acts}
use Rattle.sound.proofs.Drafts.{stop_ok, Communicates, out_ok, in_ok, read_ok, out_all_ok}
use Rattle.fresh.specs.Fresh.{action_fits}
use Rattle.fresh.proofs.FitLaws.{zero_instruction_fits}
use Rattle.terms.specs.Terms.{Process, Action, nil, name, fork, act, out, input, read, eval, newloc, out_all}
use Rattle.terms.specs.Numbering.{size, size_in, Start, here, called, start_of, instruction_of, fork_of, code_of, code_in, uses, uses_in}
use Rattle.texts.specs.Types.{Scope, Place, Instruction}
use Rattle.texts.proofs.Terms.{Fit, FitIn}
use Rattle.texts.proofs.Each.{Each, none, more, each_both}
use Rattle.texts.proofs.FreshParts.{InstructionFresh, bare_fits}

-- ---- how many instructions there are
mutual
  unfolding code_of size

  pub code_length : (place : Start → Place) (m : ℕ) (p : Process) → length (code_of place m p) ≡ size p
  code_length place m nil = refl
  code_length place m (name k) = refl
  code_length place m (fork p q) =
      ap suc (length-append (code_of place (suc m) p) (code_of place (suc m + size p) q)
      ∙ ap (λ (x : ℕ). x + length (code_of place (suc m + size p) q)) (code_length place (suc m) p)
      ∙ ap (λ (x : ℕ). size p + x) (code_length place (suc m + size p) q))
  code_length place m (act a p) =
      ap suc (length-append (code_in place (suc m) a) (code_of place (suc m + size_in a) p)
      ∙ ap (λ (x : ℕ). x + length (code_of place (suc m + size_in a) p)) (inner_length place (suc m) a)
      ∙ ap (λ (x : ℕ). size_in a + x) (code_length place (suc m + size_in a) p))

  inner_length : (place : Start → Place) (m : ℕ) (a : Action) → length (code_in place m a) ≡ size_in a
  inner_length place m (out c t) = refl
  inner_length place m (input c t) = refl
  inner_length place m (read c t) = refl
  inner_length place m (eval p t) = code_length place m p
  inner_length place m (newloc v) = refl
  inner_length place m (out_all c g) = refl

-- a name that one of two uses, both use
pub in_first : (a b : Bool) → a ≡ true → choose a true b ≡ true
unfolding choose
in_first true b e = refl
in_first false b e = never e

pub in_second : (a b : Bool) → b ≡ true → choose a true b ≡ true
unfolding choose
in_second true b e = refl
in_second false b e = e

-- ---- instructions in range: k of them, x what addresses and sets are judged by, and every start that is called is resolved to one
-- of them
module _ (x : Scope) (k : ℕ) (place : Start → Place) (Right : ℕ → Type 0)
    (at_here : (m : ℕ) → m < k → (place (here m)).0 < k) (at_name : (j : ℕ) → Right j → (place (called j)).0 < k) where
  -- the names that a process uses are right
  abbrev pub Uses : Process → Type 0
  Uses p = (j : ℕ) → uses j p ≡ true → Right j

  abbrev pub UsesIn : Action → Type 0
  UsesIn a = (j : ℕ) → uses_in j a ≡ true → Right j

  pub start_below : (m : ℕ) (p : Process) → m + size p ≤ k → Uses p → (place (start_of m p)).0 < k
  unfolding start_of size uses
  start_below m nil h u = at_here m (omega arith)
  start_below m (name j) h u = at_name j (u j (eq-eqb j j refl))
  start_below m (fork p q) h u = at_here m (omega arith)
  start_below m (act a p) h u = at_here m (omega arith)

  instruction_good :
      (m : ℕ) (a : Action) (q : Start) → suc m + size_in a ≤ k → FitIn x a → UsesIn a → (place q).0 < k
      → InstructionFresh x k (instruction_of place m a q)
  unfolding instruction_of size_in FitIn uses_in Acts with_action zero_instruction Communicates action_fits
  instruction_good m (out c t) q h f u l = (out_ok x.format x.addresses k t (place q) c f.1 l (f.0.sound _), f.0.fits _ refl)
  instruction_good m (input c t) q h f u l = (in_ok x.format x.addresses k t (place q) c f.1 l (f.0.sound _), f.0.fits _ refl)
  instruction_good m (read c t) q h f u l = (read_ok x.format x.addresses k t (place q) c f.1 l (f.0.sound _), f.0.fits _ refl)
  instruction_good m (eval p t) q h f u l = ((f.1, start_below (suc m) p h u, l, refl), bare_fits _ refl)
  instruction_good m (newloc v) q h f u l = ((f, l, refl), bare_fits _ refl)
  instruction_good m (out_all c g) q h (ok, s, two) u l =
      (out_all_ok x.format x.addresses k g (place q) c two s.sound l (ok.sound _), ok.fits _ (lt-ltb _ 65536 s.fits))

  fork_good : (p q : Start) → (place p).0 < k → (place q).0 < k → InstructionFresh x k (fork_of place p q)
  unfolding fork_of Acts with_action zero_instruction action_fits
  fork_good p q h g = ((h, g, refl), bare_fits _ refl)

  abbrev pub Good : List Instruction → Type 0
  Good = Each (InstructionFresh x k)

  mutual
    unfolding code_of size Fit uses

    pub code_good : (m : ℕ) (p : Process) → m + size p ≤ k → Fit x p → Uses p → Good (code_of place m p)
    code_good m nil h f u = more (stop_ok x.format x.addresses k, zero_instruction_fits) none
    code_good m (name j) h f u = none
    code_good m (fork p q) h f u =
        let up : Uses p = λ j e. u j (in_first (uses j p) (uses j q) e) in
        let uq : Uses q = λ j e. u j (in_second (uses j p) (uses j q) e) in
        more
        (fork_good (start_of (suc m) p) (start_of (suc m + size p) q) (start_below (suc m) p (omega arith) up)
        (start_below (suc m + size p) q (omega arith) uq))
        (each_both _ _ (code_good (suc m) p (omega arith) f.0 up) (code_good (suc m + size p) q (omega arith) f.1 uq))
    code_good m (act a p) h f u =
        let ua : UsesIn a = λ j e. u j (in_first (uses_in j a) (uses j p) e) in
        let up : Uses p = λ j e. u j (in_second (uses_in j a) (uses j p) e) in
        more (instruction_good m a (start_of (suc m + size_in a) p) (omega arith) f.0 ua (start_below (suc m + size_in a) p (omega arith) up))
        (each_both _ _ (inner_good (suc m) a (omega arith) f.0 ua) (code_good (suc m + size_in a) p (omega arith) f.1 up))

    inner_good : (m : ℕ) (a : Action) → m + size_in a ≤ k → FitIn x a → UsesIn a → Good (code_in place m a)
    inner_good m (out c t) h f u = none
    inner_good m (input c t) h f u = none
    inner_good m (read c t) h f u = none
    inner_good m (eval p t) h f u = code_good m p h f.0 u
    inner_good m (newloc v) h f u = none
    inner_good m (out_all c g) h f u = none
