-- What a step comes to: it is performed, or refused with the net unchanged; a stop, and nothing else, ends the process.
-- Assumes nothing.
use Prim.Native.Nat.{ℕ, ◌<◌}
use mathlib.Core.Bool.{Bool}
use native.Mathlib.Omega.{arith}
use Rattle.std.specs.Prelude.{Option, Some, None}
use Rattle.net.specs.Choice.{choose}
use Rattle.net.proofs.Every.{chosen}
use Rattle.rules.specs.Types.{Locality, Place, Process, Action, Evaluated, Net}
use Rattle.rules.specs.Types.{Answer, Picked, Request}
use Rattle.plans.specs.Answer.{number_of}
use Rattle.plans.specs.Request.{at, spoken, asked}
use Rattle.step.specs.Pick.{unchanged, performed, stopped, out, input, in_found, read, read_found, started_in, eval}
use Rattle.step.specs.Pick.{out_all, fork, create, carried_out, acting}

pub data ComesTo (s : Net) (a : Locality) (k : ℕ) : Action → Picked → Type 0 where
  performs : {x : Action} (n : Net) → ComesTo s a k x (performed n)
  refuses : {x : Action} (n : Answer) → 1 < number_of n → ComesTo s a k x (unchanged n s)
  ends : ComesTo s a k Action.Stop (stopped s a k)

module _ (s : Net) (a : Locality) (k : ℕ) (x : Action) where
  in_outcome : (l : Locality) (q : Place) (f : Option ℕ) (p : Process) → ComesTo s a k x (in_found s a k l q f p)
  unfolding in_found number_of
  in_outcome l q (Some i) p = performs _
  in_outcome l q None p = refuses Answer.NoTuple (omega arith)

  read_outcome : (q : Place) (f : Option ℕ) (p : Process) → ComesTo s a k x (read_found s a k q f p)
  unfolding read_found number_of
  read_outcome q (Some i) p = performs _
  read_outcome q None p = refuses Answer.NoTuple (omega arith)

  started_outcome :
      (l : Locality) (p copy : Process) (q : Place) (j : Option ℕ) → ComesTo s a k x (started_in s a k l p copy q j)
  unfolding started_in number_of
  started_outcome l p copy q (Some j) = performs _
  started_outcome l p copy q None = refuses Answer.NoRoom (omega arith)

  -- what is carriedOut, unless a test refuses
  or_refused :
      (b : Bool) (r : Picked) (n : Answer) → 1 < number_of n → ComesTo s a k x r
      → ComesTo s a k x (choose b r (unchanged n s))
  or_refused b r n l h = chosen (ComesTo s a k x) b r _ (λ _. h) (λ _. refuses n l)

  module _ (p : Process) (e : Evaluated) where
    acting_outcome : (r : Request) → ComesTo s a k x (carried_out s a k p e r) → ComesTo s a k x (acting s a k p e r)
    unfolding acting number_of
    acting_outcome r h = or_refused _ _ Answer.NoRight (omega arith) h

    lack_outcome : ComesTo s a k x (acting s a k p e Request.Lack)
    unfolding carried_out number_of
    lack_outcome = acting_outcome Request.Lack (refuses Answer.NotSet (omega arith))

    at_outcome :
        (aim : Option Locality) (f : Locality → Request) → ((l : Locality) → ComesTo s a k x (carried_out s a k p e (f l)))
        → ComesTo s a k x (acting s a k p e (at aim f))
    unfolding at
    at_outcome (Some l) f h = acting_outcome (f l) (h l)
    at_outcome None f h = lack_outcome

    -- a request whose template has to be defined
    told_outcome :
        (r : Request) → ComesTo s a k x (acting s a k p e r)
        → ComesTo s a k x (acting s a k p e (choose e.defined r Request.Lack))
    told_outcome r h =
        chosen (λ y. ComesTo s a k x (acting s a k p e y)) e.defined _ _ (λ _. h) (λ _. lack_outcome)

    spoken_outcome :
        (aim : Option Locality) (f : Locality → Request) → ((l : Locality) → ComesTo s a k x (carried_out s a k p e (f l)))
        → ComesTo s a k x (acting s a k p e (spoken e aim f))
    unfolding spoken
    spoken_outcome aim f h = told_outcome (at aim f) (at_outcome aim f h)

-- by the action
pub outcome :
    (s : Net) (a : Locality) (k : ℕ) (p : Process) (e : Evaluated) (x : Action)
    → ComesTo s a k x (acting s a k p e (asked a p e x))
unfolding asked carried_out out out_all input read eval fork create number_of
outcome s a k p e Action.Stop = acting_outcome s a k _ p e _ ends
outcome s a k p e (Action.Out t q) =
    spoken_outcome s a k _ p e _ _ (λ l. or_refused s a k _ _ _ Answer.NoRoom (omega arith) (performs _))
outcome s a k p e (Action.In t q) = spoken_outcome s a k _ p e _ _ (λ l. in_outcome s a k _ _ _ _ _)
outcome s a k p e (Action.Read t q) = spoken_outcome s a k _ p e _ _ (λ l. read_outcome s a k _ _ _ _)
outcome s a k p e (Action.Eval t sent q) =
    at_outcome s a k _ p e _ _
    (λ l. or_refused s a k _ _ _ Answer.NotWithin (omega arith) (started_outcome s a k _ _ _ _ _ _))
outcome s a k p e (Action.New v q) =
    acting_outcome s a k _ p e _ (or_refused s a k _ _ _ Answer.NoRoom (omega arith) (performs _))
outcome s a k p e (Action.Fork q r) = acting_outcome s a k _ p e _ (started_outcome s a k _ _ _ _ _ _)
outcome s a k p e (Action.OutAll g q) =
    told_outcome s a k _ p e (Request.OutAll g q)
    (acting_outcome s a k _ p e _ (or_refused s a k _ _ _ Answer.NoRoom (omega arith) (performs _)))
