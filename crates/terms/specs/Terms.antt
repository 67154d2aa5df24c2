-- Processes and actions as a planner writes them, as trees (document 01, "The planners' notation"; document 004, table 1; for
-- sets document 02, slip 13):
-- beside each constructor stands its piece of the notation. A template is an instruction's, with no action yet.
use Rattle.std.specs.Prelude.{ℕ}
use Rattle.terms.specs.Types.{Target, Group, Instruction}

mutual
  -- P
  pub data Process : Type 0 where
    nil : Process  -- nil
    name : ℕ → Process  -- A3
    fork : Process → Process → Process  -- (P | P)
    act : Action → Process → Process  -- an action, a dot and P

  -- an action
  pub data Action : Type 0 where
    out : Instruction → Target → Action  -- out(5,@1,self,v0)@1
    input : Instruction → Target → Action  -- in(!x0,!u1)@self
    read : Instruction → Target → Action  -- read(!x0)@v2
    eval : Process → Target → Action  -- eval(P)@0
    newloc : ℕ → Action  -- newloc(u2)
    out_all : Instruction → Group → Action  -- out(5)@{0,2}
