-- Reading a pick back: one that was answered 0 or 1 passed every test of `specs/Pick.antt`, whose refusals have higher
-- numbers.
-- Assumes nothing.
use Prim.Native.Nat.{ℕ, ◌<◌, ◌≤◌}
use mathlib.Core.Path.{◌≡◌, refl, ap}
use mathlib.Core.Bool.{Bool, true, false}
use native.Mathlib.Omega.{arith}
use borrow.Author.Tests.{ltb-true, eqb-true}
use Rattle.std.specs.Prelude.{Option, Some, None}
use Rattle.net.specs.Choice.{choose}
use Rattle.net.specs.Records.{node_at, process_at, instruction_at, row_for}
use Rattle.sound.specs.Soundness.{sound_of}
use Rattle.rules.specs.Types.{Locality, Process, Evaluated, Net}
use Rattle.rules.specs.Types.{Answer, Picked, Request}
use Rattle.plans.specs.Answer.{number_of}
use Rattle.plans.specs.Request.{at, spoken, granted}
use Rattle.step.specs.Pick.{host_of, slot_of, spare_of, unchanged, carried_out, acting, process_step, slot_step}
use Rattle.step.specs.Pick.{step_of, pick_of}

-- what was picked is the answer w with the net after
pub record Gave (w : Answer) (after : Net) (x : Picked) : Type 0 where
  pub is : x ≡ record { answer = w; net = after }

-- the test was passed
pub record Passed (w : Answer) (after : Net) (b : Bool) (x : Picked) : Type 0 where
  pub test : b ≡ true
  pub rest : Gave w after x

module _ {w : Answer} {after : Net} where
  pub same_number : {x : Picked} → Gave w after x → number_of x.answer ≡ number_of w
  same_number h = ap (λ (y : Picked). number_of y.answer) h.is

  module _ (final : number_of w ≤ 1) where
    pub refused : (n : Answer) (s : Net) → 1 < number_of n → Gave w after (unchanged n s) → ⊥
    unfolding unchanged
    refused n s l h = let same = same_number h in omega arith

    pub through :
        (n : Answer) (s : Net) (b : Bool) (x : Picked)
        → 1 < number_of n
        → Gave w after (choose b x (unchanged n s))
        → Passed w after b x
    unfolding choose
    through n s true x l h = record { test = refl; rest = h }
    through n s false x l h = absurd (refused n s l h)

-- ---- what acted: not a lack, and with the right
module _ (w : Answer) (after : Net) (s : Net) (a : Locality) (k : ℕ) (p : Process) (e : Evaluated) where
  -- the target pointed to an address
  pub record Aimed (aim : Option Locality) (f : Locality → Request) : Type 0 where
    pub l : Locality
    pub points : aim ≡ Some l
    pub acts : Gave w after (acting s a k p e (f l))

  -- and the template was defined
  pub record Spoke (d : Bool) (aim : Option Locality) (f : Locality → Request) : Type 0 where
    pub defined : d ≡ true
    pub aims : Aimed aim f

module _ {w : Answer} {after : Net} (final : number_of w ≤ 1) (s : Net) (a : Locality) (k : ℕ) (p : Process) (e : Evaluated) where
  lack : Gave w after (acting s a k p e Request.Lack) → ⊥
  unfolding acting granted carried_out choose number_of
  lack h = refused final Answer.NotSet s (omega arith) h

  pub acted :
      (r : Request) → Gave w after (acting s a k p e r)
      → Passed w after (granted (row_for (node_at s a) p) r) (carried_out s a k p e r)
  unfolding acting number_of
  acted r h =
      through final Answer.NoRight s (granted (row_for (node_at s a) p) r) _ (omega arith) h

  pub aimed :
      (aim : Option Locality) (f : Locality → Request) → Gave w after (acting s a k p e (at aim f))
      → Aimed w after s a k p e aim f
  unfolding at
  aimed (Some l) f h = record { l = l; points = refl; acts = h }
  aimed None f h = absurd (lack h)

  -- a request whose template has to be defined
  pub told :
      (d : Bool) (r : Request)
      → Gave w after (acting s a k p e (choose d r Request.Lack))
      → Passed w after d (acting s a k p e r)
  unfolding choose
  told true r h = record { test = refl; rest = h }
  told false r h = absurd (lack h)

  pub spoke :
      (aim : Option Locality) (f : Locality → Request)
      → Gave w after (acting s a k p e (spoken e aim f))
      → Spoke w after s a k p e e.defined aim f
  unfolding spoken
  spoke aim f h =
      let t = told e.defined (at aim f) h in
      record { defined = t.test; aims = aimed aim f t.rest }

-- ---- what was picked: a busy slot of an address in use, in a sound net
pub record Seated (w : Answer) (after : Net) (s : Net) (b : ℕ) : Type 0 where
  pub sound : sound_of s ≡ true
  pub spare : spare_of b ≡ 0
  pub used : (host_of b).0 < s.addresses
  pub busy : (process_at (node_at s (host_of b)) (slot_of b)).busy ≡ true
  pub acts :
      Gave w after
      (process_step s (host_of b) (slot_of b) (process_at (node_at s (host_of b)) (slot_of b))
      (instruction_at s.code (process_at (node_at s (host_of b)) (slot_of b)).at))

pub seated :
    {w : Answer} {after : Net} → number_of w ≤ 1 → (s : Net) (b : ℕ) → Gave w after (pick_of s b) → Seated w after s b
unfolding pick_of step_of slot_step number_of
seated final s b h =
    let p₁ = through final Answer.Unsound s _ _ (omega arith) h in
    let p₂ = through final Answer.Malformed s _ _ (omega arith) p₁.rest in
    let p₃ = through final Answer.NotInUse s _ _ (omega arith) p₂.rest in
    let p₄ = through final Answer.FreeSlot s _ _ (omega arith) p₃.rest in
    record {
      sound = p₁.test;
      spare = eqb-true _ _ p₂.test;
      used = ltb-true _ _ p₃.test;
      busy = p₄.test;
      acts = p₄.rest;
    }
