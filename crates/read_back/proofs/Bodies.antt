-- The body of an instruction's definition (`body_of` of `specs/NetSource.antt`): one instruction long, and nothing but its name to
-- whoever calls it. Assumes nothing.
use Prim.Native.Nat.{ℕ}
use mathlib.Core.Path.{◌≡◌, refl}
use Rattle.terms.specs.Numbering.{size, size_in, here, start_of}
use Rattle.read_back.specs.Types.{Action, Instruction}
use Rattle.read_back.specs.NetSource.{named, process_of, body_of}

pub size_one : (c : Instruction) → size (body_of c) ≡ 1
unfolding body_of process_of named size size_in start_of
size_one c = go c.action
  where
    go : (a : Action) → size (process_of c a) ≡ 1
    go Action.Stop = refl
    go (Action.Out t p) = refl
    go (Action.In t p) = refl
    go (Action.Read t p) = refl
    go (Action.Eval t sent p) = refl
    go (Action.New v p) = refl
    go (Action.Fork p q) = refl
    go (Action.OutAll g p) = refl

pub starts_here : (n : ℕ) (c : Instruction) → start_of n (body_of c) ≡ here n
unfolding body_of process_of named size size_in start_of
starts_here n c = go c.action
  where
    go : (a : Action) → start_of n (process_of c a) ≡ here n
    go Action.Stop = refl
    go (Action.Out t p) = refl
    go (Action.In t p) = refl
    go (Action.Read t p) = refl
    go (Action.Eval t sent p) = refl
    go (Action.New v p) = refl
    go (Action.Fork p q) = refl
    go (Action.OutAll g p) = refl
