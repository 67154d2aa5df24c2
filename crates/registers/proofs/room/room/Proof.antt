-- `registers::room::room` meets its contract. Assumes nothing.
use Prim.Native.Nat.{ℕ}
use mathlib.Core.Path.{◌≡◌, sym}
use lib.ListN.{length, replicate, length-replicate}
use Rattle.registers.specs.Longest.{longest}
use Rattle.registers.proofs.room.room.Statement.{statement}
use Rattle.registers.proofs.room.room.Tie as tie

-- said of every number, so that no check walks the whole array
count : (n : ℕ) → n ≡ length {A = ℕ} (replicate n 0)
count n = sym (length-replicate n 0)

pub room_spec : {M : Type 1} → statement M
unfolding longest
room_spec = tie.close (tie.spec (λ c. count longest))
