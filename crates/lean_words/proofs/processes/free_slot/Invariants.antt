-- Assumes nothing.
use Rattle.std.proofs.Common.{◌≡◌, ◌≤◌, ◌<◌, ltb, leb, get_or, replicate, [], false, true}
use Rattle.net.proofs.FirstLaws.{Left}
use Rattle.lean_words.proofs.processes.free_slot.Given as goal

abbrev pub invariant-loop-k : goal.invariant-loop-k
invariant-loop-k l = Left 4 (λ i. leb 512 (get_or (get_or l.slots i []) 8 0)) (λ i. i) 4 l.k
