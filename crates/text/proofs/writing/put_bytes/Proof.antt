-- `text::writing::put_bytes` meets its contract. Assumes nothing.
use Prim.Native.Nat.{◌-◌, ◌≤◌}
use lib.ListN.{length, take}
use Rattle.text.specs.Writing.{Wrote}
use Rattle.text.proofs.WritingLaws.{wrote_nothing, wrote_length, wrote_more, wrote_all}
use borrow.Author.Rules.{rules}
use Rattle.text.proofs.writing.put_bytes.Statement.{statement}
use Rattle.text.proofs.writing.put_bytes.Tie as tie

abbrev invariant-loop-i : tie.invariant-loop-i
invariant-loop-i out₀ at bytes next₀ i₀ out next i = Wrote out₀ at (take i bytes) out next × (i ≤ length bytes)

abbrev decreases-loop-i : tie.decreases-loop-i
decreases-loop-i out₀ at bytes next₀ i₀ out next i = length bytes - i

pub put_bytes_spec : {M : Type 1} → statement M
put_bytes_spec =
    tie.close
    (tie.spec
    invariant-loop-i
    decreases-loop-i
    (λ c. search (rules, wrote_nothing))
    (λ c. search rules)
    (λ c κs. search rules)
    (λ c. search rules)
    (λ c. search rules)
    (λ c. search (rules, wrote_more))
    (λ c. search (rules, wrote_length))
    (λ c. search (rules, wrote_all)))
