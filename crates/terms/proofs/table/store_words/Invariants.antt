use Rattle.std.proofs.Common.{◌*◌, ◌≡◌, take}
use Rattle.text.specs.Buffer.{over}
use Rattle.terms.proofs.table.store_words.Given as goal

abbrev pub invariant-loop-i : goal.invariant-loop-i
invariant-loop-i l = l.table ≡ over l.fn.table (9 * l.fn.n) (take l.i l.w-items)
