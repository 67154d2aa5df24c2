use Rattle.std.proofs.Common.{◌≡◌, ◌-◌}
use Rattle.linking.specs.NameTable.{start_for, settle_in, settled_in}
use Rattle.linking.proofs.names.settle.Given as goal

abbrev pub invariant-loop-hops : goal.invariant-loop-hops
invariant-loop-hops l = settled_in l.bodies (start_for l.fn.from) ≡ settle_in (512 - l.hops) l.bodies (start_for l.start)
