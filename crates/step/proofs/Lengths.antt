-- The net of a machine that a running program holds has the lengths of `specs/Shape.antt` of `net`. Assumes nothing.
use mathlib.Core.List.{List}
use mir.Val.{Val}
use denote.Laws.{Is}
use denote.Struct.Declared.{row}
use Rattle.net.specs.Shape.{Shaped}
use Rattle.net.proofs.Lengths.{net_shaped}
use Rattle.step.specs.declared.machine.Machine.{Machine}
use Rattle.step.specs.contracts.machine.Machine as machine

pub machine_shaped : (m : Machine) (vs : List Val) → Is (row machine.the_type) m vs → Shaped m.net
machine_shaped m vs k = net_shaped m.net _ k.1.1.0
