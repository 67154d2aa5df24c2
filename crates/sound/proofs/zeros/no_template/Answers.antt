-- A record of a program has the lengths of its type. Assumes nothing.
use Rattle.std.proofs.Common.{◌∙◌, ap, Bool, eqb}
use mathlib.Core.Bool.{◌&&◌}
use Rattle.net.proofs.Lengths.{instruction_shaped}
use Rattle.sound.proofs.ZeroTests.{no_template_is}
use Rattle.sound.proofs.zeros.no_template.Goals as goal

pub returns : goal.returns
returns c = ap (λ (b : Bool). eqb c.args.c.count 0 && b) (rw c.zero.ensures at c.eq.ensures) ∙ no_template_is c.args.c (instruction_shaped _ _ c.well_formed.0).template_is
