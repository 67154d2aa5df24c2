use Rattle.std.proofs.Common.{◌-◌}
use Rattle.net.specs.Records.{zero_instruction}
use Rattle.lexemes.specs.Progress.{Resumes}
use Rattle.fields.specs.Fields.{templateField, fields}
use Rattle.fields.proofs.templates.read_template.Given as goal

abbrev pub invariant-loop-i : goal.invariant-loop-i
invariant-loop-i l =
    Resumes l.initial.r (fields 4 (templateField l.formals l.n) zero_instruction) l.r (fields (4 - l.i) (templateField l.formals l.n) l.c)
