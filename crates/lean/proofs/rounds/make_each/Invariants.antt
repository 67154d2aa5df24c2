-- Assumes nothing.
use Rattle.std.proofs.Common.{◌≤◌, length}
use Rattle.lean.specs.Words.{words_with}
use Rattle.lean.specs.Rounds.{tables_with}
use Rattle.lean.specs.Standing.{Making}
use Rattle.lean.proofs.rounds.make_each.Given as goal

abbrev pub invariant-loop-i : goal.invariant-loop-i
invariant-loop-i l =
    Making (tables_with l.tables.heads.now l.tables.fields.now l.tables.sets.now l.tables.needs.now l.tables.format)
    (words_with l.fn.n l.fn.procs l.fn.stored l.fn.tuples l.fn.rows) l.picks l.fn.answers
    (words_with l.n l.procs l.stored l.tuples l.rows) l.i l.answers
    × (length l.picks ≤ length l.fn.answers)
