use Rattle.std.proofs.Common.{◌-◌, ◌≤◌}
use Rattle.readers.specs.Reader.{each, turns}
use Rattle.lexemes.specs.Lexemes.{another}
use Rattle.lexemes.specs.Progress.{Resumes}
use Rattle.lexemes.proofs.reader.TextReader.rest.Given as goal

abbrev pub invariant-loop-i : goal.invariant-loop-i
invariant-loop-i l =
    Resumes l.initial.self (each 10 (another l.limit) l.initial.v) l.self (turns (10 - l.i) l.i (another l.limit) l.v) × (l.v ≤ l.limit)
