use Rattle.std.proofs.Common.{drop}
use Rattle.lexemes.specs.Lexemes.{word}
use Rattle.lexemes.specs.Progress.{Resumes}
use Rattle.lexemes.proofs.reader.TextReader.word.Given as goal

abbrev pub invariant-loop-c : goal.invariant-loop-c
invariant-loop-c l = Resumes l.initial.self (word l.bytes) l.self (word (drop l.c-index l.bytes))
