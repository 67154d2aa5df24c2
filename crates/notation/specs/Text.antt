-- What a text gives (document 01, "The planners' notation"): the net, or the number of its first fault and the empty net.
pub use Rattle.notation.specs.declared.reading.Verdict.{Verdict}
pub use Rattle.notation.specs.declared.reading.Opened.{Opened}
use Rattle.std.specs.Prelude.{ℕ, List}
use Rattle.net.specs.Choice.{choose, in_range}
use Rattle.net.specs.Records.{empty_net}
use Rattle.keeping.specs.Admission.{admits}
use Rattle.readers.specs.Reader.{Parsed, got, fault}
use Rattle.notation.specs.Types.{Net}
use Rattle.linking.specs.Source.{Source}
use Rattle.notation.specs.Lines.{source}
use Rattle.linking.specs.Names.{names_right}
use Rattle.linking.specs.Compiled.{total, compiled}

unfoldable pub refused : ℕ → Opened
refused n = record { answer = Verdict.Refused n; net = empty_net }

unfoldable pub accepted : Net → Opened
accepted s = record { answer = Verdict.Accepted; net = s }

-- a source that has been read to its end: names (33), the number of instructions (22), rights (30)
unfoldable pub judged_source : Source → Opened
judged_source x =
    choose (names_right x.lines)
    (choose (in_range 1 (total x.lines) 512)
    (choose (admits (compiled x)) (accepted (compiled x)) (refused 30))
    (refused 22))
    (refused 33)

unfoldable pub judged : Parsed Source → Opened
judged (got x p) = judged_source x
judged (fault f) = refused f.number

-- what a text gives
unfoldable pub read_of : List ℕ → Opened
read_of text = judged (source text 0)

-- the paper's number of a verdict; 0 where the text is accepted
unfoldable pub number_of : Verdict → ℕ
number_of Verdict.Accepted = 0
number_of (Verdict.Refused n) = n
