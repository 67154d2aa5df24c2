-- The claims of `specs/ReadBackClaims.antt`. Assumes nothing.
use native.Mathlib.Omega.{arith}
use lib.ListN.{length-append}
use Rattle.sources.specs.Printed.{policy_text, lines_text, printed}
use Rattle.sources.specs.SourceClaims.{TextIsSource}
use Rattle.sources.proofs.SourceClaims.{text_is_source}
use Rattle.read_back.specs.NetSource.{policy_of, lines_of, source_of, text_of}
use Rattle.read_back.specs.ReadBackClaims.{ReadBack, longest_text, WrittenInBounds}
use Rattle.read_back.proofs.PolicyAgain.{policy_formed}
use Rattle.read_back.proofs.RowsShort.{policy_short}
use Rattle.read_back.proofs.LinesShort.{lines_short}
use Rattle.read_back.proofs.FreshSource.{fresh_apart, source_of_law}

-- by what a text is
pub read_back : ReadBack
unfolding TextIsSource ReadBack
read_back s h = (text_is_source (text_of s) s).1 (source_of_law s h)

pub written_in_bounds : WrittenInBounds
unfolding WrittenInBounds longest_text text_of source_of printed
written_in_bounds s h =
    let fresh = fresh_apart s h in
    omega (
      arith,
      length-append (policy_text (policy_of s)) (lines_text (lines_of s)),
      policy_short (policy_of s) (policy_formed s fresh.ok),
      lines_short s fresh.ok,
    )
