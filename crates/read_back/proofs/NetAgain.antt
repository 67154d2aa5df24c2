-- The source of a fresh net is compiled to the net again (`Compiled.antt` of `linking`). Assumes nothing.
use mathlib.Core.Path.{◌≡◌, ap, ◌∙◌}
use mathlib.Core.List.{List}
use Rattle.text.specs.Buffer.{over}
use Rattle.linking.specs.Compiled.{place_in, code_from, with_code, compiled}
use Rattle.written.proofs.WrittenPasses.{net_is}
use Rattle.written.proofs.WrittenWhole.{NetOk}
use Rattle.read_back.specs.Types.{Instruction, Net}
use Rattle.read_back.specs.NetSource.{lines_of, source_of}
use Rattle.read_back.proofs.NodesAgain.{nodes_again}
use Rattle.read_back.proofs.CodeAgain.{code_again}

pub compiled_again : (s : Net) → NetOk s → compiled (source_of s) ≡ s
unfolding compiled source_of with_code
compiled_again s ok =
    let net = nodes_again s ok in
    net_is s _ _ _ _ _ net.format_is net.addresses_are net.length_is net.nodes_are
    (ap (λ (cs : List Instruction). over cs 0 (code_from (place_in (lines_of s)) 0 (lines_of s))) net.code_is ∙ code_again s ok)
