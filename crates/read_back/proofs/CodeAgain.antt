-- The code of a fresh net, again from its source (`Compiled.antt` of `linking`): each definition gives its instruction, and behind the
-- last stand zero records. Assumes nothing.
use Prim.Native.Nat.{ℕ, ◌+◌, ◌-◌}
use mathlib.Core.Path.{◌≡◌, ap, ◌∙◌}
use mathlib.Core.List.{List, ◌++◌, append-nil}
use native.Mathlib.Omega.{arith}
use lib.ListN.{length, take, drop, replicate, length-replicate, get_or-replicate}
use lib.Seq.{length-take-le, sets-eq}
use Rattle.net.specs.Records.{zero_instruction, empty_net, instruction_at}
use Rattle.net.proofs.Past.{past_instruction}
use Rattle.text.specs.Buffer.{over}
use Rattle.terms.specs.Numbering.{Start}
use Rattle.linking.specs.Compiled.{place_in, code_from}
use Rattle.written.proofs.WrittenWhole.{NetOk}
use Rattle.read_back.specs.Types.{Place, Instruction, Net}
use Rattle.read_back.specs.NetSource.{definitions_of, lines_of}
use Rattle.read_back.proofs.Listed.{listed_take, rest_is, filled_is}
use Rattle.read_back.proofs.LineLists.{code_append}
use Rattle.read_back.proofs.Definitions.{definitions, definitions_code}
use Rattle.read_back.proofs.Located.{located_code}
use Rattle.read_back.proofs.NetLines.{code_at, located, few_instructions, code_ok, all_located, names_stand}

module _ (s : Net) (ok : NetOk s) where
  abbrev place : Start → Place
  place = place_in (lines_of s)

  lines_code : code_from place 0 (lines_of s) ≡ take s.length s.code
  unfolding lines_of definitions_of instruction_at
  lines_code =
      let few = few_instructions s ok in
      code_append place 0 (definitions (code_at s) s.length) (located s)
      ∙ ap (λ (cs : List Instruction). code_from place 0 (definitions (code_at s) s.length) ++ cs)
      (located_code place _ (located s) (all_located s ok))
      ∙ append-nil (code_from place 0 (definitions (code_at s) s.length))
      ∙ definitions_code (code_at s) place s.length (λ i m h. (code_ok s ok i h).again place (names_stand s ok) m)
      ∙ listed_take s.code past_instruction s.length (omega (arith, ok.code_ok.size_is))

  pub code_again : over empty_net.code 0 (code_from (place_in (lines_of s)) 0 (lines_of s)) ≡ s.code
  unfolding over empty_net
  code_again =
      let zeros : List Instruction = replicate 512 zero_instruction in
      let few = few_instructions s ok in
      let size = ok.code_ok.size_is in
      let long : length (take s.length s.code) ≡ s.length = length-take-le s.length s.code (omega arith) in
      let end : 0 + length (take s.length s.code) ≡ s.length = omega arith in
      let all : length zeros ≡ 512 = length-replicate 512 zero_instruction in
      ap (λ (cs : List Instruction). over zeros 0 cs) lines_code
      ∙ sets-eq (take s.length s.code) zeros 0 (omega arith)
      ∙ ap (λ (i : ℕ). take s.length s.code ++ drop i zeros) end
      ∙ ap (λ (cs : List Instruction). take s.length s.code ++ cs)
      (rest_is zero_instruction past_instruction 512 s.length zeros all
      (λ i l m. get_or-replicate 512 i zero_instruction past_instruction m))
      ∙ filled_is ok.code_ok
