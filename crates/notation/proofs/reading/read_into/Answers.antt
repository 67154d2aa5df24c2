use Rattle.std.proofs.Common.{refl}
use Rattle.net.proofs.Lengths.{net_shaped}
use Rattle.rows.proofs.PolicyLaws.{few_addresses, nothing_else}
use Rattle.notation.proofs.TextLaws.{policy_fault, lines_fault, from_begun, text_read}
use Rattle.notation.proofs.reading.read_into.Goals as goal

pub returns-in-Err : goal.returns-in-Err
returns-in-Err c = policy_fault _ _ c.new-r.ensures.bytes c.new-r.ensures.first _ _ _ c.in-Err.ensures c.refuse.ensures

pub read_lines-requires-clause-few : goal.read_lines-requires-clause-few
read_lines-requires-clause-few c = few_addresses _ _ c.in-Ok.ensures.told.stands

pub read_lines-requires-clause-counts : goal.read_lines-requires-clause-counts
read_lines-requires-clause-counts c = nothing_else _ _ c.in-Ok.ensures.told.stands

pub returns-in-Ok-read_lines : goal.returns-in-Ok-read_lines
returns-in-Ok-read_lines c =
    let h = c.in-Ok-read_lines.ensures.told in
    text_read _ _ c.new-r.ensures.bytes c.new-r.ensures.first _ _ _ c.in-Ok.ensures.told _ _ h.read _ _ (search net_shaped)
    (from_begun _ _ _ _ _ _ c.requires.0 c.requires.1.0 c.requires.1.1.0 c.requires.1.1.1.0 c.requires.1.1.1.1) h.holds c.judge_names.ensures

pub returns-in-Err-read_lines : goal.returns-in-Err-read_lines
returns-in-Err-read_lines c =
    lines_fault _ _ c.new-r.ensures.bytes c.new-r.ensures.first _ _ _ c.in-Ok.ensures.told _ _ c.in-Err-read_lines.ensures.told
    c.refuse-in-Err-read_lines.ensures
