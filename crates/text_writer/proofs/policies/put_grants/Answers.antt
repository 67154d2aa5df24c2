use Rattle.std.proofs.Common.{◌≡◌, arith, length}
use Rattle.text_writer.proofs.LoopLaws.{part_of_all}
use Rattle.net.specs.Records.{rights_at}
use Rattle.sources.specs.Printed.{grant_text}
use Rattle.net.proofs.Lengths.{row_shaped}
use Rattle.text_writer.proofs.ListLaws.{numbered_all}
use Rattle.text_writer.proofs.PartLaws.{grants_numbered}
use Rattle.text_writer.proofs.policies.put_grants.Goals as goal

pub loop-l-preserved : goal.loop-l-preserved
unfolding rights_at
loop-l-preserved c =
    let long : length c.args.row.rights ≡ 16 = (row_shaped _ _ c.well_formed.1.0).rights_are in
    part_of_all c.args.row.rights c.loop-l.l (omega (arith, long, c.loop-l-test.true)) grant_text _ _ _ _ _ c.loop-l.invariant c.put_grant.ensures

pub returns : goal.returns
unfolding rights_at
returns c =
    let long : length c.args.row.rights ≡ 16 = (row_shaped _ _ c.well_formed.1.0).rights_are in
    numbered_all grants_numbered _ _ _ _ _ 16 c.loop-l.invariant (omega (arith, c.loop-l-test.false, c.loop-l.auto.l-end)) long
