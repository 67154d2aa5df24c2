use Rattle.std.proofs.Common.{rules}
use Rattle.net.proofs.AllLaws.{and_both}
use Rattle.sound.specs.Soundness.{is_none}
use Rattle.text_writer.proofs.policies.is_none.Goals as goal

pub returns : goal.returns
unfolding is_none
returns c =
    search (rules, and_both)
