-- The chain answers what `all_members` says of each address. Assumes nothing.
use Rattle.std.proofs.Common.{rules, tests, ltb, arith}
use Rattle.std.proofs.lemmas.Iterator.{YieldsList-from_range}
use Rattle.net.specs.Choice.{implies}
use Rattle.net.specs.Records.{address_of}
use Rattle.net.specs.Groups.{member, all_members}
use Rattle.sound.specs.Soundness.{group_sound}
use Rattle.net.proofs.AllLaws.{conditions}
use Rattle.net.proofs.AllOver.{all_ranged}
use Rattle.sound.proofs.groups.group_sound.Goals as goal

pub returns : goal.returns
unfolding group_sound all_members
returns c =
    all_ranged 16 (λ i. implies (member c.args.g (address_of i)) (ltb i c.args.n)) _ _ c.all.result c.all.ensures.ran
    (YieldsList-from_range 0 16 16 (search rules) (omega arith)) (λ x b q k. search (rules, tests, conditions))
