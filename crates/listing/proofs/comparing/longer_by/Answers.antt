use Rattle.std.proofs.Common.{rules}
use Rattle.net.proofs.Laws.{branches}
use Rattle.listing.specs.Comparing.{longer}
use Rattle.listing.proofs.Digits.{digit_low}
use Rattle.listing.proofs.comparing.longer_by.Goals as goal

pub overflow_sub-b : goal.overflow_sub-b
overflow_sub-b c = digit_low c.args.b c.requires

pub returns-then-v-lt10000000000 : goal.returns-then-v-lt10000000000
unfolding longer
returns-then-v-lt10000000000 c = search (rules, branches)

pub returns-else-v-lt10000000000 : goal.returns-else-v-lt10000000000
unfolding longer
returns-else-v-lt10000000000 c = search (rules, branches)
