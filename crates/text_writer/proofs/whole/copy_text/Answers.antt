use Rattle.std.proofs.Common.{rules}
use Rattle.text.specs.Writer.{after}
use Rattle.text_writer.proofs.TextLaws.{copied, cut, copied_in, cut_in}
use Rattle.text_writer.proofs.whole.copy_text.Goals as goal

pub returns-then-n-out-clause-value : goal.returns-then-n-out-clause-value
returns-then-n-out-clause-value c =
    cut c.args.text.now _ c.if-n-out.true

pub returns-then-n-out-clause-out_after : goal.returns-then-n-out-clause-out_after
returns-then-n-out-clause-out_after c =
    cut_in c.args.text.now _ c.if-n-out.true

pub returns-clause-value : goal.returns-clause-value
returns-clause-value c =
    copied c.args.text.now _ c.if-n-out.false

pub returns-clause-out_after : goal.returns-clause-out_after
unfolding after
returns-clause-out_after c =
    copied_in c.args.text.now c.args.out.now _ c.if-n-out.false (search rules)
