use Rattle.std.proofs.Common.{rules, refl, get_or}
use Rattle.lines.specs.Lines.{pick_lines}
use Rattle.lines.proofs.WordLaws.{picks_step, picks_end}
use Rattle.lines.proofs.lines.put_picks.Goals as goal

pub loop-i-preserved : goal.loop-i-preserved
loop-i-preserved c = picks_step c.args.out.now c.loop-i.out c.put_pick.new.out c.args.picks.now c.args.answers.now c.loop-i.i (get_or c.args.picks.now c.loop-i.i 0) _ c.loop-i.invariant refl c.answer_at.ensures c.put_pick.ensures

pub returns : goal.returns
unfolding pick_lines
returns c = search (rules, picks_end)
