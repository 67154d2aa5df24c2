-- Assumes nothing.
use Rattle.std.proofs.Common.{rules, refl, ap, ◌∙◌}
use Rattle.std.proofs.lemmas.List.{get_or_default}
use Rattle.lean_words.proofs.FilledLaws.{filled_none, filled_more, filled_end}
use Rattle.lean.proofs.filling.fill.Goals as goal

pub loop-i-init : goal.loop-i-init
loop-i-init g c = λ d h e. filled_none _ _ _ refl

pub loop-i-preserved : goal.loop-i-preserved
loop-i-preserved g c = λ d h e.
    filled_more _ _ _ _ _ (c.loop-i.invariant d h e)
    (e _ _ c.f.ensures ∙ ap h (get_or_default c.args.from.now c.loop-i.i c.index-from-i.result d (search rules)))

pub returns : goal.returns
returns g c = λ d h e. filled_end _ _ _ _ _ (c.loop-i.invariant d h e) (search rules) (search rules)
