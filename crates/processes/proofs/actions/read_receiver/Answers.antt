use Rattle.std.proofs.Common.{refl, sym, ◌∙◌}
use lib.Dec.{eqb}
use Rattle.net.specs.Choice.{both}
use Rattle.net.proofs.AllLaws.{and_both}
use Rattle.processes.specs.Reading.{receiving, to_one, to_all}
use Rattle.processes.proofs.Keeping.{keeps_look, keeps_true, keeps_false, keeps_then, keeps_pure}
use Rattle.processes.proofs.ActionLaws.{out_alone, all_alone}
use Rattle.processes.proofs.actions.read_receiver.Goals as goal

pub returns-in_ok-group : goal.returns-in_ok-group
unfolding receiving to_one to_all
returns-in_ok-group c =
    keeps_look _ _ _ _ _ _ c.peek.ensures
    (keeps_true _ _ _ _ _ _ _ (sym (and_both _ _ _ _ refl refl) ∙ c.if-peek-scope.true)
    (keeps_then _ _ _ _ _ _ _ _ c.in_ok-group.ensures
    (keeps_pure _ _ _ _ (all_alone _ _ _ _ refl c.entry_for.ensures))))

pub returns-in_ok-target : goal.returns-in_ok-target
unfolding receiving to_one to_all
returns-in_ok-target c =
    keeps_look _ _ _ _ _ _ c.peek.ensures
    (keeps_false _ _ _ (both (eqb c.peek.result 123) (eqb c.args.scope.format 2)) _ _ _ (sym (and_both _ _ _ _ refl refl) ∙ c.if-peek-scope.false)
    (keeps_then _ _ _ _ _ _ _ _ c.in_ok-target.ensures
    (keeps_pure _ _ _ _ (out_alone _ _ _ _ c.target_word.ensures c.entry_for-else-peek-scope.ensures))))
