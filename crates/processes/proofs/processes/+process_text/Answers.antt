use Rattle.std.proofs.Common.{refl, ap, ◌∙◌, arith}
use lib.Dec.{eqb}
use borrow.Author.Tests.{ne_eqb}
use Rattle.text.specs.Bytes.{bytes}
use Rattle.processes.specs.Types.{Kind}
use Rattle.processes.specs.Reading.{forked, evaluation, action}
use Rattle.processes.specs.Progress.{dotted, entry_for}
use Rattle.processes.proofs.Keeping.{keeps_look, keeps_false, keeps_map, keeps_then, keeps_next, keeps_next_fault, keeps_fail, keeps_via, keeps_via_fault, keeps_pure}
use Rattle.processes.proofs.ProcessLaws.{process_none, process_some, process_started, fork_stored, eval_held, alone_held, act_kept, chained_more, chained_fault, chained_end, chained_out}
use Rattle.processes.proofs.LentLaws.{lent_then}
use Rattle.processes.proofs.processes.+process_text.Goals as goal

pub read_fork-returns-in_err-second-clause-read : goal.read_fork-returns-in_err-second-clause-read
unfolding forked bytes
read_fork-returns-in_err-second-clause-read t c =
    keeps_next _ _ _ _ _ _ _ _ c.in_ok-byte.ensures
    (keeps_via _ _ _ _ _ _ _ _ _ c.in_ok-first.ensures.read
    (λ x s. keeps_next _ _ _ _ _ _ _ _ c.in_ok-word.ensures
    (keeps_via_fault _ _ _ _ _ _ _ _ c.in_err-second.ensures.read c.from_residual-in_err-second.ensures.1)))

pub read_fork-returns-in_err-byte-2-clause-read : goal.read_fork-returns-in_err-byte-2-clause-read
unfolding forked bytes
read_fork-returns-in_err-byte-2-clause-read t c =
    keeps_next _ _ _ _ _ _ _ _ c.in_ok-byte.ensures
    (keeps_via _ _ _ _ _ _ _ _ _ c.in_ok-first.ensures.read
    (λ x f. keeps_next _ _ _ _ _ _ _ _ c.in_ok-word.ensures
    (keeps_via _ _ _ _ _ _ _ _ _ c.in_ok-second.ensures.read
    (λ y s. keeps_next_fault _ _ _ _ _ _ _ c.in_err-byte-2.ensures c.from_residual-in_err-byte-2.ensures.1))))

pub read_fork-returns-clause-read : goal.read_fork-returns-clause-read
unfolding forked bytes
read_fork-returns-clause-read t c =
    keeps_next _ _ _ _ _ _ _ _ c.in_ok-byte.ensures
    (keeps_via _ _ _ _ _ _ _ _ _ c.in_ok-first.ensures.read
    (λ x f. keeps_next _ _ _ _ _ _ _ _ c.in_ok-word.ensures
    (keeps_via _ _ _ _ _ _ _ _ _ c.in_ok-second.ensures.read
    (λ y s. keeps_next _ _ _ _ _ _ _ _ c.in_ok-byte-2.ensures
    (keeps_pure _ _ _ _
    (fork_stored x y c.number-n.result c.in_ok-first.first c.in_ok-second.second c.args.code.now c.number-n.new.self c.read_started.new.code
    c.read_started-2.new.code c.store.new.self _ c.args.code.now.small c.number-n.ensures.number c.number-n.ensures.counted c.number-n.ensures.table
    c.number-n.ensures.used f s (rw c.of.ensures refl) c.store.ensures.table c.store.ensures.count c.store.ensures.used))))))

pub read_eval-returns-clause-read : goal.read_eval-returns-clause-read
unfolding evaluation bytes
read_eval-returns-clause-read t c =
    keeps_next _ _ _ _ _ _ _ _ c.in_ok-word.ensures
    (keeps_via _ _ _ _ _ _ _ _ _ c.in_ok-sent.ensures.read
    (λ x s. keeps_then _ _ _ _ _ _ _ _ c.in_ok-target.ensures
    (keeps_pure _ _ _ _
    (eval_held x c.in_ok-target.target c.args.n c.target_word.result c.in_ok-sent.sent c.args.code.now c.read_started.new.code _ c.entry_for-entry.result s
    c.target_word.ensures (c.entry_for-entry.ensures ∙ ap (entry_for Kind.Eval c.target_word.result) c.zero.ensures) refl))))

pub read_act-returns-else-peek-eq101-clause-read : goal.read_act-returns-else-peek-eq101-clause-read
unfolding action
read_act-returns-else-peek-eq101-clause-read t c =
    keeps_look _ _ _ _ _ _ c.peek.ensures
    (keeps_false _ _ _ (eqb c.peek.result 101) _ _ _ (ne_eqb _ _ c.if-peek-eq101.false)
    (keeps_map _ _ _ _ _ _ (alone_held c.args.n c.args.code.now c.args.code.now.small) c.read_simple.ensures))

pub read_action-returns-clause-read : goal.read_action-returns-clause-read
unfolding dotted
read_action-returns-clause-read t c =
    keeps_via _ _ _ _ _ _ _ _ _ c.in_ok-entry.ensures.read
    (λ a h. keeps_next _ _ _ _ _ _ _ _ c.in_ok-byte.ensures
    (keeps_pure _ _ _ _
    (act_kept a c.number-n.result c.start_here-next.result c.args.code.now c.number-n.new.self c.read_act.new.code c.store.new.self c.in_ok-entry.entry _
    c.byte.new.self c.args.code.now.small c.number-n.ensures.number c.number-n.ensures.counted c.number-n.ensures.table c.number-n.ensures.used h
    c.start_here-next.ensures refl c.store.ensures.table c.store.ensures.count c.store.ensures.used)))

pub read_chain-returns-then-chain_ends-clause-read : goal.read_chain-returns-then-chain_ends-clause-read
read_chain-returns-then-chain_ends-clause-read t c =
    chained_end _ _ _ _ _ c.loop-i.i _ _ _ _ c.chain_ends.result c.loop-i.invariant.0 c.chain_ends.ensures (omega arith) _ c.if-chain_ends.true c.read_end.ensures.read

pub read_chain-returns-in_err-read_action-clause-read : goal.read_chain-returns-in_err-read_action-clause-read
read_chain-returns-in_err-read_action-clause-read t c =
    chained_fault _ _ _ _ _ c.loop-i.i _ _ _ _ c.chain_ends.result c.loop-i.invariant.0 c.chain_ends.ensures (omega arith) _ _ c.if-chain_ends.false c.in_err-read_action.ensures.read
    c.from_residual.ensures.1

pub read_chain-loop-i-preserved : goal.read_chain-loop-i-preserved
read_chain-loop-i-preserved t c = (
  chained_more _ _ _ _ _ c.loop-i.i _ _ _ _ c.chain_ends.result c.loop-i.invariant.0 c.chain_ends.ensures (omega arith) c.if-chain_ends.false c.in_ok-read_action.ensures.read,
  lent_then _ _ _ c.loop-i.invariant.1 c.in_ok-read_action.ensures.lent,
)

pub read_chain-returns-clause-read : goal.read_chain-returns-clause-read
read_chain-returns-clause-read t c = chained_out _ _ _ _ _ c.loop-i.i _ _ _ (omega arith) c.loop-i.invariant.0 c.at.ensures

pub read_started-returns-then-d-eq0-clause-read : goal.read_started-returns-then-d-eq0-clause-read
read_started-returns-then-d-eq0-clause-read t c = process_none _ _ _ _ _ _ c.if-d-eq0.true (keeps_fail _ _ 32 _ c.at.ensures)

pub read_started-returns-clause-read : goal.read_started-returns-clause-read
read_started-returns-clause-read t c =
    process_some _ _ _ _ _ _ c.if-d-eq0.false (process_started _ _ _ _ _ _ _ _ c.start_here-start.ensures c.in_ok-read_chain.ensures.read)
