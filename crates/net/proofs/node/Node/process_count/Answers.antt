-- The busy slots of a list, counted from either end.
use Rattle.std.proofs.Common.{rules, arith, ◌≡◌, ◌≤◌, count_by, ◌∙◌}
use Rattle.std.proofs.iter.runs.Made.{chains}
use Rattle.net.specs.Records.{Process, process_count, process_at}
use Rattle.net.proofs.FoldLaws.{counted_four}
use Rattle.net.proofs.node.Node.process_count.Goals as goal

pub returns : goal.returns
unfolding process_count process_at
returns c =
    let n : c.count.result ≡ count_by (λ (p : Process). p.busy) c.args.self.processes = search (rules, chains) in
    let four = counted_four (λ (p : Process). p.busy) _ c.args.self.processes (search rules) in
    (n ∙ four.0, omega arith)
