use borrow.Author.Rules.{rules}
use Rattle.bitreader.proofs.ReadsLaws.{reading, turning}
use Rattle.net.specs.Records.{node_at, process_at}
use Rattle.image.specs.Image.{entries_of, entries, entry}
use Rattle.image.proofs.entries.read_node_entries.Goals as goal

pub returns-in_err-count : goal.returns-in_err-count
unfolding entries_of entries
returns-in_err-count c = search (rules, reading)

pub loop-slot-init : goal.loop-slot-init
loop-slot-init c = search (rules, turning)

pub loop-slot-preserved : goal.loop-slot-preserved
unfolding entry process_at
loop-slot-preserved c = search (rules, reading, turning)

pub returns-in_err-code_place : goal.returns-in_err-code_place
unfolding entries_of entries entry node_at
returns-in_err-code_place c = search (rules, reading, turning)

pub returns-in_err-require_in : goal.returns-in_err-require_in
unfolding entries_of entries entry node_at process_at
returns-in_err-require_in c = search (rules, reading, turning)

pub returns : goal.returns
unfolding entries_of entries node_at
returns c = search (rules, reading, turning)
