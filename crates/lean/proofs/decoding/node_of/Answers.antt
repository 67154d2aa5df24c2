-- Assumes nothing.
use Rattle.std.proofs.Common.{[]}
use Rattle.lean_words.specs.Processes.{process_in}
use Rattle.lean_words.specs.Stores.{tuple_in}
use Rattle.lean_words.specs.Rights.{row_in}
use Rattle.lean.specs.Words.{node_with, processes_in, tuples_in, rows_in}
use Rattle.lean.proofs.CopyLaws.{four_filled, sixteen_filled}
use Rattle.lean.proofs.decoding.node_of.Goals as goal

pub returns : goal.returns
unfolding node_with processes_in tuples_in rows_in
returns c = λ d. record {
  rows = sixteen_filled _ _ _ c.zero-rows.ensures _ (c.fill.ensures [] row_in (λ x y p. p)) d;
  processes = four_filled _ _ _ c.free-processes.ensures _ (c.fill-2.ensures [] process_in (λ x y p. p)) d;
  stored = c.args.stored;
  tuples = sixteen_filled _ _ _ c.zero-tuples.ensures _ (c.fill-3.ensures [] tuple_in (λ x y p. p)) d;
}
