use Rattle.names.proofs.EntryLaws.{entry_tested}
use Rattle.names.proofs.entries.test_entry.Goals as goal

pub returns : goal.returns
returns c = rw (c.and-2.ensures, c.and.ensures) (entry_tested _ _ _ _ _ c.test_length-size.ensures c.test_end-end.ensures c.test_letters-letters.ensures)
