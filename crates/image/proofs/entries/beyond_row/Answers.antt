use borrow.Author.Rules.{rules}
use Rattle.image.proofs.LayoutLaws.{beyond_end, beyond_entry}
use Rattle.image.proofs.entries.beyond_row.Goals as goal

pub returns-in-Ok : goal.returns-in-Ok
returns-in-Ok c = search (rules, beyond_end)

pub returns-in-Err : goal.returns-in-Err
returns-in-Err c = beyond_entry _ _ _ _ c.requires.begun _ c.in-Err.ensures c.at-in-Err.ensures
