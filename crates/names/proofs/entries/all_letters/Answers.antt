use Rattle.std.proofs.Common.{rules}
use Rattle.names.proofs.EntryLaws.{letters_each}
use Rattle.names.proofs.entries.all_letters.Goals as goal

pub returns : goal.returns
returns c = letters_each _ _ (search rules)
