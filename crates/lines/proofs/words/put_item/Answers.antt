use Rattle.std.proofs.Common.{rules}
use Rattle.lines.proofs.WordLaws.{item_reading, item_address}
use Rattle.lines.proofs.words.put_item.Goals as goal

pub returns-in-Reading : goal.returns-in-Reading
returns-in-Reading c = search (rules, item_reading)

pub returns-in-Address : goal.returns-in-Address
returns-in-Address c = search (rules, item_address)
