use Rattle.std.proofs.Common.{rules}
use Rattle.lines.proofs.WordLaws.{station_shown, station_left}
use Rattle.lines.proofs.lines.put_station.Goals as goal

pub returns-then-not-is_empty : goal.returns-then-not-is_empty
returns-then-not-is_empty c = search (rules, station_shown)

pub returns-else-not-is_empty : goal.returns-else-not-is_empty
returns-else-not-is_empty c = search (rules, station_left)
