use Rattle.std.proofs.Common.{rules}
use Rattle.text.proofs.DecimalLaws.{wrote_digit, wrote_digits}
use Rattle.text.proofs.decimal.+put_decimal.Goals as goal

-- src/decimal.rt
pub returns-then-n-lt10 : goal.returns-then-n-lt10
returns-then-n-lt10 t c = search (rules, wrote_digit, wrote_digits)

-- src/decimal.rt
pub returns-else-n-lt10 : goal.returns-else-n-lt10
returns-else-n-lt10 t c = search (rules, wrote_digit, wrote_digits)
