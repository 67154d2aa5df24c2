use borrow.Author.Rules.{rules}
use Rattle.bitreader.proofs.ReadsLaws.{choosing}
use Rattle.instructions.specs.Instruction.{pattern, reading_pattern, address_pattern, held_pattern, formal_reading, formal_address}
use Rattle.instructions.proofs.template.read_pattern.Goals as goal

pub returns-in_err-read_kind : goal.returns-in_err-read_kind
unfolding pattern reading_pattern address_pattern held_pattern formal_reading formal_address
returns-in_err-read_kind c = search (rules, choosing)

pub returns-in_err-reading-in-0 : goal.returns-in_err-reading-in-0
unfolding pattern reading_pattern address_pattern held_pattern formal_reading formal_address
returns-in_err-reading-in-0 c = search (rules, choosing)

pub returns-in_err-address-in-1 : goal.returns-in_err-address-in-1
unfolding pattern reading_pattern address_pattern held_pattern formal_reading formal_address
returns-in_err-address-in-1 c = search (rules, choosing)

pub returns-in_err-variable-in-3 : goal.returns-in_err-variable-in-3
unfolding pattern reading_pattern address_pattern held_pattern formal_reading formal_address
returns-in_err-variable-in-3 c = search (rules, choosing)

pub returns-in_err-read_fresh-in-4 : goal.returns-in_err-read_fresh-in-4
unfolding pattern reading_pattern address_pattern held_pattern formal_reading formal_address
returns-in_err-read_fresh-in-4 c = search (rules, choosing)

pub returns-in_err-read_fresh-in_default : goal.returns-in_err-read_fresh-in_default
unfolding pattern reading_pattern address_pattern held_pattern formal_reading formal_address
returns-in_err-read_fresh-in_default c = search (rules, choosing)

pub returns-in_ok-reading-in-0 : goal.returns-in_ok-reading-in-0
unfolding pattern reading_pattern address_pattern held_pattern formal_reading formal_address
returns-in_ok-reading-in-0 c = search (rules, choosing)

pub returns-in_ok-address-in-1 : goal.returns-in_ok-address-in-1
unfolding pattern reading_pattern address_pattern held_pattern formal_reading formal_address
returns-in_ok-address-in-1 c = search (rules, choosing)

pub returns-in-2 : goal.returns-in-2
unfolding pattern reading_pattern address_pattern held_pattern formal_reading formal_address
returns-in-2 c = search (rules, choosing)

pub returns-in_ok-variable-in-3 : goal.returns-in_ok-variable-in-3
unfolding pattern reading_pattern address_pattern held_pattern formal_reading formal_address
returns-in_ok-variable-in-3 c = search (rules, choosing)

pub returns-in_ok-read_fresh-in-4 : goal.returns-in_ok-read_fresh-in-4
unfolding pattern reading_pattern address_pattern held_pattern formal_reading formal_address
returns-in_ok-read_fresh-in-4 c = search (rules, choosing)

pub returns-in_ok-read_fresh-in_default : goal.returns-in_ok-read_fresh-in_default
unfolding pattern reading_pattern address_pattern held_pattern formal_reading formal_address
returns-in_ok-read_fresh-in_default c = search (rules, choosing)
