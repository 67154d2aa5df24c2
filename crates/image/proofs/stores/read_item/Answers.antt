use borrow.Author.Rules.{rules}
use Rattle.bitreader.proofs.ReadsLaws.{reading}
use Rattle.bitreader.specs.BitReader.{bits}
use Rattle.image.specs.Image.{item, reading_item, address_item}
use Rattle.image.proofs.ImageLaws.{item_reading, item_address}
use Rattle.image.proofs.stores.read_item.Goals as goal

pub returns-in_err-take : goal.returns-in_err-take
unfolding item bits reading_item address_item
returns-in_err-take c = search (rules, reading, item_reading, item_address)

pub returns-in_err-reading : goal.returns-in_err-reading
unfolding item bits reading_item address_item
returns-in_err-reading c = search (rules, reading, item_reading, item_address)

pub returns-in_err-address : goal.returns-in_err-address
unfolding item bits reading_item address_item
returns-in_err-address c = search (rules, reading, item_reading, item_address)

pub returns-in_ok-reading : goal.returns-in_ok-reading
unfolding item bits reading_item address_item
returns-in_ok-reading c = search (rules, reading, item_reading, item_address)

pub returns-in_ok-address : goal.returns-in_ok-address
unfolding item bits reading_item address_item
returns-in_ok-address c = search (rules, reading, item_reading, item_address)
