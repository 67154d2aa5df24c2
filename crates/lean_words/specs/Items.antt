-- Describes the code, and is no part of what a reader has to believe: items and values as words, and back. An address is its number, an
-- unset variable is 256, and readings stand from 257 on, those from 0 up and those below 0 in turn. Each word has an item and a value:
-- what is out of range is clipped, as in the code.
use Rattle.std.specs.Prelude.{ℕ, ◌+◌, ◌-◌, ◌*◌, ◌/◌, ◌%◌, eqb, ltb, leb, ℤ}
use Rattle.net.specs.Choice.{choose}
use Rattle.net.specs.Records.{address_of}
use Rattle.lean_words.specs.Types.{Locality, Item, Value}

unfoldable pub reading_word : ℤ → ℕ
reading_word (ℤ.pos m) = 2 * m + 257
reading_word (ℤ.negsuc m) = 2 * m + 258

unfoldable pub reading_in : ℕ → ℤ
reading_in w = choose (eqb ((w - 257) % 2) 0) (ℤ.pos ((w - 257) / 2 % 2147483648)) (ℤ.negsuc ((w - 257) / 2 % 2147483648))

unfoldable pub address_in : ℕ → Locality
address_in w = address_of (w % 256)

unfoldable pub item_word : Item → ℕ
item_word (Item.Reading x) = reading_word x
item_word (Item.Address l) = l.0

unfoldable pub item_in : ℕ → Item
item_in w = choose (leb w 256) (Item.Address (address_in w)) (Item.Reading (reading_in w))

unfoldable pub value_word : Value → ℕ
value_word Value.Unset = 256
value_word (Value.Reading x) = reading_word x
value_word (Value.Address l) = l.0

unfoldable pub value_in : ℕ → Value
value_in w = choose (ltb w 256) (Value.Address (address_in w)) (choose (eqb w 256) Value.Unset (Value.Reading (reading_in w)))
