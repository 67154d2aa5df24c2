-- What a step adds to a net: the tuple of an out, and the rights on a new address (document 01, "One pick").
use Rattle.std.specs.Prelude.{ℕ, List, eqb, ltb, set, ℤ}
use Rattle.net.specs.Choice.{choose, fold}
use Rattle.net.specs.Records.{with_field, with_rights, zero_tuple, all_rights, alike, zero_row, row_at, row_for}
use Rattle.matching.specs.Matching.{want_at}
use Rattle.plans.specs.Types.{Locality, Item, Tuple, Row, Process, Node, Want, Evaluated}

-- the tuple of an out: its field values. A formal, which a sound net's out does not have, counts as nought
unfoldable pub item_of : Want → Item
item_of (Want.Exactly x) = x
item_of (Want.AnyReading v) = Item.Reading (ℤ.pos 0)
item_of (Want.AnyAddress v) = Item.Reading (ℤ.pos 0)

unfoldable pub tuple_of : Evaluated → Tuple
tuple_of e = fold 4 (λ i t. choose (ltb i e.count) (with_field t (record { item = item_of (want_at e i) })) t) zero_tuple

-- the row with every right on an address
unfoldable pub gaining : Row → Locality → Row
gaining r l = with_rights r l all_rights

-- ---- the rows after a new, in a net of format f: the process p, hosted at the node x of address a, opens the address l
-- (document 01, "One pick"; document 02, slip 10)

-- the creator's row for itself; an empty one where it has no address, which no sound net has
unfoldable pub own_row : Node → Locality → Row
own_row x a = choose (ltb a.0 16) (row_at x a) zero_row

-- the new node's rows. In format 1 "the new row is a copy of the creator's as it stood, plus i, r, o, e on itself". In format 2
-- "the new node copies all the creator's rows as they stood, takes for origin itself a copy of the creator's row for the
-- creator, and adds i, r, o, e on itself in its rows for origin itself and origin creator"
unfoldable pub opened_rows : ℕ → Node → Locality → Process → Locality → List Row
opened_rows f x a p l =
    choose (eqb f 1) (alike (gaining (row_for x p) l))
    (set (set x.rows a.0 (gaining (own_row x a) l)) l.0 (gaining (own_row x a) l))

-- the creator's rows. In format 1 its "row gains these four on the new address", in format 2 "the creator gains the four on the
-- new address in its row for the creating process's origin"
unfoldable pub creator_rows : ℕ → Node → Process → Locality → List Row
creator_rows f x p l =
    choose (eqb f 1) (alike (gaining (row_for x p) l)) (set x.rows p.origin.0 (gaining (row_for x p) l))
