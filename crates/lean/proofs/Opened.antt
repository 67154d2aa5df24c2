-- The rows after a new, as flags (`open_of` of `specs/Actions.antt`) and in the net: the creator's, the new node's, and all others.
-- Assumes nothing.
use Prim.Native.Nat.{ℕ, ◌<◌, ◌%◌}
use mathlib.Core.Path.{◌≡◌, refl, sym, ap, ◌∙◌}
use mathlib.Core.Logic.{◌≢◌}
use mathlib.Core.Bool.{Bool, true, false}
use mathlib.Core.List.{List, []}
use native.Mathlib.Omega.{arith}
use lib.Dec.{eqb}
use lib.ListN.{length, get_or, set, replicate, length-set, get_or-replicate}
use lib.Seq.{get_or-set_same, get_or-set_other}
use Rattle.net.specs.Choice.{choose}
use Rattle.net.specs.Records.{address_of, row_for, alike}
use Rattle.net.proofs.Past.{past_row}
use Rattle.plans.specs.Additions.{gaining, own_row, opened_rows, creator_rows}
use Rattle.lean_words.specs.Rights.{row_in, gained_flags}
use Rattle.lean_words.proofs.FilledLaws.{filled_whole}
use Rattle.lean_words.proofs.RowLaws.{row_gained}
use Rattle.lean.specs.Types.{Process, Row, Node}
use Rattle.lean.specs.Words.{Grid, rows_in}
use Rattle.lean.specs.Actions.{open_alike, opened_policy, gained_at, open_by_origin, open_of}
use Rattle.lean.proofs.Frame.{row_anew}

-- one row for every origin
rows_alike_law : (fs : List Bool) → rows_in (replicate 16 fs) ≡ alike (row_in fs)
unfolding rows_in alike
rows_alike_law fs =
    filled_whole past_row 16 _ _ refl (replicate 16 (row_in fs)) refl
    (λ o h. ap row_in (get_or-replicate 16 o fs [] h) ∙ sym (get_or-replicate 16 o (row_in fs) past_row h))

module _
    (rows : List (List (List Bool))) (a o l : ℕ) (host : a < 16) (origin : o < 16) (low : l < 16) (apart : a ≢ l)
    (long : length rows ≡ 16) (grid : Grid 16 65 (get_or rows a []))
  where
    abbrev policy : List (List Bool)
    policy = get_or rows a []

    -- the flags of a row of the creator with every right on the address
    abbrev more : ℕ → List Bool
    more i = gained_flags (get_or policy i []) l

    -- the creator's rows, one of them with every right, and the new node's
    abbrev alike_policy : List (List Bool)
    alike_policy = replicate 16 (more o)

    abbrev own_policy : List (List Bool)
    own_policy = set policy o (more o)

    abbrev new_policy : List (List Bool)
    new_policy = set (set policy a (more a)) l (more a)

    more_in : (i : ℕ) → i < 16 → row_in (more i) ≡ gaining (row_in (get_or policy i [])) (address_of l)
    unfolding gaining
    more_in i h = row_gained (get_or policy i []) l (grid.wide i h) low

    -- ---- as flags
    alike_is : open_alike rows a o l ≡ set (set rows a alike_policy) l alike_policy
    unfolding open_alike
    alike_is =
        let at : a % 16 ≡ a = omega arith in
        let of : o % 16 ≡ o = omega arith in
        let to : l % 16 ≡ l = omega arith in
        rw (at, of, to)

    origin_is : open_by_origin rows a o l ≡ set (set rows l new_policy) a own_policy
    unfolding open_by_origin gained_at opened_policy
    origin_is =
        let at : a % 16 ≡ a = omega arith in
        let of : o % 16 ≡ o = omega arith in
        let to : l % 16 ≡ l = omega arith in
        rw (at, of, to, get_or-set_other rows l a _ [] apart)

    -- ---- the others
    others_by : (b : Bool) (i : ℕ) → i ≢ a → i ≢ l → get_or (choose b (open_alike rows a o l) (open_by_origin rows a o l)) i [] ≡ get_or rows i []
    unfolding choose
    others_by true i n m =
        rw (alike_is, get_or-set_other (set rows a alike_policy) l i alike_policy [] m, get_or-set_other rows a i alike_policy [] n)
    others_by false i n m =
        rw (origin_is, get_or-set_other (set rows l new_policy) a i own_policy [] n, get_or-set_other rows l i new_policy [] m)

    pub others_rows : (f i : ℕ) → i ≢ a → i ≢ l → get_or (open_of f rows a o l) i [] ≡ get_or rows i []
    unfolding open_of
    others_rows f i n m = others_by (eqb f 1) i n m

    -- ---- in the net: x is the creator's node, p the process of origin o
    module _ (x : Node) (p : Process) (rows_are : x.rows ≡ rows_in policy) (origin-as : p.origin.0 ≡ o)
        (row_is : row_for x p ≡ row_in (get_or policy o [])) (own_is : own_row x (address_of a) ≡ row_in (get_or policy a [])) where
      creator_by : (b : Bool)
          → rows_in (get_or (choose b (open_alike rows a o l) (open_by_origin rows a o l)) a [])
          ≡ choose b (alike (gaining (row_for x p) (address_of l))) (set x.rows p.origin.0 (gaining (row_for x p) (address_of l)))
      unfolding choose
      creator_by true =
          ap (λ (r : List (List (List Bool))). rows_in (get_or r a [])) alike_is
          ∙ ap rows_in (get_or-set_other (set rows a alike_policy) l a alike_policy [] apart ∙ get_or-set_same rows a alike_policy [] (omega arith))
          ∙ rows_alike_law (more o)
          ∙ ap alike (more_in o origin ∙ ap (λ (r : Row). gaining r (address_of l)) (sym row_is))
      creator_by false =
          ap (λ (r : List (List (List Bool))). rows_in (get_or r a [])) origin_is
          ∙ ap rows_in (get_or-set_same (set rows l new_policy) a own_policy [] (omega (arith, length-set rows l new_policy)))
          ∙ row_anew policy o (more o) grid.long
          ∙ rw (row_is, rows_are, origin-as, more_in o origin)

      opened_by : (b : Bool)
          → rows_in (get_or (choose b (open_alike rows a o l) (open_by_origin rows a o l)) l [])
          ≡ choose b (alike (gaining (row_for x p) (address_of l)))
          (set (set x.rows a (gaining (own_row x (address_of a)) (address_of l))) l (gaining (own_row x (address_of a)) (address_of l)))
      unfolding choose
      opened_by true =
          ap (λ (r : List (List (List Bool))). rows_in (get_or r l [])) alike_is
          ∙ ap rows_in (get_or-set_same (set rows a alike_policy) l alike_policy [] (omega (arith, length-set rows a alike_policy)))
          ∙ rows_alike_law (more o)
          ∙ ap alike (more_in o origin ∙ ap (λ (r : Row). gaining r (address_of l)) (sym row_is))
      opened_by false =
          ap (λ (r : List (List (List Bool))). rows_in (get_or r l [])) origin_is
          ∙ ap rows_in (get_or-set_other (set rows l new_policy) a l own_policy [] (λ e. apart (sym e)) ∙ get_or-set_same rows l new_policy [] (omega arith))
          ∙ row_anew (set policy a (more a)) l (more a) (length-set policy a (more a) ∙ grid.long)
          ∙ ap (λ (r : List Row). set r l (row_in (more a))) (row_anew policy a (more a) grid.long)
          ∙ rw (own_is, rows_are, more_in a host)

      pub creator_rows_law : (f : ℕ) → rows_in (get_or (open_of f rows a o l) a []) ≡ creator_rows f x p (address_of l)
      unfolding open_of creator_rows
      creator_rows_law f = creator_by (eqb f 1)

      pub opened_rows_law : (f : ℕ) → rows_in (get_or (open_of f rows a o l) l []) ≡ opened_rows f x (address_of a) p (address_of l)
      unfolding open_of opened_rows
      opened_rows_law f = opened_by (eqb f 1)
