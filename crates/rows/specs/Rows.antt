-- The rows of a text of format 1 (document 01, "The planners' notation"): `0 has n 0:io 1:r`, one for each address from 0 up.
use Rattle.std.specs.Prelude.{ℕ, zero, suc, ◌+◌, Bool, true, false, not, List, [], ◌∷◌, ◌++◌, get_or, length, eqb, leb}
use Rattle.text.specs.Bytes.{bytes}
use Rattle.net.specs.Choice.{choose, both, all, implies}
use Rattle.net.specs.Records.{zero_row, rights_at, with_rights, address_of}
use Rattle.readers.specs.Reader.{Parsed, got, fault, Reader, pure, ◌>>=◌, ◌>>◌, require}
use Rattle.lexemes.specs.Lexemes.{byte_at, fail, byte, word, optional, is_digit, number}
use Rattle.rows.specs.Types.{Rights, Row}

-- ---- which lines are rows

-- how many digits stand from place p on, of k bytes
unfoldable pub digits_from : ℕ → List ℕ → ℕ → ℕ
digits_from zero s p = 0
digits_from (suc k) s p = choose (is_digit (byte_at s p)) (suc (digits_from k s (suc p))) 0

-- a word stands at place p
unfoldable pub is_got : {A : Type 0} → Parsed A → Bool
is_got (got a p) = true
is_got (fault f) = false

unfoldable pub stands_at : List ℕ → List ℕ → ℕ → Bool
stands_at w s p = is_got (word w s p)

-- the line from place p on opens with digits and a word
unfoldable pub opens_with : List ℕ → List ℕ → ℕ → Bool
opens_with w s p = both (is_digit (byte_at s p)) (stands_at w s (p + digits_from (length s) s p))

-- it is a row: its word is ` has`
unfoldable pub is_row : List ℕ → ℕ → Bool
is_row s p = opens_with (bytes " has") s p

-- ---- one row

-- the rights over an address: at least one letter of i, r, o, e, in this order
unfoldable pub any_right : Rights → Bool
any_right r = choose r.take true (choose r.read true (choose r.put true r.send))

unfoldable pub rights : Reader Rights
rights = do
  i ← optional 105
  r ← optional 114
  o ← optional 111
  e ← optional 101
  require (any_right (record { take = i; read = r; put = o; send = e })) 31
  pure (record { take = i; read = r; put = o; send = e })

-- an address from `low` on, and a colon (58)
unfoldable pub granted : ℕ → Reader ℕ
granted low = do
  l ← number 15
  require (leb low l) 31
  byte 58
  pure l

-- at most k addresses more, ascending, each after a space
unfoldable pub grants : ℕ → ℕ → Row → Reader Row
grants zero low r = pure r
grants (suc k) low r = do
  more ← optional 32
  choose more
      (do
        l ← granted low
        x ← rights
        grants k (l + 1) (with_rights r (address_of l) x))
      (pure r)

-- ` n` where it is held
unfoldable pub creates : Reader Bool
creates s p = choose (stands_at (bytes " n") s p) (word (bytes " n") >> pure true) (pure false) s p

-- the number of the row's address i, and ` has`
unfoldable pub opening : ℕ → Reader (Unit {0})
opening i = do
  l ← number 15
  require (eqb l i) 31
  word (bytes " has")

-- what stands behind ` has`, and the line's end
unfoldable pub row_rest : Reader Row
row_rest = do
  c ← creates
  r ← grants 16 0 (record { create = c; rights = zero_row.rights })
  byte 10
  pure r

-- the row of address i
unfoldable pub row : ℕ → Reader Row
row i = opening i >> row_rest

-- ---- all rows

-- no right is held over an address from n on
unfoldable pub within : ℕ → Row → Bool
within n r = all 16 (λ l. implies (leb n l) (not (any_right (rights_at r (address_of l)))))

-- at most k rows more after those of `rs`: a seventeenth is 22
unfoldable pub rows_after : ℕ → List Row → Reader (List Row)
rows_after zero rs = λ s p. choose (is_row s p) (fail 22) (pure rs) s p
rows_after (suc k) rs = λ s p.
    choose (is_row s p)
    (do
      r ← row (length rs)
      rows_after k (rs ++ (r ∷ [])))
    (pure rs)
    s p

-- no row has a right over an address without a row
unfoldable pub all_within : List Row → Bool
all_within rs = all (length rs) (λ i. within (length rs) (get_or rs i zero_row))

-- one row at least (31), and no right over an address without a row (23)
unfoldable pub rows : Reader (List Row)
rows = do
  rs ← rows_after 16 []
  require (leb 1 (length rs)) 31
  require (all_within rs) 23
  pure rs
