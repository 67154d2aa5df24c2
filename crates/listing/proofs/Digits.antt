-- Digits and the numbers that they write (`specs/Listing.antt`): one to ten of them write a number exactly where they are
-- its plain decimal behind noughts.
-- Assumes nothing.
use Prim.Native.Nat.{ℕ, zero, suc, ◌+◌, ◌-◌, ◌*◌, ◌/◌, ◌%◌, ◌^◌, ◌<◌, ◌≤◌}
use mathlib.Core.Path.{◌≡◌, refl, sym, ap, subst, ◌∙◌}
use mathlib.Core.Bool.{Bool, true, false}
use mathlib.Core.List.{List, [], ◌∷◌, ◌++◌, append-nil, append_assoc}
use native.Mathlib.Omega.{arith}
use native.Mathlib.Nat.{pow-suc, pow-le-pow_right, mul-le-mul_right}
use native.Mathlib.Decide.{dec_le}
use lib.ListN.{length, replicate, length-append, length-replicate}
use lib.Dec.{leb}
use borrow.Author.Tests.{le-leb, leb-true, eq-eqb, eqb-true}
use Rattle.net.specs.Choice.{choose, in_range}
use Rattle.net.proofs.Laws.{both_i, both_l, both_r, in_range_law, in_range_low, in_range_high, choose_true, choose_false}
use Rattle.net.proofs.Every.{chosen, chosen_lt}
use Rattle.lexemes.specs.Lexemes.{is_digit}
use Rattle.text.specs.Decimal.{digit, digits, decimal}
use Rattle.text.proofs.DecimalLaws.{decimal_digit, decimal_more}
use Rattle.listing.specs.Listing.{digits_of, after_digits, value_from, writes}
use Rattle.listing.specs.ListingClaims.{PaddedNumber, padded}

-- ---- digits
pub digit_low : (b : ℕ) → is_digit b ≡ true → 48 ≤ b
unfolding is_digit
digit_low b h = leb-true 48 b (both_l _ _ h)

digit_high : (b : ℕ) → is_digit b ≡ true → b ≤ 57
unfolding is_digit
digit_high b h = leb-true b 57 (both_r (leb 48 b) _ h)

is_digit_law : (b : ℕ) → 48 ≤ b → b ≤ 57 → is_digit b ≡ true
unfolding is_digit
is_digit_law b h g = both_i _ _ (le-leb 48 b h) (le-leb b 57 g)

-- bytes that are digits, all of them
pub data AllDigits : List ℕ → Type 0 where
  none : AllDigits []
  one : {b : ℕ} {ds : List ℕ} → is_digit b ≡ true → AllDigits ds → AllDigits (b ∷ ds)

digits_both : {a b : List ℕ} → AllDigits a → AllDigits b → AllDigits (a ++ b)
digits_both none g = g
digits_both (one h r) g = one h (digits_both r g)

pub front_digits : (bs : List ℕ) → AllDigits (digits_of bs)
unfolding digits_of
front_digits [] = none
front_digits (b ∷ bs) = chosen AllDigits (is_digit b) _ _ (λ e. one e (front_digits bs)) (λ _. none)

choice_joins :
    (t : Bool) (b : ℕ) (bs : List ℕ) → digits_of bs ++ after_digits bs ≡ bs
    → choose t (b ∷ digits_of bs) [] ++ choose t (after_digits bs) (b ∷ bs) ≡ b ∷ bs
unfolding choose
choice_joins true b bs e = ap (λ (xs : List ℕ). b ∷ xs) e
choice_joins false b bs e = refl

pub front_after : (bs : List ℕ) → digits_of bs ++ after_digits bs ≡ bs
unfolding digits_of after_digits
front_after [] = refl
front_after (b ∷ bs) = choice_joins (is_digit b) b bs (front_after bs)

-- bytes that do not open with a digit
pub record Quiet (rest : List ℕ) : Type 0 where
  pub no_digits : digits_of rest ≡ []
  pub all_after : after_digits rest ≡ rest

pub quiet_byte : (b : ℕ) (rest : List ℕ) → is_digit b ≡ false → Quiet (b ∷ rest)
unfolding digits_of after_digits
quiet_byte b rest h = record {
  no_digits = choose_false (is_digit b) (b ∷ digits_of rest) [] h;
  all_after = choose_false (is_digit b) (after_digits rest) (b ∷ rest) h;
}

pub digits_front : {ds : List ℕ} (rest : List ℕ) → AllDigits ds → Quiet rest → digits_of (ds ++ rest) ≡ ds
unfolding digits_of
digits_front rest none q = q.no_digits
digits_front rest (one {b = b} {ds = ds} h r) q =
    choose_true (is_digit b) (b ∷ digits_of (ds ++ rest)) [] h ∙ ap (λ (xs : List ℕ). b ∷ xs) (digits_front rest r q)

pub digits_after : {ds : List ℕ} (rest : List ℕ) → AllDigits ds → Quiet rest → after_digits (ds ++ rest) ≡ rest
unfolding after_digits
digits_after rest none q = q.all_after
digits_after rest (one {b = b} {ds = ds} h r) q =
    choose_true (is_digit b) (after_digits (ds ++ rest)) (b ∷ (ds ++ rest)) h ∙ digits_after rest r q

-- ---- plain decimal
digit_one : (n : ℕ) → n < 10 → AllDigits (digit n ∷ [])
unfolding digit
digit_one n h = one (is_digit_law (48 + n) (omega arith) (omega arith)) none

pub plain_digits : (k n : ℕ) → AllDigits (digits k n)
unfolding digits
plain_digits zero n = none
plain_digits (suc k) n =
    chosen_lt AllDigits n 10 _ _ (digit_one n)
    (λ _. digits_both (plain_digits k (n / 10)) (digit_one (n % 10) (omega arith)))

pub plain_some : (k n : ℕ) → 1 ≤ length (digits (suc k) n)
unfolding digits
plain_some k n =
    chosen_lt (λ (t : List ℕ). 1 ≤ length t) n 10 _ _ (λ _. omega arith)
    (λ _. omega (arith, length-append (digits k (n / 10)) (digit (n % 10) ∷ [])))

value_last : (v : ℕ) (ds : List ℕ) (b : ℕ) → value_from v (ds ++ b ∷ []) ≡ value_from v ds * 10 + (b - 48)
unfolding value_from
value_last v [] b = refl
value_last v (d ∷ ds) b = value_last (v * 10 + (d - 48)) ds b

-- digits that are not cut write their number
digit_value : (n : ℕ) → value_from 0 (digit n ∷ []) ≡ n
unfolding value_from digit
digit_value n = omega arith

more_value :
    (ds : List ℕ) (n : ℕ) → value_from 0 ds ≡ n / 10 → value_from 0 (ds ++ digit (n % 10) ∷ []) ≡ n
unfolding digit
more_value ds n e = let last = value_last 0 ds (48 + n % 10) in omega (arith, last, e)

pub plain_value : (k n : ℕ) → length (digits k n) < k → value_from 0 (digits k n) ≡ n
unfolding digits
plain_value zero n = λ h. absurd (omega arith)
plain_value (suc k) n =
    chosen_lt (λ (t : List ℕ). length t < suc k → value_from 0 t ≡ n) n 10 _ _ (λ _ _. digit_value n)
    (λ _ h. let whole = length-append (digits k (n / 10)) (digit (n % 10) ∷ []) in
    more_value (digits k (n / 10)) n (plain_value k (n / 10) (omega (arith, whole, h))))

-- ---- behind noughts
noughts_digits : (k : ℕ) → AllDigits (replicate k 48)
noughts_digits zero = none
noughts_digits (suc k) = one (is_digit_law 48 (omega arith) (omega arith)) (noughts_digits k)

noughts_value : (k : ℕ) (ds : List ℕ) → value_from 0 (replicate k 48 ++ ds) ≡ value_from 0 ds
unfolding value_from
noughts_value zero ds = refl
noughts_value (suc k) ds = noughts_value k ds

pub padded_digits : {n : ℕ} {ds : List ℕ} → PaddedNumber n ds → AllDigits ds
unfolding decimal
padded_digits {n} (padded k h) = digits_both (noughts_digits k) (plain_digits 20 n)

pub padded_length : {n : ℕ} {ds : List ℕ} → PaddedNumber n ds → length ds ≤ 10
padded_length {n} (padded k h) =
    omega (arith, length-append (replicate k 48) (decimal n), length-replicate {A = ℕ} k 48, h)

pub padded_writes : {n : ℕ} {ds : List ℕ} → PaddedNumber n ds → writes n ds ≡ true
unfolding writes decimal
padded_writes {n} (padded k h) =
    let whole = length-append (replicate k 48) (digits 20 n) in
    let before = length-replicate {A = ℕ} k 48 in
    let some = plain_some 19 n in
    let value = noughts_value k (digits 20 n) ∙ plain_value 20 n (omega (arith, h)) in
    both_i _ _ (in_range_law 1 _ 10 (omega (arith, whole, before, some)) (omega (arith, whole, before, h))) (eq-eqb _ n value)

-- ---- digits that write a number are such
pub value_grows : {ds : List ℕ} (v : ℕ) → AllDigits ds → v ≤ value_from v ds
unfolding value_from
value_grows v none = omega arith
value_grows v (one {b = b} r ds) = let rest = value_grows (v * 10 + (b - 48)) ds in omega (arith, rest)

value_step : (v d p x : ℕ) → d ≤ 9 → x < suc (v * 10 + d) * p → x < suc v * (p * 10)
value_step v d p x h l = let few = mul-le-mul_right p h in omega (arith, few)

value_below : {ds : List ℕ} (v : ℕ) → AllDigits ds → value_from v ds < suc v * 10 ^ length ds
unfolding value_from
value_below v none = omega arith
value_below v (one {b = b} {ds = ds} h r) =
    let high = digit_high b h in
    let power : 10 ^ suc (length ds) ≡ 10 ^ length ds * 10 = pow-suc 10 (length ds) in
    let step = value_step v (b - 48) (10 ^ length ds) _ (omega arith) (value_below (v * 10 + (b - 48)) r) in
    subst (λ (q : ℕ). value_from (v * 10 + (b - 48)) ds < suc v * q) (sym power) step

-- at most ten digits write a number below 10,000,000,000, which has at most 64 bits
pub value_few : {ds : List ℕ} → AllDigits ds → length ds ≤ 10 → value_from 0 ds < 10000000000
value_few {ds} a h =
    let below = value_below 0 a in
    let power : 10 ^ length ds ≤ 10 ^ 10 = pow-le-pow_right {n = 10} (omega arith) {i = length ds} {j = 10} h in
    omega (arith, below, power)

value_small : {ds : List ℕ} → AllDigits ds → length ds ≤ 10 → value_from 0 ds < 2 ^ 64
value_small a h = omega (arith, value_few a h)

-- a digit more after a number that is not nought
one_more_law : (v b : ℕ) → is_digit b ≡ true → 1 ≤ v → v * 10 + (b - 48) < 2 ^ 64 → decimal v ++ b ∷ [] ≡ decimal (v * 10 + (b - 48))
unfolding digit
one_more_law v b d h l =
    let low = digit_low b d in
    let high = digit_high b d in
    let w : ℕ = v * 10 + (b - 48) in
    let first : w / 10 ≡ v = omega arith in
    let last : 48 + w % 10 ≡ b = omega arith in
    ap (λ (x : ℕ). decimal v ++ x ∷ []) (sym last) ∙ ap (λ (x : ℕ). decimal x ++ (48 + w % 10) ∷ []) (sym first)
    ∙ decimal_more w (omega arith) l

-- and more of them
goes_on :
    {ds : List ℕ} (v : ℕ) → AllDigits ds → 1 ≤ v → value_from v ds < 2 ^ 64 → decimal v ++ ds ≡ decimal (value_from v ds)
unfolding value_from
goes_on v none h l = append-nil (decimal v)
goes_on v (one {b = b} {ds = ds} d r) h l =
    let w : ℕ = v * 10 + (b - 48) in
    let grows = value_grows w r in
    sym (append_assoc (decimal v) (b ∷ []) ds) ∙ ap (λ (xs : List ℕ). xs ++ ds) (one_more_law v b d h (omega (arith, grows, l)))
    ∙ goes_on w r (omega arith) l

-- digits, as noughts and the decimal of their number
record Behind (ds : List ℕ) : Type 0 where
  noughts : ℕ
  is : replicate noughts 48 ++ decimal (value_from 0 ds) ≡ ds

first_is : (b : ℕ) → is_digit b ≡ true → decimal (0 * 10 + (b - 48)) ≡ b ∷ []
unfolding digit
first_is b h =
    let low = digit_low b h in
    let high = digit_high b h in
    let same : 48 + (0 * 10 + (b - 48)) ≡ b = omega arith in
    sym (decimal_digit (0 * 10 + (b - 48)) (omega arith)) ∙ ap (λ (x : ℕ). x ∷ []) same

behind_more : (b : ℕ) (ds : List ℕ) → AllDigits ds → is_digit b ≡ true → value_from 0 (b ∷ ds) < 2 ^ 64 → Dec (b ≤ 48) → Behind ds → Behind (b ∷ ds)
unfolding value_from
behind_more b ds r h l (no g) before = record {
  noughts = 0;
  is =
      sym (goes_on (0 * 10 + (b - 48)) r (omega arith) l) ∙ ap (λ (xs : List ℕ). xs ++ ds) (first_is b h);
}
behind_more b ds r h l (yes g) before =
    let low = digit_low b h in
    let nought : 0 * 10 + (b - 48) ≡ 0 = omega arith in
    let same : 48 ≡ b = omega arith in
    record {
      noughts = suc before.noughts;
      is =
          ap (λ (v : ℕ). 48 ∷ (replicate before.noughts 48 ++ decimal (value_from v ds))) nought
          ∙ ap (λ (xs : List ℕ). 48 ∷ xs) before.is ∙ ap (λ (x : ℕ). x ∷ ds) same;
    }

behind : {ds : List ℕ} → AllDigits ds → 1 ≤ length ds → length ds ≤ 10 → Behind ds
unfolding value_from
behind none h l = absurd (omega arith)
behind (one {b = b} d none) h l = record { noughts = 0; is = first_is b d }
behind (one {b = b} d (one {b = c} {ds = ds} e r)) h l =
    behind_more b (c ∷ ds) (one e r) d (value_small (one d (one e r)) l) (dec_le b 48)
    (behind (one e r) (omega arith) (omega arith))

pub writes_padded : (n : ℕ) (ds : List ℕ) → AllDigits ds → writes n ds ≡ true → PaddedNumber n ds
unfolding writes
writes_padded n ds a h =
    let range = both_l _ _ h in
    let few = in_range_high 1 (length ds) 10 range in
    let x = behind a (in_range_low 1 (length ds) 10 range) few in
    let value = eqb-true (value_from 0 ds) n (both_r (in_range 1 (length ds) 10) _ h) in
    let is : replicate x.noughts 48 ++ decimal n ≡ ds =
    ap (λ (v : ℕ). replicate x.noughts 48 ++ decimal v) (sym value) ∙ x.is in
    let long = ap length is in
    let whole = length-append (replicate x.noughts 48) (decimal n) in
    let before = length-replicate {A = ℕ} x.noughts 48 in
    subst (PaddedNumber n) is (padded x.noughts (omega (arith, long, whole, before, few)))
