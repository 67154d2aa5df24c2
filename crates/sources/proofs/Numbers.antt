-- Numbers (`Lexemes.antt` of `lexemes`, `Decimal.antt` of `text`): what is read is what plain decimal prints, where no digit
-- follows. Assumes nothing.
use Prim.Native.Nat.{ℕ, zero, suc, ◌+◌, ◌-◌, ◌*◌, ◌/◌, ◌%◌, ◌^◌, ◌<◌, ◌≤◌}
use mathlib.Core.Path.{◌≡◌, refl, sym, ap, subst, subst₂, ◌∙◌}
use mathlib.Core.Bool.{Bool, true, false}
use mathlib.Core.List.{List, [], ◌∷◌, ◌++◌, append-nil, append_assoc}
use native.Mathlib.Omega.{arith}
use native.Mathlib.Nat.{pow-suc, pow-le-pow_right}
use native.Mathlib.Decide.{dec_le}
use lib.ListN.{length, get_or, length-append}
use lib.Dec.{leb}
use borrow.Author.Tests.{leb-true, le-leb, lt-leb}
use Rattle.net.specs.Choice.{choose, both}
use Rattle.net.proofs.Laws.{both_i, both_l, both_r, choose_true, choose_false}
use Rattle.readers.specs.Reader.{Parsed, got, fault, Reader, pure, and_then, ◌>>=◌, ◌>>◌, turns, each}
use Rattle.readers.proofs.ReaderLaws.{no_fault}
use Rattle.text.specs.Decimal.{decimal}
use Rattle.text.specs.Decimal as Decimal
use Rattle.text.proofs.DecimalLaws.{decimal_digit, decimal_more}
use Rattle.lexemes.specs.Lexemes.{byte_at, look, fail, byte, is_digit, digit_of, digit, longer, another, rest, number}
use Rattle.lexemes.proofs.Reading.{digit_least, digit_most}
use Rattle.sources.proofs.Stands.{Stands, stands_append, stands_first_law, stands_rest, stands_opens}
use Rattle.sources.proofs.ReadsPrints.{Bears, Reads, Any, reads_as, reads_pure, reads_then, reads_from_byte, reads_require, reads_tested}

-- no digit follows
abbrev pub NoDigit : ℕ → Type 0
NoDigit d = is_digit d ≡ false

-- bytes that are no digits
pub low_byte : (c : ℕ) → c < 48 → is_digit c ≡ false
unfolding is_digit both
low_byte c h = rw (lt-leb 48 c h)

pub high_byte : (c : ℕ) → 57 < c → is_digit c ≡ false
high_byte c h = go (is_digit c) refl
  where
    go : (b : Bool) → is_digit c ≡ b → is_digit c ≡ false
    go true e = let l = digit_least c e in let m = digit_most c e in absurd (omega arith)
    go false e = e

-- ---- digits
pub digit_is : (d : ℕ) → d < 10 → is_digit (48 + d) ≡ true
unfolding is_digit
digit_is d h = both_i _ _ (le-leb 48 (48 + d) (omega arith)) (le-leb (48 + d) 57 (omega arith))

abbrev Digit : ℕ → List ℕ → Type 0
Digit d u = (d < 10) × ((48 + d) ∷ [] ≡ u)

reads_digit : Reads digit Digit Any
unfolding digit digit_of look choose fail
reads_digit = record { only = λ s p a q e. only s p a q (is_digit (byte_at s p)) refl e; back = back }
  where
    only : (s : List ℕ) (p a q : ℕ) (b : Bool) → is_digit (byte_at s p) ≡ b
        → choose b (byte (byte_at s p) >> pure (byte_at s p - 48)) (fail 31) s p ≡ got a q → Bears Digit s p a q
    only s p a q true t e =
        let c = byte_at s p in
        let x = (reads_from_byte {E = Any} c (reads_pure (c - 48))).only s p a q e in
        let low = digit_least c t in
        let high = digit_most c t in
        let (v, (f, g), h) = x.prints in
        let is : 48 + a ≡ c = omega arith in
        record {
          text = x.text;
          prints = (omega arith, ap (λ (b : ℕ). b ∷ []) is ∙ ap (λ (w : List ℕ). c ∷ w) g ∙ h);
          stands = x.stands;
          ends = x.ends;
        }
    only s p a q false t e = no_fault e

    back : (s : List ℕ) (p a : ℕ) (u : List ℕ) → Digit a u → Stands s p u → Any (byte_at s (p + length u))
        → choose (is_digit (byte_at s p)) (byte (byte_at s p) >> pure (byte_at s p - 48)) (fail 31) s p ≡ got a (p + length u)
    back s p a u (h, e) st d =
        let is : byte_at s p ≡ 48 + a =
        stands_opens s p u st ∙ ap (λ (w : List ℕ). get_or w 0 (byte_at s (p + length u))) (sym e) in
        let b = byte_at s p in
        let low : b - 48 ≡ a = omega arith in
        let t : is_digit b ≡ true = ap is_digit is ∙ digit_is a h in
        ap (λ (m : Reader ℕ). m s p) (choose_true (is_digit b) _ _ t)
        ∙ (reads_from_byte {E = Any} b (reads_pure (b - 48))).back s p a u
        ([], (low, refl), ap (λ (c : ℕ). c ∷ []) is ∙ e) st tt

-- a number from 10 on ends with a digit
decimal_last : (n : ℕ) → 10 ≤ n → n < 2 ^ 64 → decimal (n / 10) ++ (48 + n % 10) ∷ [] ≡ decimal n
unfolding Decimal.digit
decimal_last n h l = decimal_more n h l

decimal_first : (n : ℕ) → n < 10 → (48 + n) ∷ [] ≡ decimal n
unfolding Decimal.digit
decimal_first n h = decimal_digit n h

-- ---- a number with one digit more
pub record LongerBy (limit v w : ℕ) (u : List ℕ) : Type 0 where
  pub last : ℕ
  pub small : last < 10
  pub prints : (48 + last) ∷ [] ≡ u
  pub some : 1 ≤ v
  pub within : v * 10 + last ≤ limit
  pub is : v * 10 + last ≡ w

reads_longer : (limit v : ℕ) → Reads (longer limit v) (LongerBy limit v) Any
unfolding longer
reads_longer limit v =
    reads_as (reads_tested (λ d. both (leb 1 v) (leb (v * 10 + d) limit)) 31 (λ d. v * 10 + d) reads_digit)
    (λ w u (d, ((h, e), t), is). record {
      last = d;
      small = h;
      prints = e;
      some = leb-true 1 v (both_l _ _ t);
      within = leb-true (v * 10 + d) limit (both_r (leb 1 v) _ t);
      is = is;
    })
    (λ w u b.
    (b.last, ((b.small, b.prints), both_i _ _ (le-leb 1 v b.some) (le-leb (v * 10 + b.last) limit b.within)), b.is))
    (λ d e. e)

wider : (v d k : ℕ) → v * (k * 10) ≤ (v * 10 + d) * k
wider v d k = omega arith

at_least : (v k : ℕ) → 1 ≤ v → k ≤ v * k
at_least zero k h = elim h [ ]
at_least (suc v) k h = omega arith

-- and with any digits more
pub data Longer (limit : ℕ) : ℕ → ℕ → List ℕ → Type 0 where
  same : {v a : ℕ} {x : List ℕ} → v ≡ a → [] ≡ x → Longer limit v a x
  again : {v w a : ℕ} {u t x : List ℕ} → LongerBy limit v w u → Longer limit w a t → u ++ t ≡ x → Longer limit v a x

module _ (limit : ℕ) where
  abbrev Tail : ℕ → ℕ → ℕ → List ℕ → Type 0
  Tail k v a x = Longer limit v a x × (length x ≤ k)

  -- ---- what is read is as it is printed: one turn, and those after it
  module _ (k i : ℕ) (s : List ℕ)
      (after : (w p a q : ℕ) → turns k (suc i) (another limit) w s p ≡ got a q → Bears (Tail k w) s p a q) where
    only_step : (v p a q : ℕ) (o : Parsed ℕ) → longer limit v s p ≡ o
        → and_then o s (turns k (suc i) (another limit)) ≡ got a q → Bears (Tail (suc k) v) s p a q
    unfolding and_then
    only_step v p a q (fault n) d e = no_fault e
    only_step v p a q (got w j) d e =
        let x = (reads_longer limit v).only s p w j d in
        let y = after w j a q e in
        let l = length-append x.text y.text in
        let one = ap length x.prints.prints in
        let at = x.ends in
        let few = y.prints.1 in
        record {
          text = x.text ++ y.text;
          prints = (again x.prints y.prints.0 refl, omega arith);
          stands = stands_append s p x.text y.text x.stands (subst (λ (z : ℕ). Stands s z y.text) at y.stands);
          ends = omega (arith, y.ends);
        }

    only_choice : (v p a q : ℕ) (b : Bool)
        → and_then (choose b (longer limit v) (pure v) s p) s (turns k (suc i) (another limit)) ≡ got a q → Bears (Tail (suc k) v) s p a q
    unfolding and_then choose pure
    only_choice v p a q true e = only_step v p a q (longer limit v s p) refl e
    only_choice v p a q false e =
        let y = after v p a q e in
        let few = y.prints.1 in
        record { text = y.text; prints = (y.prints.0, omega arith); stands = y.stands; ends = y.ends }

  only_turns : (k i : ℕ) (s : List ℕ) (v p a q : ℕ) → turns k i (another limit) v s p ≡ got a q → Bears (Tail k v) s p a q
  unfolding turns another ◌>>=◌ look
  only_turns zero i s v p a q e =
      let x = (reads_pure {E = Any} v).only s p a q e in
      let (f, g) = x.prints in
      let l = ap length g in
      record { text = x.text; prints = (same f g, omega arith); stands = x.stands; ends = x.ends }
  only_turns (suc k) i s v p a q e = only_choice k i s (only_turns k (suc i) s) v p a q (is_digit (byte_at s p)) e

  -- ---- what is printed is read
  quiet : (k i v : ℕ) (s : List ℕ) (p : ℕ) → is_digit (byte_at s p) ≡ false → turns k i (another limit) v s p ≡ got v p
  unfolding turns another pure ◌>>=◌ and_then look
  quiet zero i v s p e = refl
  quiet (suc k) i v s p e =
      ap (λ (m : Reader ℕ). and_then (m s p) s (turns k (suc i) (another limit))) (choose_false (is_digit (byte_at s p)) _ _ e)
      ∙ quiet k (suc i) v s p e

  opens_digit : {v w : ℕ} (s : List ℕ) (p : ℕ) (u : List ℕ) → LongerBy limit v w u → Stands s p u → is_digit (byte_at s p) ≡ true
  opens_digit s p u b st =
      ap is_digit (stands_opens s p u st ∙ ap (λ (x : List ℕ). get_or x 0 (byte_at s (p + length u))) (sym b.prints))
      ∙ digit_is b.last b.small

  back_turns : (k i : ℕ) {v a : ℕ} {x : List ℕ} (s : List ℕ) (p : ℕ) → Longer limit v a x → length x ≤ k → Stands s p x
      → NoDigit (byte_at s (p + length x)) → turns k i (another limit) v s p ≡ got a (p + length x)
  unfolding turns another pure ◌>>=◌ and_then look
  back_turns k i {v} {a} {x} s p (same f g) h st d =
      let l = ap length g in
      let at : p + length x ≡ p = omega arith in
      quiet k i v s p (ap (λ (z : ℕ). is_digit (byte_at s z)) (sym at) ∙ d) ∙ ap (λ (w : ℕ). got w p) f ∙ ap (got a) (sym at)
  back_turns zero i {x = x} s p (again {u = u} {t = t} b r e) h st d =
      let l = ap length e in
      let l' = length-append u t in
      let one = ap length b.prints in absurd (omega arith)
  back_turns (suc k) i {v} {a} {x} s p (again {w = w} {u = u} {t = t} b r e) h st d =
      let l = ap length e in
      let l' = length-append u t in
      let one = ap length b.prints in
      let st' : Stands s p (u ++ t) = subst (Stands s p) (sym e) st in
      let first = stands_first_law s p u t st' in
      let at : p + length u + length t ≡ p + length x = omega arith in
      ap (λ (m : Reader ℕ). and_then (m s p) s (turns k (suc i) (another limit)))
      (choose_true (is_digit (byte_at s p)) _ _ (opens_digit s p u b first))
      ∙ ap (λ o. and_then o s (turns k (suc i) (another limit))) ((reads_longer limit v).back s p w u b first tt)
      ∙ back_turns k (suc i) s (p + length u) r (omega arith) (stands_rest s p u t st')
      (subst (λ (z : ℕ). NoDigit (byte_at s z)) (sym at) d)
      ∙ ap (got a) at

  reads_rest : (v : ℕ) → Reads (rest limit v) (Tail 10 v) NoDigit
  unfolding rest each
  reads_rest v = record {
    only = λ s p a q e. only_turns 10 0 s v p a q e;
    back = λ s p a u h st d. back_turns 10 0 s p h.0 h.1 st d;
  }

  -- ---- digits and decimal numbers
  longer_within : {v a : ℕ} {x : List ℕ} → v ≤ limit → Longer limit v a x → a ≤ limit
  longer_within h (same f g) = omega arith
  longer_within h (again b r e) = longer_within (let w = b.within in omega (arith, b.is)) r

  longer_decimal : {v a : ℕ} {x : List ℕ} → limit < 2 ^ 64 → Longer limit v a x → decimal v ++ x ≡ decimal a
  longer_decimal {v} {a} {x} h (same f g) =
      ap (λ (y : List ℕ). decimal v ++ y) (sym g) ∙ append-nil (decimal v) ∙ ap decimal f
  longer_decimal {v} {a} {x} h (again {w = w} {u = u} {t = t} b r e) =
      let d = b.last in
      let some = b.some in
      let small = b.small in
      let is = b.is in
      let within = b.within in
      let high : w / 10 ≡ v = omega arith in
      let low : w % 10 ≡ d = omega arith in
      let step : decimal v ++ u ≡ decimal w =
      ap (λ (y : List ℕ). decimal v ++ y) (sym b.prints)
      ∙ ap (λ (y : ℕ). decimal y ++ (48 + d) ∷ []) (sym high)
      ∙ ap (λ (y : ℕ). decimal (w / 10) ++ (48 + y) ∷ []) (sym low)
      ∙ decimal_last w (omega arith) (omega arith) in
      ap (λ (y : List ℕ). decimal v ++ y) (sym e) ∙ sym (append_assoc (decimal v) u t)
      ∙ ap (λ (y : List ℕ). y ++ t) step ∙ longer_decimal h r

  longer_least : {v a : ℕ} {x : List ℕ} → Longer limit v a x → a ≤ limit → v ≤ limit
  longer_least (same f g) h = omega arith
  longer_least (again b r e) h = let w = b.within in omega arith

  longer_also : {v a w : ℕ} {x u : List ℕ} → Longer limit v a x → LongerBy limit a w u → Longer limit v w (x ++ u)
  longer_also {v} {a} {w} {x} {u} (same f g) c =
      again (subst (λ (z : ℕ). LongerBy limit z w u) (sym f) c) (same refl refl)
      (append-nil u ∙ ap (λ (y : List ℕ). y ++ u) g)
  longer_also {u = u} (again {u = u₀} {t = t} b r e) c =
      again b (longer_also r c) (sym (append_assoc u₀ t u) ∙ ap (λ (y : List ℕ). y ++ u) e)

  longer_grows : {v a : ℕ} {x : List ℕ} → Longer limit v a x → v * 10 ^ length x ≤ a
  longer_grows {v} {a} {x} (same f g) = subst (λ (y : List ℕ). v * 10 ^ length y ≤ a) g (omega arith)
  longer_grows {v} {a} {x} (again {w = w} {u = u} {t = t} b r e) =
      let l = ap length e in
      let l' = length-append u t in
      let one = ap length b.prints in
      let n : length x ≡ suc (length t) = omega arith in
      let power : 10 ^ suc (length t) ≡ 10 ^ length t * 10 = pow-suc 10 (length t) in
      let grows = longer_grows r in
      let is = b.is in
      let wide : v * 10 ^ suc (length t) ≤ w * 10 ^ length t =
      subst₂ (λ (y z : ℕ). v * y ≤ z * 10 ^ length t) (sym power) is (wider v b.last (10 ^ length t)) in
      subst (λ (k : ℕ). v * 10 ^ k ≤ a) (sym n) (omega arith)

  -- a number within the limit has a first digit, and those after it
  pub record Digits (n : ℕ) : Type 0 where
    pub first : ℕ
    pub after : List ℕ
    pub small : first < 10
    pub longer : Longer limit first n after
    pub is : (48 + first) ∷ after ≡ decimal n

  digits_up : (n : ℕ) → limit < 2 ^ 64 → n ≤ limit → 10 ≤ n → Digits (n / 10) → Digits n
  digits_up n h l g x =
      let u = (48 + n % 10) ∷ [] in
      let step : LongerBy limit (n / 10) n u = record {
        last = n % 10;
        small = omega arith;
        prints = refl;
        some = omega arith;
        within = omega arith;
        is = omega arith;
      } in
      record {
        first = x.first;
        after = x.after ++ u;
        small = x.small;
        longer = longer_also x.longer step;
        is = ap (λ (y : List ℕ). y ++ u) x.is ∙ decimal_last n g (omega arith);
      }

  digits_one : (n : ℕ) → n < 10 → Digits n
  digits_one n g = record { first = n; after = []; small = g; longer = same refl refl; is = decimal_first n g }

  digits_case : (n : ℕ) → limit < 2 ^ 64 → n ≤ limit → Dec (10 ≤ n) → (10 ≤ n → Digits (n / 10)) → Digits n
  digits_case n h l (no g) x = digits_one n (omega arith)
  digits_case n h l (yes g) x = digits_up n h l g (x g)

  digits_of_law : limit < 2 ^ 64 → (b n : ℕ) → n ≤ b → n ≤ limit → Digits n
  digits_of_law h zero n l m = digits_one n (omega arith)
  digits_of_law h (suc b) n l m =
      digits_case n h m (dec_le 10 n) (λ g. digits_of_law h b (n / 10) (omega arith) (omega arith))

  -- fewer than ten digits follow the first
  few_digits : limit < 10 ^ 10 → {v a : ℕ} (x : List ℕ) → v ≤ limit → Longer limit v a x → length x ≤ 10
  few_digits h x l (same f g) = let e = ap length g in omega arith
  few_digits h {v} {a} x l (again {w = w} {u = u} {t = t} b r e) = go (dec_le (length x) 10)
    where
      go : Dec (length x ≤ 10) → length x ≤ 10
      go (yes k) = k
      go (no k) =
          let grows = longer_grows (again b r e) in
          let within = longer_within l (again b r e) in
          let some = b.some in
          let power : 10 ^ 10 ≤ 10 ^ length x = pow-le-pow_right {n = 10} (omega arith) {i = 10} {j = length x} (omega arith) in
          let wide : 10 ^ length x ≤ v * 10 ^ length x = at_least v (10 ^ length x) some in
          absurd (omega arith)

  pub reads_number : limit < 10 ^ 10 → Reads (number limit) (λ v u. (v ≤ limit) × (decimal v ≡ u)) NoDigit
  unfolding number
  reads_number h =
      reads_as
      (reads_then reads_digit (λ d u x. reads_require (leb d limit) 31 (reads_rest d)) (λ a b u v d x y e. tt))
      (λ v t x.
      let d = x.one in
      let (ok, (l, k)) = x.goes_on in (
        longer_within (leb-true d limit ok) l,
        sym (longer_decimal (omega arith) l)
            ∙ ap (λ (y : List ℕ). y ++ x.rest) (sym (decimal_first d x.prints.0) ∙ x.prints.1) ∙ x.is,
      ))
      (λ v t (l, e).
      let x = digits_of_law (omega arith) v v (omega arith) l in
      let low : x.first ≤ limit = longer_least x.longer l in
      record {
        one = x.first;
        text = (48 + x.first) ∷ [];
        rest = x.after;
        prints = (x.small, refl);
        goes_on = (le-leb x.first limit low, (x.longer, few_digits h x.after low x.longer));
        is = x.is ∙ e;
      })
      (λ d e. e)

-- ---- how a number opens
pub decimal_digits : (limit v : ℕ) → limit < 10 ^ 10 → v ≤ limit → Digits limit v
decimal_digits limit v h l = digits_of_law limit (omega arith) v v (omega arith) l

pub decimal_opens : (limit v d : ℕ) → limit < 10 ^ 10 → v ≤ limit → is_digit (get_or (decimal v) 0 d) ≡ true
decimal_opens limit v d h l =
    let x = decimal_digits limit v h l in
    ap (λ (y : List ℕ). is_digit (get_or y 0 d)) (sym x.is) ∙ digit_is x.first x.small

pub decimal_some : (limit v : ℕ) → limit < 10 ^ 10 → v ≤ limit → 1 ≤ length (decimal v)
decimal_some limit v h l =
    let x = decimal_digits limit v h l in
    let e = ap length x.is in omega arith

-- a digit is no other byte
pub no_other : (b c : ℕ) → is_digit b ≡ true → is_digit c ≡ false → b ≡ c → ⊥
no_other b c h g e = let z : ◌≡◌ {A = ℕ} 0 1 = cc in omega arith
