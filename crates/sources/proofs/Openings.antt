-- Lines that open with an address and a word (`opens_with` of `Rows.antt` of `rows`): the words of rows and ` :: ` begin with a
-- space, and the byte behind it tells them apart. Assumes nothing.
use Prim.Native.Nat.{ℕ, zero, suc, ◌+◌, ◌<◌, ◌≤◌}
use mathlib.Core.Path.{◌≡◌, refl, sym, ap, subst, ◌∙◌}
use mathlib.Core.Bool.{Bool, true, false}
use mathlib.Core.List.{List, [], ◌∷◌, ◌++◌}
use native.Mathlib.Omega.{arith}
use lib.ListN.{length, get_or}
use Rattle.net.specs.Choice.{both}
use Rattle.net.proofs.Laws.{choose_true, choose_false, both_i}
use Rattle.net.proofs.ReadingLaws.{never}
use Rattle.readers.specs.Reader.{Parsed, got, fault}
use Rattle.text.specs.Decimal.{decimal}
use Rattle.lexemes.specs.Lexemes.{byte_at, is_digit, word}
use Rattle.rows.specs.Rows.{digits_from, is_got, stands_at, opens_with}
use Rattle.sources.proofs.Stands.{Stands, stands_first_law, stands_rest, stands_opens, stands_within}
use Rattle.sources.proofs.ReadsPrints.{reads_word}
use Rattle.sources.proofs.Numbers.{low_byte, NoDigit, Longer, same, again, digit_is, decimal_digits, decimal_opens, decimal_some}

-- ---- a word stands here, or does not
pub stands_word : (w s : List ℕ) (p : ℕ) → Stands s p w → stands_at w s p ≡ true
unfolding stands_at is_got
stands_word w s p st = ap is_got ((reads_word w).back s p tt w refl st tt)

word_stands : (w s : List ℕ) (p : ℕ) → stands_at w s p ≡ true → Stands s p w
unfolding stands_at is_got
word_stands w s p e = go (word w s p) refl e
  where
    go : (o : Parsed (Unit {0})) → word w s p ≡ o → is_got o ≡ true → Stands s p w
    go (got a q) d f = let x = (reads_word w).only s p a q d in subst (Stands s p) (sym x.prints) x.stands
    go (fault n) d f = never f

pub stands_no_word : (w s : List ℕ) (p : ℕ) → (Stands s p w → ⊥) → stands_at w s p ≡ false
stands_no_word w s p f = go (stands_at w s p) refl
  where
    go : (b : Bool) → stands_at w s p ≡ b → stands_at w s p ≡ false
    go true e = absurd (f (word_stands w s p e))
    go false e = e

-- two texts that stand at one place agree
pub stands_agree : (s : List ℕ) (p : ℕ) (u v : List ℕ) (i : ℕ) → i < length u → i < length v → Stands s p u → Stands s p v → get_or u i 0 ≡ get_or v i 0
stands_agree s p u v i h g f e = sym (f.each i h) ∙ e.each i g

-- ---- digits that open a line
data Digital : List ℕ → Type 0 where
  none_left : Digital []
  digit_more : {c : ℕ} {u : List ℕ} → is_digit c ≡ true → Digital u → Digital (c ∷ u)

digital_longer : {limit v a : ℕ} {x : List ℕ} → Longer limit v a x → Digital x
digital_longer (same e f) = subst Digital f none_left
digital_longer (again {t = t} b r e) =
    subst Digital e (subst (λ (u : List ℕ). Digital (u ++ t)) b.prints (digit_more (digit_is b.last b.small) (digital_longer r)))

digital_decimal : (v : ℕ) → v ≤ 15 → Digital (decimal v)
digital_decimal v h =
    let x = decimal_digits 15 v (omega arith) h in
    subst Digital x.is (digit_more (digit_is x.first x.small) (digital_longer x.longer))

count_digits : (k : ℕ) (s : List ℕ) (p : ℕ) {u : List ℕ} → Digital u → length u ≤ k → Stands s p u → NoDigit (byte_at s (p + length u))
    → digits_from k s p ≡ length u
unfolding digits_from
count_digits zero s p none_left h st e = refl
count_digits (suc k) s p none_left h st e =
    let at : p + 0 ≡ p = omega arith in choose_false _ _ _ (ap (λ (z : ℕ). is_digit (byte_at s z)) (sym at) ∙ e)
count_digits zero s p (digit_more d r) h st e = absurd (omega arith)
count_digits (suc k) s p (digit_more {c = c} {u = u} d r) h st e =
    let at : p + 1 ≡ suc p = omega arith in
    let to : p + suc (length u) ≡ suc p + length u = omega arith in
    choose_true _ _ _ (ap is_digit (stands_opens s p (c ∷ u) st) ∙ d)
    ∙ ap suc (count_digits k s (suc p) r (omega arith) (subst (λ (z : ℕ). Stands s z u) at (stands_rest s p (c ∷ []) u st))
    (subst (λ (z : ℕ). NoDigit (byte_at s z)) to e))

-- a second test that fails
pub both_none : (a b : Bool) → b ≡ false → both a b ≡ false
unfolding both
both_none true b e = e
both_none false b e = refl

-- ---- a line that opens with the address i and a space
module _ (i : ℕ) (s : List ℕ) (p : ℕ) (h : i ≤ 15) where
  digits_are : (v : List ℕ) → Stands s p (decimal i ++ (32 ∷ v)) → digits_from (length s) s p ≡ length (decimal i)
  digits_are v st =
      let one = stands_first_law s p (decimal i) (32 ∷ v) st in
      let rest = stands_rest s p (decimal i) (32 ∷ v) st in
      let l = stands_within s p (decimal i) (decimal_some 15 i (omega arith) h) one in
      count_digits (length s) s p (digital_decimal i h) (omega arith) one
      (ap is_digit (stands_opens s (p + length (decimal i)) (32 ∷ v) rest) ∙ (low_byte 32 (omega arith)))

  address_first : (v : List ℕ) → Stands s p (decimal i ++ v) → is_digit (byte_at s p) ≡ true
  address_first v st =
      ap is_digit (stands_opens s p (decimal i) (stands_first_law s p (decimal i) v st)) ∙ decimal_opens 15 i _ (omega arith) h

  -- the word behind the address
  word_behind : (w v : List ℕ) → Stands s p (decimal i ++ (32 ∷ v)) → stands_at w s (p + digits_from (length s) s p) ≡ stands_at w s (p + length (decimal i))
  word_behind w v st = ap (λ (k : ℕ). stands_at w s (p + k)) (digits_are v st)

  pub opens_here : (w v : List ℕ) → Stands s p (decimal i ++ ((32 ∷ w) ++ v)) → opens_with (32 ∷ w) s p ≡ true
  unfolding opens_with
  opens_here w v st =
      both_i _ _ (address_first _ st)
      (word_behind (32 ∷ w) _ st
      ∙ stands_word (32 ∷ w) s (p + length (decimal i)) (stands_first_law s _ (32 ∷ w) v (stands_rest s p (decimal i) ((32 ∷ w) ++ v) st)))

  -- another word is told by the byte behind its space
  pub opens_other : (c d : ℕ) (w v : List ℕ) → (c ≡ d → ⊥) → Stands s p (decimal i ++ (32 ∷ d ∷ v)) → opens_with (32 ∷ c ∷ w) s p ≡ false
  unfolding opens_with
  opens_other c d w v f st =
      both_none _ _
      (word_behind (32 ∷ c ∷ w) _ st
      ∙ stands_no_word (32 ∷ c ∷ w) s (p + length (decimal i))
      (λ e.
      let rest = stands_rest s p (decimal i) (32 ∷ d ∷ v) st in
      f (stands_agree s (p + length (decimal i)) (32 ∷ c ∷ w) (32 ∷ d ∷ v) 1 (omega arith) (omega arith) e rest)))

-- what is no digit opens no such line
pub opens_none : (w s : List ℕ) (p : ℕ) → is_digit (byte_at s p) ≡ false → opens_with w s p ≡ false
unfolding opens_with both
opens_none w s p e = ap (λ (b : Bool). both b (stands_at w s (p + digits_from (length s) s p))) e
