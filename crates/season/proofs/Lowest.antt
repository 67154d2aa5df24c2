-- A fraction divided by the greatest common divisor is in lowest terms. Assumes nothing.
use Prim.Native.Nat.{ℕ, zero, suc, ◌*◌, ◌/◌, ◌%◌, ◌≤◌, ◌<◌, ◌∣◌}
use mathlib.Core.Path.{◌≡◌, refl, sym, ap, subst, ◌∙◌}
use mathlib.Core.Bool.{Bool, true, false}
use native.Mathlib.Omega.{arith}
use native.Mathlib.Nat.{mul_assoc, mul_left_comm, mul-one, mod-lt, dvd_refl, dvd-zero, dvd-mod_iff, pos_of_dvd_of_pos}
use native.Mathlib.Nat.{le_of_dvd, mul-dvd-mul_left, mul-div_cancel', le_of_mul-le-mul_left, zero-div, div-zero}
use lib.Dec.{eqb}
use borrow.Author.Tests.{eqb-true, eqb-false, eq-eqb, ne_eqb}
use Rattle.net.specs.Choice.{choose}
use Rattle.net.proofs.Laws.{choose_true, choose_false}
use Rattle.net.proofs.Every.{chosen}
use Rattle.season.specs.Fractions.{fraction, euclid, greatest_divisor, divided_by, lowest}
use Rattle.season.specs.SeasonClaims.{InLowestTerms}

-- ---- what Euclid gives divides both, and every common divisor divides it
pub record Divides (g a b : ℕ) : Type 0 where
  pub first : g ∣ a
  pub second : g ∣ b

divides_nought : (a b : ℕ) → b ≡ 0 → Divides a a b
divides_nought a b e = record { first = dvd_refl a; second = subst (λ (n : ℕ). a ∣ n) (sym e) (dvd-zero a) }

-- a round goes on from the divisor and the remainder
round_divides : (g a b : ℕ) → Divides g b (a % b) → Divides g a b
round_divides g a b h = record { first = (dvd-mod_iff g h.first).0 h.second; second = h.first }

less_left : (k a b : ℕ) → b ≤ suc k → eqb b 0 ≡ false → a % b ≤ k
less_left k a b h e =
    let positive : 0 < b = omega (arith, eqb-false b 0 e) in
    let less : a % b < b = mod-lt a positive in
    omega arith

euclid_divides : (k a b : ℕ) → b ≤ k → Divides (euclid k a b) a b
unfolding euclid
euclid_divides zero a b h = divides_nought a b (omega arith)
euclid_divides (suc k) a b h =
    chosen (λ (g : ℕ). Divides g a b) (eqb b 0) _ _ (λ e. divides_nought a b (eqb-true b 0 e))
    (λ e. round_divides _ a b (euclid_divides k b (a % b) (less_left k a b h e)))

-- the rounds: none is left at nought, and further rounds change nothing
euclid_nought : (k a b : ℕ) → b ≡ 0 → euclid k a b ≡ a
unfolding euclid
euclid_nought zero a b e = refl
euclid_nought (suc k) a b e = choose_true _ _ _ (eq-eqb b 0 e)

euclid_turn : (k a b : ℕ) → (b ≡ 0 → ⊥) → euclid (suc k) a b ≡ euclid k b (a % b)
unfolding euclid
euclid_turn k a b n = choose_false _ _ _ (ne_eqb b 0 n)

choose_same : (t : Bool) (x y z : ℕ) → (t ≡ false → y ≡ z) → choose t x y ≡ choose t x z
unfolding choose
choose_same true x y z h = refl
choose_same false x y z h = h refl

euclid_enough : (k j a b : ℕ) → b ≤ k → b ≤ j → euclid k a b ≡ euclid j a b
unfolding euclid
euclid_enough zero j a b h g = sym (euclid_nought j a b (omega arith))
euclid_enough (suc k) zero a b h g = euclid_nought (suc k) a b (omega arith)
euclid_enough (suc k) (suc j) a b h g =
    choose_same (eqb b 0) a _ _ (λ e. euclid_enough k j b (a % b) (less_left k a b h e) (less_left j a b g e))

divisor_turn : (a b : ℕ) → 0 < b → greatest_divisor b (a % b) ≡ greatest_divisor a b
unfolding greatest_divisor
divisor_turn a zero h = absurd (omega arith)
divisor_turn a (suc k) h =
    let less : a % suc k < suc k = mod-lt a h in
    euclid_enough (a % suc k) k (suc k) (a % suc k) (omega arith) (omega arith)
    ∙ sym (euclid_turn k a (suc k) (λ e. omega arith))

-- the code's loop has come from a and b to x and y
pub divisor_falls : (x y : ℕ) → 0 < y → x % y < y
divisor_falls x y h = mod-lt x h

module _ (a b x y : ℕ) (e : greatest_divisor x y ≡ greatest_divisor a b) where
  pub divisor_again : 0 < y → greatest_divisor y (x % y) ≡ greatest_divisor a b
  divisor_again h = divisor_turn x y h ∙ e

  pub divisor_last : y ≤ 0 → x ≡ greatest_divisor a b
  unfolding greatest_divisor
  divisor_last h = sym (euclid_nought y x y (omega arith)) ∙ e

-- dividing by nought gives nought
pub by_nought : (n d : ℕ) → d ≤ 0 → 0 ≡ n / d
by_nought n d h = let e : d ≡ 0 = omega arith in sym (ap (λ (m : ℕ). n / m) e ∙ div-zero n)

euclid_greatest : (k a b c : ℕ) → c ∣ a → c ∣ b → c ∣ euclid k a b
unfolding euclid
euclid_greatest zero a b c p q = p
euclid_greatest (suc k) a b c p q =
    chosen (λ (g : ℕ). c ∣ g) (eqb b 0) _ _ (λ _. p)
    (λ _. euclid_greatest k b (a % b) c q ((dvd-mod_iff c q).1 p))

-- ---- divided by a common divisor that every other divides
module _
    (g n d : ℕ) (common : Divides g n d) (greatest : (c : ℕ) → c ∣ n → c ∣ d → c ∣ g) (positive : 0 < d)
  where
    above : 0 < g
    above = pos_of_dvd_of_pos common.second positive

    whole_n : g * (n / g) ≡ n
    whole_n = mul-div_cancel' g common.first

    whole_d : g * (d / g) ≡ d
    whole_d = mul-div_cancel' g common.second

    cross : n / g * d ≡ n * (d / g)
    cross =
        ap (λ (m : ℕ). n / g * m) (sym whole_d) ∙ mul_left_comm (n / g) g (d / g)
        ∙ sym (mul_assoc g (n / g) (d / g))
        ∙ ap (λ (m : ℕ). m * (d / g)) whole_n

    times : (k m : ℕ) → k ∣ m / g → g * (m / g) ≡ m → g * k ∣ m
    times k m p e = subst (λ (x : ℕ). g * k ∣ x) e (mul-dvd-mul_left k g p)

    none_common : (k : ℕ) → k ∣ n / g → k ∣ d / g → k ≤ 1
    none_common k p q =
        let most : g * k ≤ g = le_of_dvd above (greatest (g * k) (times k n p whole_n) (times k d q whole_d)) in
        let one : g * 1 ≡ g = mul-one g in
        le_of_mul-le-mul_left {k = g} (omega arith) above

    none_left : n ≡ 0 → divided_by g n d ≡ fraction 0 1
    unfolding divided_by
    none_left e =
        let top : n / g ≡ 0 = ap (λ (m : ℕ). m / g) e ∙ zero-div g in
        let most : d / g ≤ 1 = none_common (d / g) (subst (λ (m : ℕ). d / g ∣ m) (sym top) (dvd-zero (d / g))) (dvd_refl (d / g)) in
        let least : d / g ≡ 1 = go (d / g) refl most in
        ap (λ (m : ℕ). fraction m (d / g)) top ∙ ap (λ (m : ℕ). fraction 0 m) least
      where
        go : (m : ℕ) → d / g ≡ m → m ≤ 1 → m ≡ 1
        go zero z h =
            let gone : d ≡ 0 = sym whole_d ∙ ap (λ (m : ℕ). g * m) z ∙ omega arith in
            absurd (omega arith)
        go (suc m) z h = omega arith

    reduced : InLowestTerms n d (divided_by g n d)
    unfolding divided_by fraction
    reduced = record { same = cross; no_common = none_common; nought = none_left }

pub lowest_terms_law : (n d : ℕ) → 0 < d → InLowestTerms n d (lowest n d)
unfolding lowest greatest_divisor
lowest_terms_law n d h = reduced _ n d (euclid_divides d n d (omega arith)) (euclid_greatest d n d) h
