-- Laws of writers of bits or of bytes (`specs/Writing.antt`). Assumes nothing.
use Prim.Native.Nat.{ℕ, zero, suc, ◌+◌, ◌<◌, ◌≤◌}
use mathlib.Core.Path.{◌≡◌, refl, sym, ap, subst, ◌∙◌}
use mathlib.Core.List.{List, [], ◌∷◌, ◌++◌}
use native.Mathlib.Omega.{arith}
use native.Mathlib.Decide.{dec_le}
use native.Mathlib.Numerals.{add-one}
use lib.ListN.{length, get_or, set, take, length-append}
use lib.Seq.{length-sets, set_out, take-suc, take_all}
use Rattle.text.specs.Buffer.{over}
use Rattle.text.specs.Joined.{joined}
use Rattle.text.specs.Writing.{Wrote}

-- of two numbers
up_to : {A : Type 0} (i n : ℕ) → (i ≤ n → A) → (n < i → A) → A
up_to {A} i n f g = go (dec_le i n)
  where
    go : Dec (i ≤ n) → A
    go (yes p) = f p
    go (no p) = g (omega arith)

-- ---- elements stored in a buffer
module _ {A : Type 0} where
  -- past its end nothing is
  pub over_past : (xs : List A) (at : ℕ) (text : List A) → length xs ≤ at → over xs at text ≡ xs
  unfolding over
  over_past xs at [] h = refl
  over_past xs at (x ∷ text) h =
      ap (λ (ys : List A). over ys (suc at) text) (set_out xs at x h) ∙ over_past xs (suc at) text (omega arith)

  pub over_both :
      (xs : List A) (at : ℕ) (text more : List A) → over (over xs at text) (at + length text) more ≡ over xs at (text ++ more)
  unfolding over
  over_both xs at [] more = ap (λ (i : ℕ). over xs i more) (omega arith)
  over_both xs at (x ∷ text) more =
      ap (λ (i : ℕ). over (over (set xs at x) (suc at) text) i more) (omega arith) ∙ over_both (set xs at x) (suc at) text more

  pub over_length : (xs : List A) (at : ℕ) (text : List A) → length (over xs at text) ≡ length xs
  unfolding over
  over_length xs at text = length-sets xs at text

-- ---- one part after another
module _ {A : Type 0} (xs : List A) (at : ℕ) where
  pub wrote_nothing : Wrote xs at [] xs at
  unfolding over
  wrote_nothing = record { is = refl; fits = λ h. omega arith; full = λ h. omega arith }

  store_after :
      (bits more : List A) (r : ℕ) → (at + length bits ≤ length xs → r ≡ at + length bits)
      → (length xs < at + length bits → length xs < r) → Dec (at + length bits ≤ length xs)
      → over (over xs at bits) r more ≡ over xs at (bits ++ more)
  store_after bits more r fits full (yes h) =
      ap (λ (i : ℕ). over (over xs at bits) i more) (fits h) ∙ over_both xs at bits more
  store_after bits more r fits full (no h) =
      let long = over_length xs at bits in
      let past = full (omega arith) in
      over_past (over xs at bits) r more (omega (arith, long))
      ∙ sym (over_past (over xs at bits) (at + length bits) more (omega (arith, long))) ∙ over_both xs at bits more

  pub wrote_then :
      (bits more ys zs : List A) (r q : ℕ) → Wrote xs at bits ys r → Wrote ys r more zs q
      → Wrote xs at (bits ++ more) zs q
  wrote_then bits more ys zs r q w v =
      let long : length ys ≡ length xs = ap length w.is ∙ over_length xs at bits in
      let whole : length (bits ++ more) ≡ length bits + length more = length-append bits more in
      record {
        is = v.is ∙ ap (λ (b : List A). over b r more) w.is
            ∙ store_after bits more r w.fits w.full (dec_le (at + length bits) (length xs));
        fits = λ h.
            let here = w.fits (omega arith) in
            let there = v.fits (omega arith) in
            omega arith;
        full = λ h. up_to (at + length bits) (length xs)
            (λ l. let here = w.fits l in let there = v.full (omega arith) in omega arith)
            (λ l. let here = w.full l in let there = v.full (omega arith) in omega arith);
      }

  -- an element, and more after it
  pub wrote_one_then :
      (b : A) (more ys zs : List A) (r q : ℕ) → Wrote xs at (b ∷ []) ys r → Wrote ys r more zs q
      → Wrote xs at (b ∷ more) zs q
  wrote_one_then b more ys zs r q w v = wrote_then (b ∷ []) more ys zs r q w v

pub wrote_length : {A : Type 0} (xs : List A) (at : ℕ) (bits ys : List A) (r : ℕ) → Wrote xs at bits ys r → length ys ≡ length xs
wrote_length xs at bits ys r w = ap length w.is ∙ over_length xs at bits

-- ---- an element
module _ {A : Type 0} (xs : List A) (at : ℕ) (b : A) where
  pub wrote_one : at < length xs → Wrote xs at (b ∷ []) (set xs at b) (at + 1)
  unfolding over
  wrote_one h = record { is = refl; fits = λ _. refl; full = λ g. absurd (omega arith) }

  pub wrote_past : length xs ≤ at → Wrote xs at (b ∷ []) xs (length xs + 1)
  wrote_past h = record { is = sym (over_past xs at _ h); fits = λ g. absurd (omega arith); full = λ _. omega arith }

-- ---- the elements of a list, one after another
module _ {A : Type 0} (xs : List A) (at : ℕ) (text : List A) (d : A) where
  pub wrote_more :
      (i : ℕ) (ys zs : List A) (r q : ℕ) → Wrote xs at (take i text) ys r → i < length text
      → Wrote ys r (get_or text i d ∷ []) zs q → Wrote xs at (take (i + 1) text) zs q
  wrote_more i ys zs r q w h v =
      subst (λ (t : List A). Wrote xs at t zs q) (sym (ap (λ (j : ℕ). take j text) (add-one i) ∙ take-suc text i d h))
      (wrote_then xs at _ _ _ _ _ _ w v)

module _ {A : Type 0} (xs : List A) (at : ℕ) (text : List A) where
  pub wrote_all :
      (i : ℕ) (ys : List A) (r : ℕ) → Wrote xs at (take i text) ys r → length text ≤ i → Wrote xs at text ys r
  wrote_all i ys r w h = subst (λ (t : List A). Wrote xs at t ys r) (take_all i text h) w

-- ---- parts, one after another
module _ {A : Type 0} (xs : List A) (at : ℕ) (f : ℕ → List A) where
  pub joined_none : Wrote xs at (joined 0 f) xs at
  unfolding joined
  joined_none = wrote_nothing xs at

  pub joined_more :
      (i : ℕ) (ys zs : List A) (r q : ℕ) → Wrote xs at (joined i f) ys r → Wrote ys r (f i) zs q
      → Wrote xs at (joined (i + 1) f) zs q
  unfolding joined
  joined_more i ys zs r q w v =
      subst (λ (t : List A). Wrote xs at t zs q) (sym (ap (λ (j : ℕ). joined j f) (add-one i)))
      (wrote_then xs at _ _ _ _ _ _ w v)

  pub joined_end :
      (i n : ℕ) (ys : List A) (r : ℕ) → Wrote xs at (joined i f) ys r → i ≤ n → n ≤ i → Wrote xs at (joined n f) ys r
  joined_end i n ys r w h g =
      let e : i ≡ n = omega arith in
      subst (λ (j : ℕ). Wrote xs at (joined j f) ys r) e w

-- parts that agree give the same
pub joined_same :
    {A : Type 0} (n : ℕ) (f g : ℕ → List A) → ((i : ℕ) → i < n → f i ≡ g i) → joined n f ≡ joined n g
unfolding joined
joined_same zero f g h = refl
joined_same {A} (suc n) f g h =
    ap (λ (t : List A). t ++ f n) (joined_same n f g (λ i l. h i (omega arith)))
    ∙ ap (λ (t : List A). joined n g ++ t) (h n (omega arith))

-- ---- matches: an arm's pattern y stands for the value x
module _ {A B : Type 0} (f : B → List A) (xs : List A) (at : ℕ) where
  pub wrote_case : (x y : B) (ys : List A) (r : ℕ) → x ≡ y → Wrote xs at (f y) ys r → Wrote xs at (f x) ys r
  wrote_case x y ys r e w = subst (λ (z : B). Wrote xs at (f z) ys r) (sym e) w

module _ {A B C : Type 0} (f : C → B → List A) (xs : List A) (at : ℕ) where
  pub wrote_case_2 : (c : C) (x y : B) (ys : List A) (r : ℕ) → x ≡ y → Wrote xs at (f c y) ys r → Wrote xs at (f c x) ys r
  wrote_case_2 c x y ys r e w = subst (λ (z : B). Wrote xs at (f c z) ys r) (sym e) w
