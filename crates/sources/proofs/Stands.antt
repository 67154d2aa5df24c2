-- Bytes that stand in a text from a place on (`byte_at` of `Lexemes.antt`): one part after another, and the first of them.
-- Assumes nothing.
use Prim.Native.Nat.{ℕ, zero, suc, ◌+◌, ◌-◌, ◌<◌, ◌≤◌}
use mathlib.Core.Path.{◌≡◌, sym, ap, ◌∙◌}
use mathlib.Core.List.{List, [], ◌∷◌, ◌++◌}
use native.Mathlib.Omega.{arith}
use native.Mathlib.Decide.{dec_le}
use lib.ListN.{length, get_or, length-append, get_or-append}
use lib.Seq.{get_or-append-add, ext_get_or}
use Rattle.lexemes.specs.Lexemes.{byte_at}

pub record Stands (s : List ℕ) (p : ℕ) (u : List ℕ) : Type 0 where
  pub within : (i : ℕ) → i < length u → p + i < length s
  pub each : (i : ℕ) → i < length u → byte_at s (p + i) ≡ get_or u i 0

pub stands_none : (s : List ℕ) (p : ℕ) → Stands s p []
stands_none s p = record { within = λ i l. absurd (omega arith); each = λ i l. absurd (omega arith) }

pub stands_one : (s : List ℕ) (p c : ℕ) → p < length s → byte_at s p ≡ c → Stands s p (c ∷ [])
stands_one s p c h e = record { within = λ i l. omega arith; each = go }
  where
    go : (i : ℕ) → i < 1 → byte_at s (p + i) ≡ get_or (c ∷ []) i 0
    go zero l = let a : p + 0 ≡ p = omega arith in ap (byte_at s) a ∙ e
    go (suc i) l = absurd (omega arith)

-- ---- one part after another
module _ (s : List ℕ) (p : ℕ) (u v : List ℕ) where
  pub stands_append : Stands s p u → Stands s (p + length u) v → Stands s p (u ++ v)
  stands_append f g = record {
    within = λ i h. go_in i h (dec_le (length u) i);
    each = λ i h. go i h (dec_le (length u) i);
  }
    where
      go_in : (i : ℕ) → i < length (u ++ v) → Dec (length u ≤ i) → p + i < length s
      go_in i h (yes l) = let e = length-append u v in let w = g.within (i - length u) (omega arith) in omega arith
      go_in i h (no l) = f.within i (omega arith)

      go : (i : ℕ) → i < length (u ++ v) → Dec (length u ≤ i) → byte_at s (p + i) ≡ get_or (u ++ v) i 0
      go i h (yes l) =
          let e = length-append u v in
          let j : ℕ = i - length u in
          let d : i ≡ length u + j = omega arith in
          let a : p + i ≡ p + length u + j = omega arith in
          ap (byte_at s) a ∙ g.each j (omega arith)
          ∙ sym (get_or-append-add u v j 0) ∙ ap (λ (k : ℕ). get_or (u ++ v) k 0) (sym d)
      go i h (no l) = f.each i (omega arith) ∙ sym (get_or-append u v 0 i (omega arith))

  pub stands_first_law : Stands s p (u ++ v) → Stands s p u
  stands_first_law f = record {
    within = λ i h. let e = length-append u v in f.within i (omega arith);
    each = λ i h. let e = length-append u v in f.each i (omega arith) ∙ get_or-append u v 0 i h;
  }

  pub stands_rest : Stands s p (u ++ v) → Stands s (p + length u) v
  stands_rest f = record {
    within = λ i h. let e = length-append u v in let w = f.within (length u + i) (omega arith) in omega arith;
    each = λ i h.
        let e = length-append u v in
        let a : p + length u + i ≡ p + (length u + i) = omega arith in
        ap (byte_at s) a ∙ f.each (length u + i) (omega arith) ∙ get_or-append-add u v i 0;
  }

-- the first byte of a part, or the one behind it where it is empty
pub stands_opens : (s : List ℕ) (p : ℕ) (u : List ℕ) → Stands s p u → byte_at s p ≡ get_or u 0 (byte_at s (p + length u))
stands_opens s p [] f = let a : p ≡ p + 0 = omega arith in ap (byte_at s) a
stands_opens s p (c ∷ u) f = let a : p ≡ p + 0 = omega arith in ap (byte_at s) a ∙ f.each 0 (omega arith)

-- what stands, stands within the text
pub stands_within : (s : List ℕ) (p : ℕ) (u : List ℕ) → 1 ≤ length u → Stands s p u → p + length u ≤ length s
stands_within s p u h f = let w = f.within (length u - 1) (omega arith) in omega arith

-- ---- the whole text
pub stands_fits : (s u : List ℕ) → Stands s 0 u → length u ≤ length s
stands_fits s u f = go (dec_le (length u) (length s))
  where
    go : Dec (length u ≤ length s) → length u ≤ length s
    go (yes h) = h
    go (no h) = let w = f.within (length s) (omega arith) in absurd (omega arith)

pub stands_whole : (s u : List ℕ) → length u ≡ length s → Stands s 0 u → u ≡ s
unfolding byte_at
stands_whole s u e f =
    ext_get_or 0 u s e (λ i h. let a : i ≡ 0 + i = omega arith in sym (ap (λ (k : ℕ). get_or s k 0) a ∙ f.each i h))

pub stands_self : (s : List ℕ) → Stands s 0 s
unfolding byte_at
stands_self s = record {
  within = λ i h. omega arith;
  each = λ i h. let a : 0 + i ≡ i = omega arith in ap (λ (k : ℕ). get_or s k 0) a;
}
