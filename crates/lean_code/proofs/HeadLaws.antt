-- Laws of the words of an action (`specs/Heads.antt`): each word as the code has it. Assumes nothing.
use Prim.Native.Nat.{ℕ}
use mathlib.Core.Path.{◌≡◌}
use mathlib.Core.List.{List, [], ◌∷◌}
use Rattle.lean_code.specs.Types.{Place, Target}
use Rattle.lean_code.specs.Heads.{target_written, target_from, aimed_words, alone_words}

module _ (number other count : ℕ) (next : Place) where
  pub alone_is : (q : ℕ) → q ≡ next.0 → number ∷ 0 ∷ 9 ∷ q ∷ other ∷ count ∷ [] ≡ alone_words number next other count
  unfolding alone_words
  alone_is q e = rw e

  pub aimed_is :
      (t : Target) (w from q : ℕ) → w ≡ target_written t → from ≡ target_from t → q ≡ next.0
      → number ∷ w ∷ from ∷ q ∷ other ∷ count ∷ [] ≡ aimed_words number t next other count
  unfolding aimed_words
  aimed_is t w from q d e f = rw (d, e, f)

  -- the other word is what a callee gave
  pub alone_other : (x : ℕ) (r : List ℕ) → x ≡ other → r ≡ alone_words number next x count → r ≡ alone_words number next other count
  alone_other x r e p = rw e at p

  pub aimed_other :
      (t : Target) (x : ℕ) (r : List ℕ) → x ≡ other → r ≡ aimed_words number t next x count → r ≡ aimed_words number t next other count
  aimed_other t x r e p = rw e at p
