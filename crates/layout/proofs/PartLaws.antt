-- Parts that are written one after another, one for each of the first elements of an array. Assumes nothing.
use Rattle.std.proofs.Common.{◌≡◌, ℕ, ◌+◌, ◌<◌, List, length, take, get_or, ap, ◌∙◌, arith, min}
use Rattle.std.proofs.lemmas.List.{get_or-take, length-take, get_or_default}
use Rattle.text.specs.Joined.{joined}
use Rattle.text.specs.Writer.{after}
use Rattle.text.specs.declared.writer.Writer.{Writer}
use Rattle.text.proofs.WriterLaws.{joined_step}

module _ {A : Type 0} (xs : List A) (i n : ℕ) (h : i < length (take n xs)) where
  pub inside : (i < n) × (i < length xs)
  inside = let e : length (take n xs) ≡ min n (length xs) = length-take n xs in (omega arith, omega arith)

  -- an element among the first n, whatever stands for one past the end
  pub taken : (e d : A) → get_or (take n xs) i e ≡ get_or xs i d
  taken e d = get_or-take n xs i e inside.0 ∙ get_or_default xs i e d inside.1

  pub part_more :
      {B : Type 0} (f : A → List B) (d e : A) (w v u : Writer B) → v ≡ after w (joined i (λ j. f (get_or xs j d)))
      → u ≡ after v (f (get_or (take n xs) i e)) → u ≡ after w (joined (i + 1) (λ j. f (get_or xs j d)))
  part_more f d e w v u p q =
      joined_step w (λ j. f (get_or xs j d)) v u i p (q ∙ ap (λ (x : A). after v (f x)) (taken e d))
