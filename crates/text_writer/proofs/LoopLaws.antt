-- Parts that a loop writes one after another, and the texts that they make. Assumes nothing.
use Rattle.std.proofs.Common.{◌≡◌, ℕ, Bool, true, false, zero, suc, ◌+◌, ◌<◌, List, [], ◌∷◌, ◌++◌, map, length, take, get_or, ltb, ap, sym, ◌∙◌}
use Rattle.std.proofs.lemmas.List.{get_or_default}
use Rattle.net.specs.Choice.{choose}
use mathlib.Core.List.{append-nil}
use Rattle.layout.proofs.PartLaws.{taken, inside}
use Rattle.net.proofs.Laws.{choose_true, choose_false}
use Rattle.linking.specs.Source.{Line}
use Rattle.sources.specs.Printed.{given, separated, line_text, lines_text}
use Rattle.text.specs.Joined.{joined}
use Rattle.text.specs.Writer.{after}
use Rattle.text.specs.declared.writer.Writer.{Writer}
use Rattle.text.proofs.WriterLaws.{joined_step, after_then, after_none}
use Rattle.text_writer.proofs.ListLaws.{separated_next}
use Rattle.text_writer.proofs.PartLaws.{lines_none, lines_both}

-- ---- an element among the first n, whatever stands for one past the end
module _ {A B : Type 0} (xs : List A) (i n : ℕ) (h : i < length (take n xs)) (f : ℕ → A → List B) (d e : A) (w v u : Writer B) where
  pub part_next :
      v ≡ after w (joined i (λ j. f j (get_or xs j d))) → u ≡ after v (f i (get_or (take n xs) i e))
      → u ≡ after w (joined (i + 1) (λ j. f j (get_or xs j d)))
  part_next p q =
      joined_step w (λ j. f j (get_or xs j d)) v u i p (q ∙ ap (λ (x : A). after v (f i x)) (taken xs i n h e d))

module _ {A B : Type 0} (xs : List A) (i : ℕ) (h : i < length xs) (f : ℕ → A → List B) (d e : A) (w v u : Writer B) where
  pub part_of_all :
      v ≡ after w (joined i (λ j. f j (get_or xs j d))) → u ≡ after v (f i (get_or xs i e))
      → u ≡ after w (joined (i + 1) (λ j. f j (get_or xs j d)))
  part_of_all p q =
      joined_step w (λ j. f j (get_or xs j d)) v u i p (q ∙ ap (λ (x : A). after v (f i x)) (get_or_default xs i e d h))

-- ---- with commas between them
module _ {A : Type 0} (f : A → List ℕ) (xs : List A) (i n : ℕ) (h : i < length (take n xs)) (e : A) (w v u : Writer ℕ) where
  pub separated_step :
      v ≡ after w (separated (map f (take i xs))) → u ≡ after v (given (ltb 0 i) (44 ∷ []) ++ f (get_or (take n xs) i e))
      → u ≡ after w (separated (map f (take (i + 1) xs)))
  separated_step p q =
      after_then w v u _ _ p (q ∙ ap (λ (x : A). after v (given (ltb 0 i) (44 ∷ []) ++ f x)) (taken xs i n h e e))
      ∙ ap (after w) (sym (separated_next f xs e i (inside xs i n h).1))

-- ---- lines
pub lines_joined : (F : ℕ → List Line) (n : ℕ) → joined n (λ j. lines_text (F j)) ≡ lines_text (joined n F)
unfolding joined
lines_joined F zero = sym lines_none
lines_joined F (suc n) =
    ap (λ (t : List ℕ). t ++ lines_text (F n)) (lines_joined F n) ∙ sym (lines_both (joined n F) (F n))

-- as many of them as there are
pub joined_to : {B : Type 0} (f : ℕ → List B) (i n : ℕ) → i ≡ n → joined i f ≡ joined n f
joined_to f i n e = ap (λ (k : ℕ). joined k f) e

-- ---- what is written where a test holds
module _ (w u : Writer ℕ) (b : Bool) where
  pub given_shown : (t : List ℕ) → b ≡ true → u ≡ after w t → u ≡ after w (given b t)
  unfolding given
  given_shown t e p = p ∙ ap (after w) (sym (choose_true b t [] e))

  pub line_shown : (l : Line) → b ≡ true → u ≡ after w (line_text l) → u ≡ after w (lines_text (choose b (l ∷ []) []))
  unfolding lines_text
  line_shown l e p =
      p ∙ ap (after w) (sym (ap lines_text (choose_true b (l ∷ []) [] e) ∙ append-nil (line_text l)))

module _ (w : Writer ℕ) (b : Bool) where
  pub given_left : (t : List ℕ) → b ≡ false → w ≡ after w (given b t)
  unfolding given
  given_left t e = sym (after_none w) ∙ ap (after w) (sym (choose_false b t [] e))

  pub line_left : (l : Line) → b ≡ false → w ≡ after w (lines_text (choose b (l ∷ []) []))
  line_left l e =
      sym (after_none w) ∙ ap (after w) (sym (ap lines_text (choose_false b (l ∷ []) [] e) ∙ lines_none))

-- a single line, and lines behind lines
pub line_alone : (w u : Writer ℕ) (l : Line) → u ≡ after w (line_text l) → u ≡ after w (lines_text (l ∷ []))
unfolding lines_text
line_alone w u l p = p ∙ ap (after w) (sym (append-nil (line_text l)))

pub both_lines :
    (w v u : Writer ℕ) (ls ms : List Line) → v ≡ after w (lines_text ls) → u ≡ after v (lines_text ms)
    → u ≡ after w (lines_text (ls ++ ms))
both_lines w v u ls ms p q = after_then w v u _ _ p q ∙ ap (after w) (sym (lines_both ls ms))

-- the lines of n parts
pub lines_end :
    (w v : Writer ℕ) (F : ℕ → List Line) (i n : ℕ) → v ≡ after w (joined i (λ j. lines_text (F j))) → i ≡ n
    → v ≡ after w (lines_text (joined n F))
lines_end w v F i n p e = p ∙ ap (after w) (joined_to (λ j. lines_text (F j)) i n e ∙ lines_joined F n)
