-- Laws of matches: an arm's pattern y stands for the value x, whatever the match gives. Assumes nothing.
use mathlib.Core.Path.{◌≡◌}

module _ {A B : Type 0} (f : A → B) where
  pub in_case : (x y : A) (r : B) → x ≡ y → r ≡ f y → r ≡ f x
  in_case x y r p q = rw p q

module _ {A B C : Type 0} (f : C → A → B) where
  pub in_case_2 : (c : C) (x y : A) (r : B) → x ≡ y → r ≡ f c y → r ≡ f c x
  in_case_2 c x y r p q = rw p q

module _ {A B C D : Type 0} (f : C → D → A → B) where
  pub in_case_3 : (c : C) (d : D) (x y : A) (r : B) → x ≡ y → r ≡ f c d y → r ≡ f c d x
  in_case_3 c d x y r p q = rw p q
