-- An array that is filled place by place: g stands at each place below j, and h from there on. Assumes nothing.
use Prim.Native.Nat.{ℕ, suc, ◌<◌, ◌≤◌}
use mathlib.Core.Path.{◌≡◌, sym, ap, ◌∙◌}
use mathlib.Core.List.{List}
use native.Mathlib.Omega.{arith}
use native.Mathlib.Decide.{ℕ_discrete, dec_le}
use lib.ListN.{length, get_or, set, length-set}
use lib.Seq.{get_or-set_same, get_or-set_other, ext_get_or}

pub record UpTo {A : Type 0} (g h : ℕ → A) (d : A) (size j : ℕ) (xs : List A) : Type 0 where
  pub size_is : length xs ≡ size
  pub done : (i : ℕ) → i < j → i < size → get_or xs i d ≡ g i
  pub left : (i : ℕ) → j ≤ i → i < size → get_or xs i d ≡ h i

module _ {A : Type 0} {g h : ℕ → A} {d : A} {size : ℕ} {xs : List A} where
  pub up_to_none : length xs ≡ size → ((i : ℕ) → i < size → get_or xs i d ≡ h i) → UpTo g h d size 0 xs
  up_to_none e f = record { size_is = e; done = λ i l. absurd (omega arith); left = λ i l. f i }

  at_next : (j i : ℕ) (a : A) → a ≡ g j → i < suc j → i < size → UpTo g h d size j xs → Dec (i ≡ j) → get_or (set xs j a) i d ≡ g i
  at_next j i a e l m u (yes p) =
      let size_is = u.size_is in
      ap (λ (v : ℕ). get_or (set xs j a) v d) p ∙ get_or-set_same xs j a d (omega arith) ∙ e ∙ ap g (sym p)
  at_next j i a e l m u (no p) = get_or-set_other xs j i a d p ∙ u.done i (omega arith) m

  -- the next place is set
  pub up_to_next : (j : ℕ) (a : A) → a ≡ g j → UpTo g h d size j xs → UpTo g h d size (suc j) (set xs j a)
  up_to_next j a e u = record {
    size_is = length-set xs j a ∙ u.size_is;
    done = λ i l m. at_next j i a e l m u (ℕ_discrete i j);
    left = λ i l m. get_or-set_other xs j i a d (λ p. omega arith) ∙ u.left i (omega arith) m;
  }

  -- or stands already
  pub up_to_skip : (j : ℕ) → (j < size → h j ≡ g j) → UpTo g h d size j xs → UpTo g h d size (suc j) xs
  up_to_skip j e u = record {
    size_is = u.size_is;
    done = λ i l m. go i l m (ℕ_discrete i j);
    left = λ i l m. u.left i (omega arith) m;
  }
    where
      go : (i : ℕ) → i < suc j → i < size → Dec (i ≡ j) → get_or xs i d ≡ g i
      go i l m (yes p) =
          let at : j < size = omega arith in
          ap (λ (v : ℕ). get_or xs v d) p ∙ u.left j (omega arith) at ∙ e at ∙ ap g (sym p)
      go i l m (no p) = u.done i (omega arith) m

  -- the array whose first places are filled, and whose others stand already
  pub up_to_all :
      (j : ℕ) (ys : List A) → length ys ≡ size → ((i : ℕ) → i < size → get_or ys i d ≡ g i)
      → ((i : ℕ) → j ≤ i → i < size → h i ≡ g i) → UpTo g h d size j xs → xs ≡ ys
  up_to_all j ys e f rest u =
      ext_get_or d xs ys (u.size_is ∙ sym e) (λ i l.
      let m : i < size = omega (arith, u.size_is) in
      go i m (dec_le j i) ∙ sym (f i m))
    where
      go : (i : ℕ) → i < size → Dec (j ≤ i) → get_or xs i d ≡ g i
      go i m (yes l) = u.left i l m ∙ rest i l m
      go i m (no l) = u.done i (omega arith) m
