-- A logic of readers and printings: a reader (`Reader.antt` of `readers`) gives a value exactly where the bytes that are
-- printed for it stand, and goes on behind them. What stands behind a printing may be asked not to go on with it, as a
-- row of the same node. `ReadsPrints.antt` has the laws for what one byte ahead tells. Assumes nothing.
use Prim.Native.Nat.{ℕ, ◌+◌}
use mathlib.Core.Path.{◌≡◌, refl, sym, ap, subst, ◌∙◌}
use mathlib.Core.Bool.{Bool, true, false}
use mathlib.Core.Logic.{◌⊎◌, inl, inr}
use mathlib.Core.List.{List, [], ◌++◌, append-nil}
use native.Mathlib.Omega.{arith}
use lib.ListN.{length, length-append}
use Rattle.net.specs.Choice.{choose}
use Rattle.net.proofs.Laws.{choose_true, choose_false}
use Rattle.net.proofs.ReadingLaws.{never}
use Rattle.readers.specs.Reader.{Parsed, got, fault, Reader, pure, and_then, ◌>>=◌, ◌>>◌, require_in, require}
use Rattle.readers.proofs.ReaderLaws.{no_fault}
use Rattle.lexemes.specs.Lexemes.{fail}
use Rattle.sources.proofs.Stands.{Stands, stands_none, stands_append, stands_first_law, stands_rest}

-- from place p to place q stand bytes that R prints for a
pub record Bears {A : Type 0} (R : A → List ℕ → Type 0) (s : List ℕ) (p : ℕ) (a : A) (q : ℕ) : Type 0 where
  pub text : List ℕ
  pub prints : R a text
  pub stands : Stands s p text
  pub ends : q ≡ p + length text

pub bears_as :
    {A : Type 0} {R R' : A → List ℕ → Type 0} {s : List ℕ} {p : ℕ} {a : A} {q : ℕ} → ((u : List ℕ) → R a u → R' a u)
    → Bears R s p a q → Bears R' s p a q
bears_as f x = record { text = x.text; prints = f x.text x.prints; stands = x.stands; ends = x.ends }

-- m gives exactly the values that R prints, where their bytes stand and the text behind them is as F asks
pub record ReadsBefore {A : Type 0} (m : Reader A) (R : A → List ℕ → Type 0) (F : List ℕ → ℕ → Type 0) : Type 0 where
  pub only : (s : List ℕ) (p : ℕ) (a : A) (q : ℕ) → m s p ≡ got a q → Bears R s p a q
  pub back :
      (s : List ℕ) (p : ℕ) (a : A) (u : List ℕ) → R a u → Stands s p u → F s (p + length u)
      → m s p ≡ got a (p + length u)

-- ---- the same reader, said in other words
module _ {A : Type 0} {R R' : A → List ℕ → Type 0} {F F' : List ℕ → ℕ → Type 0} {m : Reader A} where
  pub before_as :
      ReadsBefore m R F → ((a : A) (u : List ℕ) → R a u → R' a u) → ((a : A) (u : List ℕ) → R' a u → R a u)
      → ((s : List ℕ) (q : ℕ) → F' s q → F s q) → ReadsBefore m R' F'
  before_as r f g e = record {
    only = λ s p a q h. bears_as (f a) (r.only s p a q h);
    back = λ s p a u h st d. r.back s p a u (g a u h) st (e s _ d);
  }

module _ {A : Type 0} {R : A → List ℕ → Type 0} {F : List ℕ → ℕ → Type 0} {m : Reader A} where
  pub before_equal : (k : Reader A) → ((s : List ℕ) (p : ℕ) → k s p ≡ m s p) → ReadsBefore m R F → ReadsBefore k R F
  before_equal k e r = record {
    only = λ s p a q d. r.only s p a q (sym (e s p) ∙ d);
    back = λ s p a u h st d. e s p ∙ r.back s p a u h st d;
  }

-- ---- a value, with nothing read
abbrev pub Is : {A : Type 0} → A → A → List ℕ → Type 0
Is a b u = (a ≡ b) × ([] ≡ u)

module _ {A : Type 0} {F : List ℕ → ℕ → Type 0} where
  pub before_pure : (a : A) → ReadsBefore (pure a) (Is a) F
  unfolding pure
  before_pure a = record {
    only = λ s p b q e.
        let d : a ≡ b = cc in
        let r : p ≡ q = cc in
        record { text = []; prints = (d, refl); stands = stands_none s p; ends = omega arith };
    back = back;
  }
    where
      back : (s : List ℕ) (p : ℕ) (b : A) (u : List ℕ) → Is a b u → Stands s p u → F s (p + length u)
          → pure a s p ≡ got b (p + length u)
      back s p b u h st d =
          let l : 0 ≡ length u = ap length h.1 in
          let r : p ≡ p + length u = omega arith in cc h.0

  -- ---- a fault
  pub before_fail : (n : ℕ) → ReadsBefore {A = A} (fail n) (λ a u. ⊥) F
  unfolding fail
  before_fail n = record { only = λ s p a q e. no_fault e; back = λ s p a u h st d. absurd h }

-- ---- one reader after another
pub record Then {A B : Type 0} (R : A → List ℕ → Type 0) (Q : A → B → List ℕ → Type 0) (b : B) (t : List ℕ) : Type 0 where
  pub one : A
  pub text : List ℕ
  pub rest : List ℕ
  pub prints : R one text
  pub goes_on : Q one b rest
  pub is : text ++ rest ≡ t

module _ {A B : Type 0} {R : A → List ℕ → Type 0} {Q : A → B → List ℕ → Type 0} {F G : List ℕ → ℕ → Type 0} {m : Reader A}
    {f : A → Reader B} where
  pub before_then :
      ReadsBefore m R F → ((a : A) (u : List ℕ) → R a u → ReadsBefore (f a) (Q a) G)
      → ((a : A) (b : B) (u v s : List ℕ) (q : ℕ) → R a u → Q a b v → Stands s q v → G s (q + length v) → F s q)
      → ReadsBefore (m >>= f) (Then R Q) G
  unfolding ◌>>=◌ and_then
  before_then r g opens = record { only = λ s p b q e. only s p b q (m s p) refl e; back = back }
    where
      only : (s : List ℕ) (p : ℕ) (b : B) (q : ℕ) → (o : Parsed A) → m s p ≡ o → and_then o s f ≡ got b q
          → Bears (Then R Q) s p b q
      only s p b q (fault n) d e = no_fault e
      only s p b q (got a k) d e =
          let x = r.only s p a k d in
          let y = (g a x.text x.prints).only s k b q e in
          let l = length-append x.text y.text in
          let at = x.ends in
          record {
            text = x.text ++ y.text;
            prints = record { one = a; text = x.text; rest = y.text; prints = x.prints; goes_on = y.prints; is = refl };
            stands = stands_append s p x.text y.text x.stands (subst (λ (z : ℕ). Stands s z y.text) at y.stands);
            ends = omega (arith, y.ends);
          }

      back : (s : List ℕ) (p : ℕ) (b : B) (t : List ℕ) → Then R Q b t → Stands s p t → G s (p + length t)
          → and_then (m s p) s f ≡ got b (p + length t)
      back s p b t h st d =
          let u = h.text in
          let v = h.rest in
          let st' : Stands s p (u ++ v) = subst (Stands s p) (sym h.is) st in
          let l : length (u ++ v) ≡ length t = ap length h.is in
          let l' = length-append u v in
          let at : p + length t ≡ p + length u + length v = omega arith in
          let d' : G s (p + length u + length v) = subst (G s) at d in
          let rest = stands_rest s p u v st' in
          ap (λ o. and_then o s f)
          (r.back s p h.one u h.prints (stands_first_law s p u v st')
          (opens h.one b u v s (p + length u) h.prints h.goes_on rest d'))
          ∙ (g h.one u h.prints).back s (p + length u) b v h.goes_on rest d'
          ∙ ap (got b) (sym at)

-- ---- a value made of the one that was read
abbrev pub Image : {A B : Type 0} → (A → B) → (A → List ℕ → Type 0) → B → List ℕ → Type 0
Image h R b u = (a : _) × R a u × (h a ≡ b)

-- where nothing is printed, what follows stands here
pub still : (F : List ℕ → ℕ → Type 0) (v s : List ℕ) (q : ℕ) → [] ≡ v → F s (q + length v) → F s q
still F v s q e d =
    let l : 0 ≡ length v = ap length e in
    let at : q + length v ≡ q = omega arith in subst (F s) at d

-- a part with nothing behind it
pub nothing_behind :
    {A : Type 0} (R : A → List ℕ → Type 0) (a : A) (u v t : List ℕ) → R a u → [] ≡ v → u ++ v ≡ t → R a t
nothing_behind R a u v t x n e = subst (R a) (sym (append-nil u) ∙ ap (λ (w : List ℕ). u ++ w) n ∙ e) x

module _ {A B : Type 0} {m : Reader A} {R : A → List ℕ → Type 0} {F : List ℕ → ℕ → Type 0} where
  pub before_map : (h : A → B) → ReadsBefore m R F → ReadsBefore (m >>= (λ a. pure (h a))) (Image h R) F
  before_map h r =
      before_as
      (before_then r (λ a u x. before_pure (h a))
      (λ a b u v s q x y st e. still F v s q y.1 e))
      (λ b t x. (x.one, nothing_behind R x.one x.text x.rest t x.prints x.goes_on.1 x.is, x.goes_on.0))
      (λ b t x. record {
        one = x.0;
        text = t;
        rest = [];
        prints = x.1;
        goes_on = (x.2, refl);
        is = append-nil t;
      })
      (λ s q e. e)

-- ---- tests of a value that was read

-- a test that has to be passed
module _ {B : Type 0} {f : Reader B} {R : B → List ℕ → Type 0} {F : List ℕ → ℕ → Type 0} where
  pub before_require : (ok : Bool) (n : ℕ) → ReadsBefore f R F → ReadsBefore (require ok n >> f) (λ b u. (ok ≡ true) × R b u) F
  unfolding require require_in ◌>>◌ ◌>>=◌ and_then choose
  before_require true n r =
      before_equal _ (λ s p. refl) (before_as r (λ b u h. (refl, h)) (λ b u h. h.1) (λ s q e. e))
  before_require false n r = record {
    only = λ s p b q e. no_fault e;
    back = λ s p b u h st d. never h.0;
  }

-- a value that is handed on as it is where T holds of it
module _ {A : Type 0} {m : Reader A} {f : A → Reader A} {R : A → List ℕ → Type 0} {F : List ℕ → ℕ → Type 0} (T : A → Type 0) where
  pub before_kept :
      ReadsBefore m R F → ((a : A) → ReadsBefore (f a) (λ b u. T a × Is a b u) F) → ReadsBefore (m >>= f) (λ a u. R a u × T a) F
  before_kept r g =
      before_as (before_then r (λ a u x. g a) (λ a b u v s q x y st e. still F v s q y.1.1 e))
      (λ b t x.
      subst (λ (a : A). R a t × T a) x.goes_on.1.0
      (nothing_behind R x.one x.text x.rest t x.prints x.goes_on.1.1 x.is, x.goes_on.0))
      (λ b t x. record {
        one = b;
        text = t;
        rest = [];
        prints = x.0;
        goes_on = (x.1, (refl, refl));
        is = append-nil t;
      })
      (λ s q e. e)

-- ---- a choice by a test of what stands here
abbrev pub Or : {A : Type 0} → (A → List ℕ → Type 0) → (A → List ℕ → Type 0) → A → List ℕ → Type 0
Or R Q a u = R a u ⊎ Q a u

-- where R prints something and what follows is as F asks, the test comes to b
abbrev pub Settles : {A : Type 0} → (A → List ℕ → Type 0) → (List ℕ → ℕ → Type 0) → (List ℕ → ℕ → Bool) → Bool → Type 0
Settles {A} R F test b = (a : A) (u s : List ℕ) (p : ℕ) → R a u → Stands s p u → F s (p + length u) → test s p ≡ b

module _ {A : Type 0} {R Q : A → List ℕ → Type 0} {F : List ℕ → ℕ → Type 0} (test : List ℕ → ℕ → Bool) {m k : Reader A} where
  pub before_choice :
      ReadsBefore m R F → ReadsBefore k Q F → Settles R F test true → Settles Q F test false
      → ReadsBefore (λ s p. choose (test s p) m k s p) (Or R Q) F
  unfolding choose
  before_choice r q here other = record { only = λ s p a e. only s p a e (test s p); back = back }
    where
      only : (s : List ℕ) (p : ℕ) (a : A) (e : ℕ) (b : Bool) → choose b m k s p ≡ got a e → Bears (Or R Q) s p a e
      only s p a e true d = bears_as (λ u x. inl x) (r.only s p a e d)
      only s p a e false d = bears_as (λ u x. inr x) (q.only s p a e d)

      back : (s : List ℕ) (p : ℕ) (a : A) (u : List ℕ) → Or R Q a u → Stands s p u → F s (p + length u)
          → choose (test s p) m k s p ≡ got a (p + length u)
      back s p a u (inl x) st d =
          ap (λ (y : Reader A). y s p) (choose_true (test s p) m k (here a u s p x st d)) ∙ r.back s p a u x st d
      back s p a u (inr x) st d =
          ap (λ (y : Reader A). y s p) (choose_false (test s p) m k (other a u s p x st d)) ∙ q.back s p a u x st d
