-- Readers and printings where one byte ahead tells what follows, as that no digit goes on with a number: one law for each
-- way to make a reader, over the logic of `ReadsBefore.antt`. Assumes nothing.
pub use Rattle.sources.proofs.ReadsBefore.{Bears, bears_as, Is, Then, Image, Or}
use Rattle.sources.proofs.ReadsBefore.{ReadsBefore, before_as, before_equal, before_pure, before_fail, before_then}
use Rattle.sources.proofs.ReadsBefore.{before_map, before_require, before_choice}
use Prim.Native.Nat.{ℕ, ◌+◌}
use mathlib.Core.Path.{◌≡◌, refl, sym, ap, subst, ◌∙◌}
use mathlib.Core.Bool.{Bool, true, false}
use mathlib.Core.List.{List, [], ◌∷◌, ◌++◌, append-nil}
use native.Mathlib.Omega.{arith}
use lib.ListN.{length, get_or}
use lib.Dec.{eqb, ltb}
use borrow.Author.Tests.{ltb-true, lt-ltb, eqb-true, eq-eqb, ne_eqb}
use Rattle.net.specs.Choice.{choose, both}
use Rattle.net.proofs.Laws.{both_i, both_l, both_r, choose_true}
use Rattle.readers.specs.Reader.{Parsed, got, fault, Reader, pure, and_then, ◌>>=◌, ◌>>◌, require}
use Rattle.readers.proofs.ReaderLaws.{choose_got}
use Rattle.lexemes.specs.Lexemes.{byte_at, look, fail, byte, word, present, optional}
use Rattle.sources.proofs.Stands.{Stands, stands_one, stands_opens}

-- m gives exactly the values that R prints, where their bytes stand and the byte behind them is as E asks
pub record Reads {A : Type 0} (m : Reader A) (R : A → List ℕ → Type 0) (E : ℕ → Type 0) : Type 0 where
  pub only : (s : List ℕ) (p : ℕ) (a : A) (q : ℕ) → m s p ≡ got a q → Bears R s p a q
  pub back :
      (s : List ℕ) (p : ℕ) (a : A) (u : List ℕ) → R a u → Stands s p u → E (byte_at s (p + length u))
      → m s p ≡ got a (p + length u)

-- any byte may follow
abbrev pub Any : ℕ → Type 0
Any d = Unit {0}

module _ {A : Type 0} {R : A → List ℕ → Type 0} {m : Reader A} where
  -- what one byte ahead tells, as what the text behind tells
  pub before : {E : ℕ → Type 0} → Reads m R E → ReadsBefore m R (λ s q. E (byte_at s q))
  before r = record { only = r.only; back = r.back }

  pub by_byte : (E : ℕ → Type 0) → ReadsBefore m R (λ s q. E (byte_at s q)) → Reads m R E
  by_byte E r = record { only = r.only; back = r.back }

-- ---- the same reader, said in other words
module _ {A : Type 0} {R R' : A → List ℕ → Type 0} {E E' : ℕ → Type 0} {m : Reader A} where
  pub reads_as :
      Reads m R E → ((a : A) (u : List ℕ) → R a u → R' a u) → ((a : A) (u : List ℕ) → R' a u → R a u)
      → ((d : ℕ) → E' d → E d) → Reads m R' E'
  reads_as r f g e = by_byte E' (before_as (before r) f g (λ s q. e (byte_at s q)))

pub reads_equal :
    {A : Type 0} {R : A → List ℕ → Type 0} {E : ℕ → Type 0} {m : Reader A} (k : Reader A)
    → ((s : List ℕ) (p : ℕ) → k s p ≡ m s p) → Reads m R E → Reads k R E
reads_equal {E = E} k e r = by_byte E (before_equal k e (before r))

-- ---- a value, with nothing read
pub reads_pure : {A : Type 0} {E : ℕ → Type 0} (a : A) → Reads (pure a) (Is a) E
reads_pure {E = E} a = by_byte E (before_pure a)

-- ---- a fault
pub reads_fail : {A : Type 0} {E : ℕ → Type 0} (n : ℕ) → Reads {A = A} (fail n) (λ a u. ⊥) E
reads_fail {E = E} n = by_byte E (before_fail n)

-- ---- one reader after another
module _ {A B : Type 0} {R : A → List ℕ → Type 0} {Q : A → B → List ℕ → Type 0} {E F : ℕ → Type 0} {m : Reader A}
    {f : A → Reader B} where
  pub reads_then :
      Reads m R E → ((a : A) (u : List ℕ) → R a u → Reads (f a) (Q a) F)
      → ((a : A) (b : B) (u v : List ℕ) (d : ℕ) → R a u → Q a b v → F d → E (get_or v 0 d))
      → Reads (m >>= f) (Then R Q) F
  reads_then r g opens =
      by_byte F
      (before_then (before r) (λ a u x. before (g a u x))
      (λ a b u v s q x y st e. subst E (sym (stands_opens s q v st)) (opens a b u v _ x y e)))

-- R prints something that begins with a byte as X says, where what follows is as E asks
abbrev pub Opens : {A : Type 0} → (A → List ℕ → Type 0) → (ℕ → Type 0) → (ℕ → Type 0) → Type 0
Opens {A} R E X = (a : A) (u : List ℕ) (d : ℕ) → R a u → E d → X (get_or u 0 d)

-- ---- bytes and words
pub reads_byte : (c : ℕ) → Reads (byte c) (λ a u. c ∷ [] ≡ u) Any
unfolding byte
reads_byte c = record { only = only; back = back }
  where
    only : (s : List ℕ) (p : ℕ) (a : Unit {0}) (q : ℕ) → byte c s p ≡ got a q → Bears (λ a u. c ∷ [] ≡ u) s p a q
    only s p a q e =
        let g = choose_got (both (ltb p (length s)) (eqb (byte_at s p) c)) _ e in
        let at : p + 1 ≡ q = cc g.1 in
        record {
          text = c ∷ [];
          prints = refl;
          stands = stands_one s p c (ltb-true p (length s) (both_l _ _ g.0))
              (eqb-true (byte_at s p) c (both_r (ltb p (length s)) _ g.0));
          ends = omega arith;
        }

    back : (s : List ℕ) (p : ℕ) (a : Unit {0}) (u : List ℕ) → c ∷ [] ≡ u → Stands s p u → Any (byte_at s (p + length u))
        → byte c s p ≡ got a (p + length u)
    back s p a u e st d =
        let l : 1 ≡ length u = ap length e in
        let st' : Stands s p (c ∷ []) = subst (Stands s p) (sym e) st in
        let z : p + 0 ≡ p = omega arith in
        let w = st'.within 0 (omega arith) in
        let b : byte_at s p ≡ c = ap (byte_at s) (sym z) ∙ st'.each 0 (omega arith) in
        let at : p + 1 ≡ p + length u = omega arith in
        choose_true _ _ _ (both_i _ _ (lt-ltb p (length s) (omega arith)) (eq-eqb (byte_at s p) c b)) ∙ ap (got tt) at

-- a part, and what follows it
abbrev pub After : {B : Type 0} → List ℕ → (B → List ℕ → Type 0) → B → List ℕ → Type 0
After w R b t = (v : List ℕ) × R b v × (w ++ v ≡ t)

module _ {A B : Type 0} {R : B → List ℕ → Type 0} {D E : ℕ → Type 0} where
  -- a part of which only one text is printed, and a reader behind it
  pub reads_behind :
      (w : List ℕ) {m : Reader A} {f : Reader B} → A → Reads m (λ a u. w ≡ u) D → Reads f R E → Opens R E D → Reads (m >> f) (After w R) E
  unfolding ◌>>◌
  reads_behind w a r g opens =
      reads_as (reads_then r (λ a u e. g) (λ a b u v d e h x. opens b v d h x))
      (λ b t h. (h.rest, h.goes_on, ap (λ (u : List ℕ). u ++ h.rest) h.prints ∙ h.is))
      (λ b t h. record { one = a; text = w; rest = h.0; prints = refl; goes_on = h.1; is = h.2 }) (λ d e. e)

pub reads_word : (w : List ℕ) → Reads (word w) (λ a u. w ≡ u) Any
unfolding word
reads_word [] = reads_as (reads_pure tt) (λ a u h. h.1) (λ a u h. (refl, h)) (λ d e. e)
reads_word (c ∷ w) =
    reads_as (reads_behind (c ∷ []) tt (reads_byte c) (reads_word w) (λ a u d x e. tt))
    (λ a u h. ap (λ (v : List ℕ). c ∷ v) h.1 ∙ h.2) (λ a u h. (w, refl, h)) (λ d e. e)

module _ {B : Type 0} {f : Reader B} {R : B → List ℕ → Type 0} {E : ℕ → Type 0} where
  pub reads_from_byte : (c : ℕ) → Reads f R E → Reads (byte c >> f) (After (c ∷ []) R) E
  reads_from_byte c r = reads_behind (c ∷ []) tt (reads_byte c) r (λ b u d x e. tt)

  pub reads_from_word : (w : List ℕ) → Reads f R E → Reads (word w >> f) (After w R) E
  reads_from_word w r = reads_behind w tt (reads_word w) r (λ b u d x e. tt)

  -- a test that has to be passed
  pub reads_require : (ok : Bool) (n : ℕ) → Reads f R E → Reads (require ok n >> f) (λ b u. (ok ≡ true) × R b u) E
  reads_require ok n r = by_byte E (before_require ok n (before r))

-- ---- a value made of the one that was read
module _ {A B : Type 0} {m : Reader A} {R : A → List ℕ → Type 0} {E : ℕ → Type 0} where
  pub reads_map : (h : A → B) → Reads m R E → Reads (m >>= (λ a. pure (h a))) (Image h R) E
  reads_map h r = by_byte E (before_map h (before r))

  -- a value that is tested once it is read
  pub reads_tested :
      (test : A → Bool) (n : ℕ) (h : A → B) → Reads m R E
      → Reads (m >>= (λ a. require (test a) n >> pure (h a))) (Image h (λ a u. R a u × (test a ≡ true))) E
  reads_tested test n h r =
      reads_as
      (reads_then r (λ a u x. reads_require (test a) n (reads_pure (h a)))
      (λ a b u v d x y e. subst (λ (w : List ℕ). E (get_or w 0 d)) y.1.1 e))
      (λ b t x.
      let e : x.text ++ [] ≡ t = ap (λ (v : List ℕ). x.text ++ v) x.goes_on.1.1 ∙ x.is in
      (x.one, (subst (R x.one) (sym (append-nil x.text) ∙ e) x.prints, x.goes_on.0), x.goes_on.1.0))
      (λ b t x. record {
        one = x.0;
        text = t;
        rest = [];
        prints = x.1.0;
        goes_on = (x.1.1, (x.2, refl));
        is = append-nil t;
      })
      (λ d e. e)

  -- a value, and a byte that closes it
  pub reads_closed :
      (c : ℕ) (h : A → B) → Reads m R E → E c
      → Reads (m >>= (λ a. byte c >> pure (h a))) (Image h (λ a t. (u : List ℕ) × R a u × (u ++ (c ∷ []) ≡ t))) Any
  reads_closed c h r ends =
      reads_as
      (reads_then r (λ a u x. reads_from_byte {E = Any} c (reads_pure (h a)))
      (λ a b u v d x y e. subst (λ (w : List ℕ). E (get_or w 0 d)) y.2 ends))
      (λ b t x.
      let (v, (e, f), g) = x.goes_on in
      (x.one, (x.text, x.prints, ap (λ (w : List ℕ). x.text ++ (c ∷ w)) f ∙ ap (λ (w : List ℕ). x.text ++ w) g ∙ x.is), e))
      (λ b t x. record {
        one = x.0;
        text = x.1.0;
        rest = c ∷ [];
        prints = x.1.1;
        goes_on = ([], (x.2, refl), refl);
        is = x.1.2;
      })
      (λ d e. e)

-- ---- a choice by the byte here

-- what a text opens with
pub opens_with_law : (w u : List ℕ) (d : ℕ) → w ≡ u → get_or u 0 d ≡ get_or w 0 d
opens_with_law w u d e = ap (λ (v : List ℕ). get_or v 0 d) (sym e)

pub opens_append : (u v : List ℕ) (d : ℕ) → get_or (u ++ v) 0 d ≡ get_or u 0 (get_or v 0 d)
opens_append [] v d = refl
opens_append (c ∷ u) v d = refl

-- readers that the byte here decides on
pub record Looks {A : Type 0} (f : ℕ → Reader A) (R : A → List ℕ → Type 0) (E : ℕ → Type 0) : Type 0 where
  pub looked : Reads (look f) R E

module _ {A : Type 0} {R Q : A → List ℕ → Type 0} {E : ℕ → Type 0} where
  pub reads_either :
      (test : ℕ → Bool) {m : Reader A} {rest : ℕ → Reader A} → Reads m R E → Looks rest Q E
      → Opens R E (λ b. test b ≡ true) → Opens Q E (λ b. test b ≡ false)
      → Looks (λ b. choose (test b) m (rest b)) (Or R Q) E
  unfolding look choose
  reads_either test {m} {rest} r q here other = record {
    looked =
        reads_equal _ (λ s p. chosen s p (test (byte_at s p)))
        (by_byte E
        (before_choice (λ s p. test (byte_at s p)) (before r) (before q.looked)
        (λ a u s p x st d. subst (λ (b : ℕ). test b ≡ true) (sym (stands_opens s p u st)) (here a u _ x d))
        (λ a u s p x st d. subst (λ (b : ℕ). test b ≡ false) (sym (stands_opens s p u st)) (other a u _ x d))));
  }
    where
      chosen : (s : List ℕ) (p : ℕ) (b : Bool) → choose b m (rest (byte_at s p)) s p ≡ choose b m (look rest) s p
      chosen s p true = refl
      chosen s p false = refl

  -- by the byte c, or any other
  pub reads_choice :
      (c : ℕ) {m : Reader A} {rest : ℕ → Reader A} → Reads m R E → Looks rest Q E
      → Opens R E (λ b. b ≡ c) → Opens Q E (λ b. b ≡ c → ⊥)
      → Looks (λ b. choose (eqb b c) m (rest b)) (Or R Q) E
  reads_choice c r q here other =
      reads_either (λ b. eqb b c) r q (λ a u d x e. eq-eqb _ c (here a u d x e)) (λ a u d x e. ne_eqb _ c (other a u d x e))

-- whatever the byte
pub reads_last : {A : Type 0} {R : A → List ℕ → Type 0} {E : ℕ → Type 0} {m : Reader A} → Reads m R E → Looks (λ b. m) R E
unfolding look
reads_last r = record { looked = reads_equal _ (λ s p. refl) r }

-- a byte that may stand here
module _ {A : Type 0} (c : ℕ) (f : Bool → Reader A) where
  present_then : (s : List ℕ) (p : ℕ) → (present c >>= f) s p ≡ (byte c >> f true) s p
  unfolding present ◌>>◌ ◌>>=◌ pure and_then
  present_then s p = go (byte c s p)
    where
      go : (o : Parsed (Unit {0})) → and_then (and_then o s (λ a. pure true)) s f ≡ and_then o s (λ a. f true)
      go (got a q) = refl
      go (fault n) = refl

  optional_then :
      (s : List ℕ) (p : ℕ) (t : Bool)
      → and_then (choose t (present c) (pure false) s p) s f ≡ choose t (byte c >> f true) (f false) s p
  unfolding choose pure and_then ◌>>=◌
  optional_then s p true = present_then s p
  optional_then s p false = refl

  optional_is : (s : List ℕ) (p : ℕ) → (optional c >>= f) s p ≡ look (λ b. choose (eqb b c) (byte c >> f true) (f false)) s p
  unfolding optional look ◌>>=◌
  optional_is s p = optional_then s p (eqb (byte_at s p) c)

  pub reads_optional :
      {R Q : A → List ℕ → Type 0} {E : ℕ → Type 0} → Reads (f true) R E → Reads (f false) Q E → Opens Q E (λ b. b ≡ c → ⊥)
      → Reads (optional c >>= f) (Or (After (c ∷ []) R) Q) E
  reads_optional r q other =
      reads_equal _ optional_is
      (reads_choice c (reads_from_byte c r) (reads_last q)
      (λ a u d x e. ap (λ (w : List ℕ). get_or w 0 d) (sym x.2)) other).looked
