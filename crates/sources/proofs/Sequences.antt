-- Values that are read one after another, each with its number, as rows and the rows of nodes are: up to what a test tells to
-- be none of them, or a number of them that is given. One law for each, over what is printed. Assumes nothing.
use Prim.Native.Nat.{ℕ, zero, suc, ◌+◌, ◌<◌, ◌≤◌}
use mathlib.Core.Path.{◌≡◌, refl, sym, ap, subst, ◌∙◌}
use mathlib.Core.Logic.{inl, inr}
use mathlib.Core.Bool.{Bool, true, false}
use mathlib.Core.List.{List, [], ◌∷◌, ◌++◌, append-nil, append_assoc}
use native.Mathlib.Omega.{arith}
use lib.ListN.{length, length-append}
use Rattle.net.specs.Choice.{choose}
use Rattle.readers.specs.Reader.{Reader, pure, ◌>>=◌}
use Rattle.lexemes.specs.Lexemes.{fail}
use Rattle.sources.specs.WellFormed.{Each, none, more}
use Rattle.sources.proofs.Stands.{Stands}
use Rattle.sources.proofs.ReadsBefore.{ReadsBefore, Is, Then, Or, still, before_as, before_equal, before_pure, before_fail, before_then, before_choice}

-- whatever follows
abbrev pub Anything : List ℕ → ℕ → Type 0
Anything s q = Unit {0}

-- what a whole sequence prints, over what each value prints with its number
pub record Sequence {X : Type 0} (text : ℕ → X → List ℕ) (texts : ℕ → List X → List ℕ) : Type 0 where
  pub empty : (i : ℕ) → [] ≡ texts i []
  pub first : (i : ℕ) (x : X) (xs : List X) → text i x ++ texts (suc i) xs ≡ texts i (x ∷ xs)

-- the values that follow those of `before`, as many as Size tells, and all of them
pub record Later {X : Type 0} (R : List X → X → Type 0) (texts : ℕ → List X → List ℕ) (Size : ℕ → Type 0) (before xs : List X) (u : List ℕ) : Type 0 where
  pub later : List X
  pub each : Each R before later
  pub size : Size (length later)
  pub is : before ++ later ≡ xs
  pub prints : texts (length before) later ≡ u

-- one value, behind those before it
abbrev pub One : {X : Type 0} → (List X → X → Type 0) → (ℕ → X → List ℕ) → List X → X → List ℕ → Type 0
One R text before x u = R before x × (text (length before) x ≡ u)

-- one value and those behind it
abbrev pub Next :
    {X : Type 0} → (List X → X → Type 0) → (ℕ → X → List ℕ) → (ℕ → List X → List ℕ) → (ℕ → Type 0) → List X → List X → List ℕ → Type 0
Next R text texts Size before = Then (One R text before) (λ x. Later R texts Size (before ++ (x ∷ [])))

module _ {X : Type 0} {text : ℕ → X → List ℕ} {texts : ℕ → List X → List ℕ} (sequence : Sequence text texts) (R : List X → X → Type 0) where
  next_number : (before : List X) (x : X) → length (before ++ (x ∷ [])) ≡ suc (length before)
  next_number before x = length-append before (x ∷ []) ∙ omega arith

  module _ (Size Size' : ℕ → Type 0) where
    pub next_to : ((l : ℕ) → Size l → Size' (suc l)) → (before xs : List X) (u : List ℕ) → Next R text texts Size before xs u
        → Later R texts Size' before xs u
    next_to up before xs u x =
        let y = x.goes_on in record {
          later = x.one ∷ y.later;
          each = more x.prints.0 y.each;
          size = up _ y.size;
          is = sym (append_assoc before (x.one ∷ []) y.later) ∙ y.is;
          prints =
              sym (sequence.first (length before) x.one y.later)
              ∙ ap (λ (w : List ℕ). w ++ texts (suc (length before)) y.later) x.prints.1
              ∙ ap (λ (i : ℕ). x.text ++ texts i y.later) (sym (next_number before x.one))
              ∙ ap (λ (w : List ℕ). x.text ++ w) y.prints
              ∙ x.is;
        }

    none_to : Size' 0 → (before xs : List X) (u : List ℕ) → Is before xs u → Later R texts Size' before xs u
    none_to zero-size before xs u (is, e) = record {
      later = [];
      each = none;
      size = zero-size;
      is = append-nil before ∙ is;
      prints = sym (sequence.empty (length before)) ∙ e;
    }

    -- a value and those behind it, or none
    pub next_from :
        ((l : ℕ) → Size' (suc l) → Size l) → (before xs : List X) (u : List ℕ) → Later R texts Size' before xs u
        → Or (Next R text texts Size before) (λ a v. Size' 0 × Is before a v) xs u
    next_from down before xs u x = go x.later x.each x.size x.is x.prints
      where
        go : (later : List X) → Each R before later → Size' (length later) → before ++ later ≡ xs → texts (length before) later ≡ u
            → Or (Next R text texts Size before) (λ a v. Size' 0 × Is before a v) xs u
        go [] e n is d = inr (n, (sym (append-nil before) ∙ is, sequence.empty (length before) ∙ d))
        go (y ∷ ys) (more h e) n is d = inl (record {
          one = y;
          text = text (length before) y;
          rest = texts (suc (length before)) ys;
          prints = (h, refl);
          goes_on = record {
            later = ys;
            each = e;
            size = down _ n;
            is = append_assoc before (y ∷ []) ys ∙ is;
            prints = ap (λ (i : ℕ). texts i ys) (next_number before y);
          };
          is = sequence.first (length before) y ys ∙ d;
        })

  -- ---- up to what is none of them, at most k: one beyond is a fault
  module _ (top : ℕ) (test : List ℕ → ℕ → Bool) (one : List X → Reader X) (read : ℕ → List X → Reader (List X)) (fault : ℕ)
      (reads_one : (before : List X) → length before < top → ReadsBefore (one before) (One R text before) Anything)
      (here : (before : List X) (x : X) (v s : List ℕ) (p : ℕ) → length before < top → R before x → Stands s p (text (length before) x ++ v) → test s p ≡ true)
      (at-end : (before : List X) (s : List ℕ) (p : ℕ) → read 0 before s p ≡ choose (test s p) (fail fault) (pure before) s p)
      (turn : (k : ℕ) (before : List X) (s : List ℕ) (p : ℕ)
      → read (suc k) before s p ≡ choose (test s p) (one before >>= (λ x. read k (before ++ (x ∷ [])))) (pure before) s p) where
    pub reads_up_to : (k : ℕ) (before : List X) → k + length before ≡ top
        → ReadsBefore (read k before) (Later R texts (λ l. l ≤ k) before) (λ s q. test s q ≡ false)
    reads_up_to zero before h =
        before_as
        (before_equal _ (at-end before)
        (before_choice test (before_fail fault) (before_pure before) (λ a u s p x. absurd x)
        (λ a u s p x st n. still (λ t q. test t q ≡ false) u s p x.1 n)))
        to from (λ s q e. e)
      where
        to : (xs : List X) (u : List ℕ) → Or (λ a v. ⊥) (Is before) xs u → Later R texts (λ l. l ≤ 0) before xs u
        to xs u (inl x) = absurd x
        to xs u (inr x) = none_to (λ l. ⊥) (λ l. l ≤ 0) (omega arith) before xs u x

        from : (xs : List X) (u : List ℕ) → Later R texts (λ l. l ≤ 0) before xs u → Or (λ a v. ⊥) (Is before) xs u
        from xs u x = go (next_from (λ l. ⊥) (λ l. l ≤ 0) (λ l g. omega arith) before xs u x)
          where
            go : Or (Next R text texts (λ l. ⊥) before) (λ a v. (0 ≤ 0) × Is before a v) xs u → Or (λ a v. ⊥) (Is before) xs u
            go (inl y) = inl y.goes_on.size
            go (inr y) = inr y.1
    reads_up_to (suc k) before h =
        before_as
        (before_equal _ (turn k before)
        (before_choice test
        (before_then (reads_one before (omega arith))
        (λ x u g. reads_up_to k (before ++ (x ∷ [])) (let l = length-append before (x ∷ []) in omega arith)) (λ x xs u v s q g i st e. tt))
        (before_pure before)
        (λ xs u s p x st n.
        here before x.one x.rest s p (omega arith) x.prints.0
        (subst (Stands s p) (sym (ap (λ (w : List ℕ). w ++ x.rest) x.prints.1 ∙ x.is)) st))
        (λ a u s p x st n. still (λ t q. test t q ≡ false) u s p x.1 n)))
        to from (λ s q e. e)
      where
        to : (xs : List X) (u : List ℕ) → Or (Next R text texts (λ l. l ≤ k) before) (Is before) xs u → Later R texts (λ l. l ≤ suc k) before xs u
        to xs u (inl x) = next_to (λ l. l ≤ k) (λ l. l ≤ suc k) (λ l g. omega arith) before xs u x
        to xs u (inr x) = none_to (λ l. l ≤ k) (λ l. l ≤ suc k) (omega arith) before xs u x

        from : (xs : List X) (u : List ℕ) → Later R texts (λ l. l ≤ suc k) before xs u → Or (Next R text texts (λ l. l ≤ k) before) (Is before) xs u
        from xs u x = go (next_from (λ l. l ≤ k) (λ l. l ≤ suc k) (λ l g. omega arith) before xs u x)
          where
            go : Or (Next R text texts (λ l. l ≤ k) before) (λ a v. (0 ≤ suc k) × Is before a v) xs u
                → Or (Next R text texts (λ l. l ≤ k) before) (Is before) xs u
            go (inl y) = inl y
            go (inr y) = inr y.1

  -- ---- k of them
  -- F is asked of what follows the last one, G of what follows the one of number i
  module _ (top : ℕ) (one : List X → Reader X) (read : ℕ → List X → Reader (List X)) (F : List ℕ → ℕ → Type 0) (G : ℕ → List ℕ → ℕ → Type 0)
      (reads_one : (before : List X) → length before < top → ReadsBefore (one before) (One R text before) (G (length before)))
      (last : (i : ℕ) (s : List ℕ) (q : ℕ) → F s q → G i s q)
      (follows : (before : List X) (x : X) (v s : List ℕ) (i q : ℕ) → length before < top → length before ≡ suc i → R before x
      → Stands s q (text (length before) x ++ v) → G i s q)
      (at-end : (before : List X) (s : List ℕ) (p : ℕ) → read 0 before s p ≡ pure before s p)
      (turn : (k : ℕ) (before : List X) (s : List ℕ) (p : ℕ) → read (suc k) before s p ≡ (one before >>= (λ x. read k (before ++ (x ∷ [])))) s p) where
    -- what the values behind number i open with, or what follows where there are none
    pub exactly_opens :
        (k i : ℕ) (before xs : List X) (v s : List ℕ) (q : ℕ) → k + length before ≡ top → length before ≡ suc i
        → Later R texts (λ l. l ≡ k) before xs v → Stands s q v
        → F s (q + length v) → G i s q
    exactly_opens k i before xs v s q h m y st e = go (next_from (λ l. suc l ≡ k) (λ l. l ≡ k) (λ l g. g) before xs v y)
      where
        go : Or (Next R text texts (λ l. suc l ≡ k) before) (λ a w. (0 ≡ k) × Is before a w) xs v → G i s q
        go (inl z) =
            let n = z.goes_on.size in
            follows before z.one z.rest s i q (omega arith) m z.prints.0
            (subst (Stands s q) (sym (ap (λ (w : List ℕ). w ++ z.rest) z.prints.1 ∙ z.is)) st)
        go (inr (n, (is, d))) = last i s q (still F v s q d e)

    pub reads_exactly : (k : ℕ) (before : List X) → k + length before ≡ top → ReadsBefore (read k before) (Later R texts (λ l. l ≡ k) before) F
    reads_exactly zero before h =
        before_as (before_equal _ (at-end before) (before_pure before))
        (λ xs u x. none_to (λ l. ⊥) (λ l. l ≡ 0) refl before xs u x) (λ xs u x. from xs u x) (λ s q e. e)
      where
        from : (xs : List X) (u : List ℕ) → Later R texts (λ l. l ≡ 0) before xs u → Is before xs u
        from xs u x = go (next_from (λ l. ⊥) (λ l. l ≡ 0) (λ l g. omega arith) before xs u x)
          where
            go : Or (Next R text texts (λ l. ⊥) before) (λ a v. (zero ≡ zero) × Is before a v) xs u → Is before xs u
            go (inl y) = absurd y.goes_on.size
            go (inr y) = y.1
    reads_exactly (suc k) before h =
        before_as
        (before_equal _ (turn k before)
        (before_then (reads_one before (omega arith))
        (λ x u g. reads_exactly k (before ++ (x ∷ [])) (let l = length-append before (x ∷ []) in omega arith))
        (λ x xs u v s q g y st e.
        let m = next_number before x in exactly_opens k (length before) (before ++ (x ∷ [])) xs v s q (omega arith) m y st e)))
        (λ xs u x. next_to (λ l. l ≡ k) (λ l. l ≡ suc k) (λ l g. omega arith) before xs u x) (λ xs u x. from xs u x) (λ s q e. e)
      where
        from : (xs : List X) (u : List ℕ) → Later R texts (λ l. l ≡ suc k) before xs u → Next R text texts (λ l. l ≡ k) before xs u
        from xs u x = go (next_from (λ l. l ≡ k) (λ l. l ≡ suc k) (λ l g. omega arith) before xs u x)
          where
            go : Or (Next R text texts (λ l. l ≡ k) before) (λ a v. (0 ≡ suc k) × Is before a v) xs u → Next R text texts (λ l. l ≡ k) before xs u
            go (inl y) = y
            go (inr y) = absurd (omega arith)
