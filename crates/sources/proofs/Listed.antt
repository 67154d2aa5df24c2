-- Some parts with commas between them (`fields` of `Fields.antt` and `members` of `Sets.antt` of `fields`, `separated` of
-- `specs/Printed.antt`): what is read is what is printed. One law over the parts and what they make. Assumes nothing.
use Prim.Native.Nat.{ℕ, zero, suc, ◌+◌, ◌<◌, ◌≤◌}
use mathlib.Core.Path.{◌≡◌, refl, sym, ap, ◌∙◌}
use mathlib.Core.Logic.{inl, inr}
use mathlib.Core.Bool.{false}
use mathlib.Core.List.{List, [], ◌∷◌, ◌++◌, append-nil, append_assoc, map}
use native.Mathlib.Omega.{arith}
use lib.ListN.{length, get_or, length-append}
use Rattle.net.specs.Choice.{choose}
use Rattle.readers.specs.Reader.{Parsed, got, fault, Reader, pure, and_then, ◌>>=◌}
use Rattle.lexemes.specs.Lexemes.{is_digit, fail, optional}
use Rattle.fields.specs.Fields.{fields}
use Rattle.sources.specs.Printed.{separated}
use Rattle.sources.specs.WellFormed.{Each, none, more}
use Rattle.sources.proofs.ReadsPrints.{Reads, Is, After, Or, Then, reads_as, reads_equal, reads_pure, reads_fail, reads_then, reads_optional}
use Rattle.sources.proofs.Numbers.{low_byte, NoDigit}

-- behind the last field stands neither a digit nor a comma
pub record FieldEnd (d : ℕ) : Type 0 where
  pub no_digit : is_digit d ≡ false
  pub no_comma : d ≡ 44 → ⊥

separated_more : (x : List ℕ) (ys : List (List ℕ)) → 1 ≤ length ys → separated (x ∷ ys) ≡ x ++ (44 ∷ separated ys)
unfolding separated
separated_more x [] h = absurd (omega arith)
separated_more x (y ∷ ys) h = refl

-- a value made of one that was read, and a reader behind it
regroup :
    {A B C : Type 0} (k : Reader B) (m : Reader A) (h : A → B) (g : B → Reader C) (s : List ℕ) (p : ℕ)
    → k s p ≡ (m >>= (λ a. pure (h a))) s p → (k >>= g) s p ≡ (m >>= (λ a. g (h a))) s p
unfolding ◌>>=◌ and_then pure
regroup {A} {B} k m h g s p e = ap (λ o. and_then o s g) e ∙ go (m s p)
  where
    go : (o : Parsed A) → and_then (and_then o s (λ a. pure (h a))) s g ≡ and_then o s (λ a. g (h a))
    go (got a q) = refl
    go (fault n) = refl

-- parts xs, at most `top` of them, make a value; R says what is asked of a part behind those before it, and text what is printed
-- for it
module _ {X A : Type 0} (top : ℕ) (make : List X → A) (text : X → List ℕ) (R : List X → X → Type 0) where
  -- the parts that follow xs, and what becomes of them all
  pub record Parts (xs : List X) (b : A) (u : List ℕ) : Type 0 where
    pub ys : List X
    pub each : Each R xs ys
    pub some : 1 ≤ length ys
    pub few : length xs + length ys ≤ top
    pub is : make (xs ++ ys) ≡ b
    pub prints : separated (map text ys) ≡ u

  one_more_law : (xs : List X) (x : X) (ys : List X) → (xs ++ (x ∷ [])) ++ ys ≡ xs ++ (x ∷ ys)
  one_more_law xs x ys = append_assoc xs (x ∷ []) ys

  abbrev Rest : List X → X → A → List ℕ → Type 0
  Rest xs x = Or (After (44 ∷ []) (Parts (xs ++ (x ∷ [])))) (Is (make (xs ++ (x ∷ []))))

  parts_to : (xs : List X) (b : A) (t : List ℕ) → length xs < top → Then (λ x u. R xs x × (text x ≡ u)) (Rest xs) b t → Parts xs b t
  unfolding separated
  parts_to xs b t h x = go x.goes_on
    where
      go : Rest xs x.one b x.rest → Parts xs b t
      go (inl (w, f, e)) =
          let l = length-append xs (x.one ∷ []) in
          let few = f.few in
          let some = f.some in record {
            ys = x.one ∷ f.ys;
            each = more x.prints.0 f.each;
            some = omega arith;
            few = omega arith;
            is = ap make (sym (one_more_law xs x.one f.ys)) ∙ f.is;
            prints =
                separated_more (text x.one) (map text f.ys) (mapped f.ys some)
                ∙ ap (λ (v : List ℕ). text x.one ++ (44 ∷ v)) f.prints
                ∙ ap (λ (v : List ℕ). text x.one ++ v) e
                ∙ ap (λ (v : List ℕ). v ++ x.rest) x.prints.1
                ∙ x.is;
          }
        where
          mapped : (zs : List X) → 1 ≤ length zs → 1 ≤ length (map text zs)
          mapped [] k = absurd (omega arith)
          mapped (z ∷ zs) k = omega arith
      go (inr (e, f)) = record {
        ys = x.one ∷ [];
        each = more x.prints.0 none;
        some = omega arith;
        few = omega arith;
        is = e;
        prints =
            sym (append-nil (text x.one)) ∙ ap (λ (v : List ℕ). text x.one ++ v) f
            ∙ ap (λ (v : List ℕ). v ++ x.rest) x.prints.1 ∙ x.is;
      }

  pub parts_from : (xs : List X) (b : A) (t : List ℕ) → Parts xs b t → Then (λ x u. R xs x × (text x ≡ u)) (Rest xs) b t
  unfolding separated
  parts_from xs b t f = go f.ys f.each f.some f.few f.is f.prints
    where
      go : (ys : List X) → Each R xs ys → 1 ≤ length ys → length xs + length ys ≤ top → make (xs ++ ys) ≡ b
          → separated (map text ys) ≡ t → Then (λ x u. R xs x × (text x ≡ u)) (Rest xs) b t
      go [] e some few is prints = absurd (omega arith)
      go (x ∷ []) (more h e) some few is prints = record {
        one = x;
        text = text x;
        rest = [];
        prints = (h, refl);
        goes_on = inr (is, refl);
        is = append-nil (text x) ∙ prints;
      }
      go (x ∷ y ∷ ys) (more h e) some few is prints = record {
        one = x;
        text = text x;
        rest = 44 ∷ separated (map text (y ∷ ys));
        prints = (h, refl);
        goes_on = inl (
          separated (map text (y ∷ ys)),
          record {
            ys = y ∷ ys;
            each = e;
            some = omega arith;
            few = let l = length-append xs (x ∷ []) in omega arith;
            is = ap make (one_more_law xs x (y ∷ ys)) ∙ is;
            prints = refl;
          },
          refl,
        );
        is = sym (separated_more (text x) (map text (y ∷ ys)) (omega arith)) ∙ prints;
      }

  module _ (m : List X → Reader X) (read : ℕ → List X → Reader A) (fault : ℕ)
      (reads : (xs : List X) → length xs < top → Reads (m xs) (λ x u. R xs x × (text x ≡ u)) NoDigit)
      (at-end : (xs : List X) (s : List ℕ) (p : ℕ) → read 0 xs s p ≡ fail fault s p)
      (turn : (k : ℕ) (xs : List X) (s : List ℕ) (p : ℕ) → length xs < top
      → read (suc k) xs s p ≡ (m xs >>= (λ x. optional 44 >>= (λ more. choose more (read k (xs ++ (x ∷ []))) (pure (make (xs ++ (x ∷ []))))))) s p) where
    pub reads_list : (k : ℕ) (xs : List X) → k + length xs ≡ top → Reads (read k xs) (Parts xs) FieldEnd
    unfolding choose
    reads_list zero xs e =
        reads_as (reads_equal _ (at-end xs) (reads_fail fault)) (λ a u x. absurd x)
        (λ a u x. let few = x.few in let some = x.some in absurd (omega arith)) (λ d x. x)
    reads_list (suc k) xs e =
        reads_as
        (reads_equal _ (λ s p. turn k xs s p (omega arith))
        (reads_then (reads xs (omega arith))
        (λ x u h.
        reads_optional 44 (λ more. choose more (read k (xs ++ (x ∷ []))) (pure (make (xs ++ (x ∷ [])))))
        (reads_list k (xs ++ (x ∷ [])) (let l = length-append xs (x ∷ []) in omega arith)) (reads_pure (make (xs ++ (x ∷ []))))
        (λ a v d y f g. f.no_comma (ap (λ (w : List ℕ). get_or w 0 d) y.1 ∙ g)))
        (λ x b u v d h y f. opens x b v d y f)))
        (λ b t x. parts_to xs b t (omega arith) x) (λ b t x. parts_from xs b t x) (λ d x. x)
      where
        opens : (x : X) (b : A) (v : List ℕ) (d : ℕ) → Rest xs x b v → FieldEnd d → NoDigit (get_or v 0 d)
        opens x b v d (inl y) f = ap (λ (w : List ℕ). is_digit (get_or w 0 d)) (sym y.2) ∙ (low_byte 44 (omega arith))
        opens x b v d (inr y) f = ap (λ (w : List ℕ). is_digit (get_or w 0 d)) (sym y.1) ∙ f.no_digit

-- ---- one to four fields, each added to what those before it make
module _ {X A : Type 0} (make : List X → A) (text : X → List ℕ) (R : List X → X → Type 0) (field : A → Reader A) (m : List X → Reader X)
    (step : (xs : List X) → length xs < 4 → (s : List ℕ) (p : ℕ) → field (make xs) s p ≡ (m xs >>= (λ x. pure (make (xs ++ (x ∷ []))))) s p)
    (reads : (xs : List X) → length xs < 4 → Reads (m xs) (λ x u. R xs x × (text x ≡ u)) NoDigit) where
  pub reads_fields : Reads (fields 4 field (make [])) (Parts 4 make text R []) FieldEnd
  unfolding fields
  reads_fields =
      reads_list 4 make text R m (λ k xs. fields k field (make xs)) 22 reads (λ xs s p. refl)
      (λ k xs s p h. regroup (field (make xs)) (m xs) (λ x. make (xs ++ (x ∷ []))) _ s p (step xs h s p)) 4 [] refl
