-- One row, with its newline (`row` of `Rows.antt` and `origin_row` of `OriginRows.antt` of `rows`): what is read is what is
-- printed. Assumes nothing.
use Prim.Native.Nat.{ℕ, ◌+◌, ◌≤◌}
use mathlib.Core.Path.{◌≡◌, refl, sym, ap, subst, ◌∙◌}
use mathlib.Core.Logic.{◌⊎◌, inl, inr}
use mathlib.Core.Bool.{Bool, true, false}
use mathlib.Core.List.{List, [], ◌∷◌, ◌++◌, append-nil, append_assoc}
use native.Mathlib.Omega.{arith}
use lib.ListN.{length, get_or, length-replicate, get_or-replicate, drop_of_length-le}
use lib.Seq.{sets, sets-eq}
use lib.Dec.{eqb}
use borrow.Author.Tests.{eqb-true, eq-eqb}
use Rattle.net.specs.Choice.{choose}
use Rattle.net.specs.Records.{no_rights, zero_row}
use Rattle.net.proofs.Past.{past_rights}
use Rattle.readers.specs.Reader.{Parsed, got, fault, Reader, pure, and_then, ◌>>=◌, ◌>>◌, require_in, require}
use Rattle.text.specs.Bytes.{bytes}
use Rattle.text.specs.Decimal.{decimal}
use Rattle.lexemes.specs.Lexemes.{is_digit, byte, word, number}
use Rattle.rows.specs.Rows.{stands_at, grants, creates, opening, row_rest, row}
use Rattle.rows.specs.OriginRows.{numbered, origin_row}
use Rattle.sources.specs.Types.{Rights, Row}
use Rattle.sources.specs.Printed.{newline, given, grants_text, row_rest_text, row_text, origin_row_text}
use Rattle.sources.proofs.Stands.{Stands, stands_first_law}
use Rattle.sources.proofs.ReadsBefore.{before_choice}
use Rattle.sources.proofs.ReadsPrints.{opens_with_law, Reads, Any, After, Or, Image, before, by_byte, reads_as, reads_equal, reads_then, reads_behind}
use Rattle.sources.proofs.ReadsPrints.{reads_word, reads_from_word, reads_require, reads_tested, reads_closed}
use Rattle.sources.proofs.Numbers.{low_byte, high_byte, NoDigit, reads_number, no_other}
use Rattle.sources.proofs.Fields.{then_same}
use Rattle.sources.proofs.Openings.{stands_word, stands_no_word, stands_agree}
use Rattle.sources.proofs.Grants.{Blank, GrantsText, GrantEnd, filled, grants_open, reads_grants}

-- ---- the number of the row's address, and ` has`
reads_opening : (i : ℕ) → i ≤ 15 → Reads (opening i) (λ a u. decimal i ++ bytes " has" ≡ u) Any
unfolding opening bytes
reads_opening i h =
    reads_as
    (reads_then (reads_number 15 (omega arith)) (λ l u x. reads_require (eqb l i) 31 (reads_word (bytes " has")))
    (λ l a u v d x y e. subst (λ (w : List ℕ). NoDigit (get_or w 0 d)) y.1 (low_byte 32 (omega arith))))
    (λ a t x.
    let is = eqb-true x.one i x.goes_on.0 in
    ap (λ (k : ℕ). decimal k ++ bytes " has") (sym is) ∙ ap (λ (w : List ℕ). w ++ bytes " has") x.prints.1
    ∙ ap (λ (w : List ℕ). x.text ++ w) x.goes_on.1 ∙ x.is)
    (λ a t e. record {
      one = i;
      text = decimal i;
      rest = bytes " has";
      prints = (h, refl);
      goes_on = (eq-eqb i i refl, refl);
      is = e;
    })
    (λ d e. e)

-- ---- a number that is given
required : (ok : Bool) (n : ℕ) (s : List ℕ) (p : ℕ) → require ok n s p ≡ (require ok n >> pure tt) s p
unfolding require require_in ◌>>◌ ◌>>=◌ and_then pure choose
required true n s p = refl
required false n s p = refl

reads_numbered : (i : ℕ) → i ≤ 15 → Reads (numbered i) (λ a u. decimal i ≡ u) NoDigit
unfolding numbered
reads_numbered i h =
    reads_as
    (reads_equal _ (λ s p. then_same (number 15) _ _ s p (λ v q. required (eqb v i) 31 s q))
    (reads_tested (λ v. eqb v i) 31 (λ v. tt) (reads_number 15 (omega arith))))
    (λ a u (v, ((l, e), t), is). ap decimal (sym (eqb-true v i t)) ∙ e)
    (λ a u e. (i, ((h, e), eq-eqb i i refl), refl)) (λ d e. e)

-- ---- ` n` where it is held, and what follows
module _ {A : Type 0} (f : Bool → Reader A) (R : Bool → A → List ℕ → Type 0)
    (r : (b : Bool) → Reads (f b) (R b) Any)
    (other : (a : A) (v : List ℕ) (s : List ℕ) (p : ℕ) → R false a v → Stands s p v → Stands s p (bytes " n") → ⊥) where
  abbrev Created : A → List ℕ → Type 0
  Created a t = (b : Bool) × (v : List ℕ) × R b a v × (given b (bytes " n") ++ v ≡ t)

  held_then : (s : List ℕ) (p : ℕ) → ((word (bytes " n") >> pure true) >>= f) s p ≡ (word (bytes " n") >> f true) s p
  unfolding ◌>>◌ ◌>>=◌ pure and_then
  held_then s p = go (word (bytes " n") s p)
    where
      go : (o : Parsed (Unit {0})) → and_then (and_then o s (λ a. pure true)) s f ≡ and_then o s (λ a. f true)
      go (got a q) = refl
      go (fault n) = refl

  creates_then : (s : List ℕ) (p : ℕ)
      → (creates >>= f) s p ≡ choose (stands_at (bytes " n") s p) (word (bytes " n") >> f true) (f false) s p
  unfolding creates ◌>>=◌ choose pure and_then
  creates_then s p = go (stands_at (bytes " n") s p)
    where
      go : (b : Bool) → and_then (choose b (word (bytes " n") >> pure true) (pure false) s p) s f ≡ choose b (word (bytes " n") >> f true) (f false) s p
      go true = held_then s p
      go false = refl

  created_to : (a : A) (u : List ℕ) → Or (After (bytes " n") (R true)) (R false) a u → Created a u
  unfolding given choose
  created_to a u (inl (v, x, e)) = (true, v, x, e)
  created_to a u (inr x) = (false, u, x, refl)

  created_from : (a : A) (u : List ℕ) → Created a u → Or (After (bytes " n") (R true)) (R false) a u
  unfolding given choose
  created_from a u (true, v, x, e) = inl (v, x, e)
  created_from a u (false, v, x, e) = inr (subst (R false a) e x)

  reads_creates : Reads (creates >>= f) Created Any
  reads_creates =
      reads_as
      (reads_equal _ creates_then
      (by_byte Any
      (before_choice (stands_at (bytes " n")) (before (reads_from_word (bytes " n") (r true))) (before (r false))
      (λ a u s p (v, x, e) st d. stands_word (bytes " n") s p (stands_first_law s p (bytes " n") v (subst (Stands s p) (sym e) st)))
      (λ a u s p x st d. stands_no_word (bytes " n") s p (other a u s p x st)))))
      created_to created_from (λ d e. e)

-- ---- what stands behind ` has`
blank_row : Blank 0 zero_row.rights
unfolding zero_row
blank_row = record {
  size_is = length-replicate 16 no_rights;
  none_at = λ l h g. get_or-replicate 16 l no_rights past_rights g;
}

line_end : GrantEnd 10
line_end = record {
  no_letter = record { no_take = λ e. omega arith; no_read = λ e. omega arith; no_put = λ e. omega arith; no_send = λ e. omega arith };
  no_space = λ e. omega arith;
}

-- the row that is filled
abbrev started : Bool → Row
started b = record { create = b; rights = zero_row.rights }

abbrev Granted : Bool → Row → List ℕ → Type 0
Granted b = Image (λ r. r) (λ r t. (u : List ℕ) × GrantsText 0 (started b) r u × (u ++ (10 ∷ []) ≡ t))

reads_granted : (b : Bool) → Reads (grants 16 0 (started b) >>= (λ r. byte 10 >> pure r)) (Granted b) Any
reads_granted b = reads_closed 10 (λ r. r) (reads_grants 16 0 (started b) (omega arith) (omega arith) blank_row) line_end

-- what follows ` has` where ` n` is not held does not open with ` n`
not_held : (r : Row) (v s : List ℕ) (p : ℕ) → Granted false r v → Stands s p v → Stands s p (bytes " n") → ⊥
unfolding bytes
not_held r v s p (r', (u, g, e), is) st sn = go (grants_open 0 g.later (let s = g.size in omega arith))
  where
    go : (grants_text 0 g.later ≡ []) ⊎ ((c : ℕ) × (w : List ℕ) × (32 ∷ c ∷ w ≡ grants_text 0 g.later) × (is_digit c ≡ true)) → ⊥
    go (inl f) =
        let is : 10 ∷ [] ≡ v = ap (λ (w : List ℕ). w ++ (10 ∷ [])) (sym f ∙ g.prints) ∙ e in
        let same = stands_agree s p (10 ∷ []) (32 ∷ 110 ∷ []) 0 (omega arith) (omega arith) (subst (Stands s p) (sym is) st) sn in
        omega arith
    go (inr (c, w, f, d)) =
        let is : 32 ∷ c ∷ (w ++ (10 ∷ [])) ≡ v = ap (λ (w : List ℕ). w ++ (10 ∷ [])) (f ∙ g.prints) ∙ e in
        let same = stands_agree s p (32 ∷ c ∷ (w ++ (10 ∷ []))) (32 ∷ 110 ∷ []) 1 (omega arith) (omega arith) (subst (Stands s p) (sym is) st) sn in
        no_other c 110 d (high_byte 110 (omega arith)) same

sets_all : (xs zs : List Rights) → length zs ≡ length xs → sets xs 0 zs ≡ zs
sets_all xs zs e =
    sets-eq zs xs 0 (omega arith) ∙ ap (λ ys. zs ++ ys) (drop_of_length-le xs {i = 0 + length zs} (omega arith)) ∙ append-nil zs

filled_all : (b : Bool) (zs : List Rights) → length zs ≡ 16 → filled (started b) 0 zs ≡ record { create = b; rights = zs }
filled_all b zs e =
    ap (λ ys. record { create = b; rights = ys }) (sets_all zero_row.rights zs (e ∙ sym blank_row.size_is))

pub record RestText (r : Row) (u : List ℕ) : Type 0 where
  pub whole : length r.rights ≡ 16
  pub prints : row_rest_text r ≡ u

abbrev Rest : Row → List ℕ → Type 0
Rest r t = (b : Bool) × (v : List ℕ) × Granted b r v × (given b (bytes " n") ++ v ≡ t)

rest_to : (r : Row) (u : List ℕ) → Rest r u → RestText r u
unfolding row_rest_text newline
rest_to r u (b, v, (r', (y, g, e₁), is), e₂) =
    let size : length g.later ≡ 16 = let s = g.size in omega arith in
    subst (λ (z : Row). RestText z u) (sym (filled_all b g.later size) ∙ g.is ∙ is) (record {
      whole = size;
      prints =
          ap (λ (z : List ℕ). given b (bytes " n") ++ (z ++ (10 ∷ []))) g.prints
          ∙ ap (λ (z : List ℕ). given b (bytes " n") ++ z) e₁
          ∙ e₂;
    })

rest_from : (r : Row) (u : List ℕ) → RestText r u → Rest r u
unfolding row_rest_text newline
rest_from r u x =
    let gs = grants_text 0 r.rights in (
      r.create,
      gs ++ (10 ∷ []),
      (
        r,
        (
          gs,
          record {
            later = r.rights;
            size = let w = x.whole in omega arith;
            is = filled_all r.create r.rights x.whole;
            prints = refl;
          },
          refl,
        ),
        refl,
      ),
      x.prints,
    )

reads_rest : Reads row_rest RestText Any
unfolding row_rest
reads_rest =
    reads_as (reads_creates (λ c. grants 16 0 (started c) >>= (λ r. byte 10 >> pure r)) Granted reads_granted not_held)
    rest_to rest_from (λ d e. e)

-- ---- the row of address i
pub record RowText (i : ℕ) (r : Row) (u : List ℕ) : Type 0 where
  pub whole : length r.rights ≡ 16
  pub prints : row_text i r ≡ u

pub reads_row : (i : ℕ) → i ≤ 15 → Reads (row i) (RowText i) Any
unfolding row row_text
reads_row i h =
    reads_as (reads_behind (decimal i ++ bytes " has") tt (reads_opening i h) reads_rest (λ r u d x e. tt))
    (λ r u (v, x, e). record {
      whole = x.whole;
      prints =
          sym (append_assoc (decimal i) (bytes " has") _) ∙ ap (λ (z : List ℕ). (decimal i ++ bytes " has") ++ z) x.prints ∙ e;
    })
    (λ r u x.
    (row_rest_text r, record { whole = x.whole; prints = refl }, append_assoc (decimal i) (bytes " has") (row_rest_text r) ∙ x.prints))
    (λ d e. e)

-- ---- the row of node i for origin j
pub record OriginRowText (i j : ℕ) (r : Row) (u : List ℕ) : Type 0 where
  pub whole : length r.rights ≡ 16
  pub prints : origin_row_text i j r ≡ u

-- a word that opens with a space ends a number
space_opens : (w u : List ℕ) (d : ℕ) → 32 ∷ w ≡ u → NoDigit (get_or u 0 d)
space_opens w u d e = subst NoDigit (sym (opens_with_law (32 ∷ w) u d e)) (low_byte 32 (omega arith))

pub reads_origin_row : (i j : ℕ) → i ≤ 15 → j ≤ 15 → Reads (origin_row i j) (OriginRowText i j) Any
unfolding origin_row origin_row_text bytes
reads_origin_row i j h g =
    reads_as
    (reads_behind (decimal i) tt (reads_numbered i h)
    (reads_from_word (bytes " from ")
    (reads_behind (decimal j) tt (reads_numbered j g) (reads_from_word (bytes " has") reads_rest) (λ r u d x e. space_opens _ u d x.2)))
    (λ r u d x e. space_opens _ u d x.2))
    (λ r u (v₁, (v₂, (v₃, (v₄, x, e₄), e₃), e₂), e₁). record {
      whole = x.whole;
      prints =
          ap (λ (z : List ℕ). decimal i ++ (bytes " from " ++ (decimal j ++ (bytes " has" ++ z)))) x.prints
          ∙ ap (λ (z : List ℕ). decimal i ++ (bytes " from " ++ (decimal j ++ z))) e₄
          ∙ ap (λ (z : List ℕ). decimal i ++ (bytes " from " ++ z)) e₃
          ∙ ap (λ (z : List ℕ). decimal i ++ z) e₂
          ∙ e₁;
    })
    (λ r u x. (_, (_, (_, (row_rest_text r, record { whole = x.whole; prints = refl }, refl), refl), refl), x.prints))
    (λ d e. e)
