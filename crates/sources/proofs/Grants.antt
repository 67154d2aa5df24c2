-- The rights of a row, address by address (`grants` of `Rows.antt` of `rows`): what is read is what is printed.
-- Assumes nothing.
use Prim.Native.Nat.{ℕ, zero, suc, ◌+◌, ◌-◌, ◌<◌, ◌≤◌}
use mathlib.Core.Path.{◌≡◌, refl, sym, ap, subst, ◌∙◌}
use mathlib.Core.Logic.{◌⊎◌, inl, inr}
use mathlib.Core.Bool.{Bool, true, false, not}
use mathlib.Core.List.{List, [], ◌∷◌, ◌++◌, append-nil, append_assoc}
use native.Mathlib.Omega.{arith}
use lib.ListN.{length, get_or, set, replicate, length-append, length-replicate, length-set}
use lib.Seq.{sets, set-get_or, get_or-set_other}
use lib.Dec.{leb}
use borrow.Author.Tests.{leb-true, le-leb}
use Rattle.net.specs.Choice.{choose}
use Rattle.net.specs.Choice as Choice
use Rattle.net.specs.Records.{no_rights, with_rights, address_of}
use Rattle.net.proofs.Past.{past_rights}
use Rattle.sound.specs.Soundness.{is_none}
use Rattle.text.specs.Bytes.{bytes}
use Rattle.text.specs.Decimal.{decimal}
use Rattle.lexemes.specs.Lexemes.{is_digit}
use Rattle.rows.specs.Rows.{any_right, rights, granted, grants}
use Rattle.sources.specs.Types.{Rights, Row}
use Rattle.sources.specs.Printed.{given, rights_text, grant_text, grants_text}
use Rattle.sources.proofs.ReadsPrints.{Reads, Any, Is, After, Or, Then, reads_as, reads_pure, reads_then, reads_from_byte, reads_require, reads_optional}
use Rattle.sources.proofs.Numbers.{high_byte, NoDigit, reads_number, decimal_digits, digit_is}
use Rattle.sources.proofs.Rights.{NoLetter, RightsText, reads_rights, any_some, none_is}

-- ---- an address and a colon
record GrantedText (low l : ℕ) (u : List ℕ) : Type 0 where
  from : low ≤ l
  within : l ≤ 15
  prints : decimal l ++ (58 ∷ []) ≡ u

reads_granted : (low : ℕ) → Reads (granted low) (GrantedText low) Any
unfolding granted
reads_granted low =
    reads_as
    (reads_then (reads_number 15 (omega arith)) (λ l u x. reads_require {E = Any} (leb low l) 31 (reads_from_byte 58 (reads_pure l)))
    (λ l b u v d x y e. subst (λ (w : List ℕ). NoDigit (get_or w 0 d)) y.1.2 (high_byte 58 (omega arith))))
    (λ l t x.
    let (h, e) = x.prints in
    let (ok, (v, (is, n), f)) = x.goes_on in
    subst (λ (k : ℕ). GrantedText low k t) is (record {
      from = leb-true low x.one ok;
      within = h;
      prints =
          ap (λ (w : List ℕ). w ++ (58 ∷ [])) e ∙ ap (λ (w : List ℕ). x.text ++ (58 ∷ w)) n
          ∙ ap (λ (w : List ℕ). x.text ++ w) f ∙ x.is;
    }))
    (λ l t x. record {
      one = l;
      text = decimal l;
      rest = 58 ∷ [];
      prints = (x.within, refl);
      goes_on = (le-leb low l x.from, ([], (refl, refl), refl));
      is = x.prints;
    })
    (λ d e. e)

-- ---- rights put into a row one after another

-- no right stands from place `low` on
pub record Blank (low : ℕ) (xs : List Rights) : Type 0 where
  pub size_is : length xs ≡ 16
  pub none_at : (l : ℕ) → low ≤ l → l < 16 → get_or xs l past_rights ≡ no_rights

blank_next : (low l : ℕ) (xs : List Rights) (x : Rights) → low ≤ l → Blank low xs → Blank (l + 1) (set xs l x)
blank_next low l xs x h b = record {
  size_is = length-set xs l x ∙ b.size_is;
  none_at = λ k g i. get_or-set_other xs l k x past_rights (λ e. omega arith) ∙ b.none_at k (omega arith) i;
}

sets_blank : (j i : ℕ) (xs ys : List Rights) → ((l : ℕ) → i ≤ l → l < i + j → get_or xs l past_rights ≡ no_rights)
    → sets xs i (replicate j no_rights ++ ys) ≡ sets xs (i + j) ys
sets_blank zero i xs ys h = let e : i ≡ i + 0 = omega arith in ap (λ (k : ℕ). sets xs k ys) e
sets_blank (suc j) i xs ys h =
    let e : suc i + j ≡ i + suc j = omega arith in
    let same : set xs i no_rights ≡ xs = ap (set xs i) (sym (h i (omega arith) (omega arith))) ∙ set-get_or xs i past_rights in
    ap (λ zs. sets zs (suc i) (replicate j no_rights ++ ys)) same
    ∙ sets_blank j (suc i) xs ys (λ l g k. h l (omega arith) (omega arith))
    ∙ ap (λ (k : ℕ). sets xs k ys) e

grants_skip : (j i : ℕ) (ys : List Rights) → grants_text i (replicate j no_rights ++ ys) ≡ grants_text (i + j) ys
unfolding grants_text grant_text given choose is_none no_rights Choice.both
grants_skip zero i ys = let e : i ≡ i + 0 = omega arith in ap (λ (k : ℕ). grants_text k ys) e
grants_skip (suc j) i ys =
    let e : suc i + j ≡ i + suc j = omega arith in grants_skip j (suc i) ys ∙ ap (λ (k : ℕ). grants_text k ys) e

-- an address with rights, and those after it
grants_one : (l : ℕ) (x : Rights) (zs : List Rights) → any_right x ≡ true
    → grants_text l (x ∷ zs) ≡ 32 ∷ ((decimal l ++ (58 ∷ [])) ++ (rights_text x ++ grants_text (suc l) zs))
unfolding grants_text grant_text given choose bytes
grants_one l x zs h =
    ap (λ (b : Bool). choose b (32 ∷ (decimal l ++ (58 ∷ rights_text x))) [] ++ grants_text (suc l) zs) (sym (any_some x) ∙ h)
    ∙ ap (λ (w : List ℕ). 32 ∷ w) (regroup (decimal l) (rights_text x) (grants_text (suc l) zs))
  where
    regroup : (a b c : List ℕ) → (a ++ (58 ∷ b)) ++ c ≡ (a ++ (58 ∷ [])) ++ (b ++ c)
    regroup a b c = append_assoc a (58 ∷ b) c ∙ sym (append_assoc a (58 ∷ []) (b ++ c))

-- the first address with rights, where there is one
record First (zs : List Rights) : Type 0 where
  skipped : ℕ
  one : Rights
  rest : List Rights
  is : zs ≡ replicate skipped no_rights ++ (one ∷ rest)
  some : any_right one ≡ true

first_of : (zs : List Rights) → (zs ≡ replicate (length zs) no_rights) ⊎ First zs
first_of [] = inl refl
first_of (z ∷ zs) = go (is_none z) refl (first_of zs)
  where
    go : (b : Bool) → is_none z ≡ b → (zs ≡ replicate (length zs) no_rights) ⊎ First zs → (z ∷ zs ≡ replicate (suc (length zs)) no_rights) ⊎ First (z ∷ zs)
    go false e f = inr (record { skipped = 0; one = z; rest = zs; is = refl; some = any_some z ∙ ap not e })
    go true e (inl f) = inl (ap (λ y. y ∷ zs) (none_is z e) ∙ ap (λ ys. no_rights ∷ ys) f)
    go true e (inr f) = inr (record {
      skipped = suc f.skipped;
      one = f.one;
      rest = f.rest;
      is = ap (λ y. y ∷ zs) (none_is z e) ∙ ap (λ ys. no_rights ∷ ys) f.is;
      some = f.some;
    })

none_text : (low : ℕ) (zs : List Rights) → zs ≡ replicate (length zs) no_rights → grants_text low zs ≡ []
unfolding grants_text
none_text low zs e =
    ap (grants_text low) (e ∙ sym (append-nil (replicate (length zs) no_rights))) ∙ grants_skip (length zs) low []

-- what is printed from an address on is nothing, or opens with a space and a digit
pub grants_open : (low : ℕ) (zs : List Rights) → low + length zs ≤ 16
    → (grants_text low zs ≡ []) ⊎ ((c : ℕ) × (w : List ℕ) × (32 ∷ c ∷ w ≡ grants_text low zs) × (is_digit c ≡ true))
grants_open low zs h = go (first_of zs)
  where
    go : (zs ≡ replicate (length zs) no_rights) ⊎ First zs
        → (grants_text low zs ≡ []) ⊎ ((c : ℕ) × (w : List ℕ) × (32 ∷ c ∷ w ≡ grants_text low zs) × (is_digit c ≡ true))
    go (inl e) = inl (none_text low zs e)
    go (inr f) =
        let l = low + f.skipped in
        let a = ap length f.is in
        let b = length-append (replicate f.skipped no_rights) (f.one ∷ f.rest) in
        let c = length-replicate f.skipped no_rights in
        let x = decimal_digits 15 l (omega arith) (omega arith) in
        let text = ap (grants_text low) f.is ∙ grants_skip f.skipped low (f.one ∷ f.rest) ∙ grants_one l f.one f.rest f.some in
        inr (
          48 + x.first,
          (x.after ++ (58 ∷ [])) ++ (rights_text f.one ++ grants_text (suc l) f.rest),
          ap (λ (w : List ℕ). 32 ∷ ((w ++ (58 ∷ [])) ++ (rights_text f.one ++ grants_text (suc l) f.rest))) x.is ∙ sym text,
          digit_is x.first x.small,
        )

-- ---- all addresses from `low` on

-- the row with these rights from place `low` on
abbrev pub filled : Row → ℕ → List Rights → Row
filled r low zs = record { create = r.create; rights = sets r.rights low zs }

pub record GrantsText (low : ℕ) (r₀ r : Row) (u : List ℕ) : Type 0 where
  pub later : List Rights
  pub size : low + length later ≡ 16
  pub is : filled r₀ low later ≡ r
  pub prints : grants_text low later ≡ u

-- behind the last address stands neither a letter nor a space
pub record GrantEnd (d : ℕ) : Type 0 where
  pub no_letter : NoLetter d
  pub no_space : d ≡ 32 → ⊥

space_letter : NoLetter 32
space_letter = record { no_take = λ e. omega arith; no_read = λ e. omega arith; no_put = λ e. omega arith; no_send = λ e. omega arith }

grants_after : (low : ℕ) (r₀ r : Row) (u : List ℕ) (d : ℕ) → GrantsText low r₀ r u → GrantEnd d → NoLetter (get_or u 0 d)
grants_after low r₀ r u d x e = go (grants_open low x.later (let s = x.size in omega arith))
  where
    go : (grants_text low x.later ≡ []) ⊎ ((c : ℕ) × (w : List ℕ) × (32 ∷ c ∷ w ≡ grants_text low x.later) × (is_digit c ≡ true))
        → NoLetter (get_or u 0 d)
    go (inl f) = subst (λ (w : List ℕ). NoLetter (get_or w 0 d)) (sym f ∙ x.prints) e.no_letter
    go (inr (c, w, f, g)) = subst (λ (v : List ℕ). NoLetter (get_or v 0 d)) (f ∙ x.prints) space_letter

abbrev Next : ℕ → Row → Row → List ℕ → Type 0
Next low r₀ =
    Or (After (32 ∷ []) (Then (GrantedText low) (λ l. Then RightsText (λ x. GrantsText (l + 1) (with_rights r₀ (address_of l) x))))) (Is r₀)

module _ (low : ℕ) (r₀ : Row) (b : Blank low r₀.rights) (within : low ≤ 16) where
  row_same : (m : ℕ) → low + m ≡ 16 → filled r₀ low (replicate m no_rights) ≡ r₀
  row_same m e =
      ap (λ zs. record { create = r₀.create; rights = zs })
      (ap (sets r₀.rights low) (sym (append-nil (replicate m no_rights)))
      ∙ sets_blank m low r₀.rights [] (λ l h g. b.none_at l h (omega arith)))

  -- a right put at place l, and those behind it
  put_one : (l : ℕ) (x : Rights) (zs : List Rights) → low ≤ l → l ≤ 15
      → filled r₀ low (replicate (l - low) no_rights ++ (x ∷ zs)) ≡ filled (with_rights r₀ (address_of l) x) (l + 1) zs
  unfolding with_rights
  put_one l x zs h g =
      let xs : List Rights = r₀.rights in
      let at : low + (l - low) ≡ l = omega arith in
      let up : suc l ≡ l + 1 = omega arith in
      ap (λ ys. record { create = r₀.create; rights = ys })
      (sets_blank (l - low) low xs (x ∷ zs) (λ k i j. b.none_at k i (omega arith))
      ∙ ap (λ (k : ℕ). sets xs k (x ∷ zs)) at
      ∙ ap (λ (k : ℕ). sets (set xs l x) k zs) up)

  print_one : (l : ℕ) (x : Rights) (zs : List Rights) → low ≤ l → any_right x ≡ true
      → grants_text low (replicate (l - low) no_rights ++ (x ∷ zs)) ≡ 32 ∷ ((decimal l ++ (58 ∷ [])) ++ (rights_text x ++ grants_text (l + 1) zs))
  print_one l x zs h g =
      let at : low + (l - low) ≡ l = omega arith in
      let up : suc l ≡ l + 1 = omega arith in
      grants_skip (l - low) low (x ∷ zs)
      ∙ ap (λ (k : ℕ). grants_text k (x ∷ zs)) at
      ∙ grants_one l x zs g
      ∙ ap (λ (k : ℕ). 32 ∷ ((decimal l ++ (58 ∷ [])) ++ (rights_text x ++ grants_text k zs))) up

  one_size : (l : ℕ) (x : Rights) (zs : List Rights) → low ≤ l → length (replicate (l - low) no_rights ++ (x ∷ zs)) + low ≡ l + 1 + length zs
  one_size l x zs h =
      let e = length-append (replicate (l - low) no_rights) (x ∷ zs) in
      let f = length-replicate (l - low) no_rights in omega arith

  next_to : (r : Row) (u : List ℕ) → Next low r₀ r u → GrantsText low r₀ r u
  next_to r u (inr (is, e)) = record {
    later = replicate (16 - low) no_rights;
    size = let l = length-replicate (16 - low) no_rights in omega arith;
    is = row_same (16 - low) (omega arith) ∙ is;
    prints = none_text low _ (ap (λ (k : ℕ). replicate k no_rights) (sym (length-replicate (16 - low) no_rights))) ∙ e;
  }
  next_to r u (inl (w, x, e)) =
      let l = x.one in
      let g = x.prints in
      let y = x.goes_on in
      let z = y.goes_on in
      let size = z.size in
      let many = one_size l y.one z.later g.from in
      record {
        later = replicate (l - low) no_rights ++ (y.one ∷ z.later);
        size = omega arith;
        is = put_one l y.one z.later g.from g.within ∙ z.is;
        prints =
            print_one l y.one z.later g.from y.prints.some
            ∙ ap (λ (v : List ℕ). 32 ∷ ((decimal l ++ (58 ∷ [])) ++ (rights_text y.one ++ v))) z.prints
            ∙ ap (λ (v : List ℕ). 32 ∷ ((decimal l ++ (58 ∷ [])) ++ (v ++ y.rest))) y.prints.prints
            ∙ ap (λ (v : List ℕ). 32 ∷ ((decimal l ++ (58 ∷ [])) ++ v)) y.is
            ∙ ap (λ (v : List ℕ). 32 ∷ (v ++ x.rest)) g.prints
            ∙ ap (λ (v : List ℕ). 32 ∷ v) x.is
            ∙ e;
      }

  next_from : (r : Row) (u : List ℕ) → GrantsText low r₀ r u → Next low r₀ r u
  next_from r u x = go (first_of x.later)
    where
      go : (x.later ≡ replicate (length x.later) no_rights) ⊎ First x.later → Next low r₀ r u
      go (inl f) =
          inr (sym (row_same (length x.later) x.size) ∙ ap (filled r₀ low) (sym f) ∙ x.is, sym (none_text low x.later f) ∙ x.prints)
      go (inr f) =
          let l : ℕ = low + f.skipped in
          let zs = f.rest in
          let c = f.one in
          let k : f.skipped ≡ l - low = omega arith in
          let is : x.later ≡ replicate (l - low) no_rights ++ (c ∷ zs) =
          f.is ∙ ap (λ (j : ℕ). replicate j no_rights ++ (c ∷ zs)) k in
          let many = one_size l c zs (omega arith) in
          let size = x.size in
          let same = ap length is in
          inl (
            (decimal l ++ (58 ∷ [])) ++ (rights_text c ++ grants_text (l + 1) zs),
            record {
              one = l;
              text = decimal l ++ (58 ∷ []);
              rest = rights_text c ++ grants_text (l + 1) zs;
              prints = record { from = omega arith; within = omega arith; prints = refl };
              goes_on = record {
                one = c;
                text = rights_text c;
                rest = grants_text (l + 1) zs;
                prints = record { some = f.some; prints = refl };
                goes_on = record {
                  later = zs;
                  size = omega arith;
                  is = sym (put_one l c zs (omega arith) (omega arith)) ∙ ap (filled r₀ low) (sym is) ∙ x.is;
                  prints = refl;
                };
                is = refl;
              };
              is = refl;
            },
            sym (print_one l c zs (omega arith) f.some) ∙ ap (grants_text low) (sym is) ∙ x.prints,
          )

blank_with : (low l : ℕ) (r : Row) (x : Rights) → low ≤ l → Blank low r.rights → Blank (l + 1) (with_rights r (address_of l) x).rights
unfolding with_rights
blank_with low l r x h b = blank_next low l r.rights x h b

pub reads_grants : (k low : ℕ) (r₀ : Row) → 16 ≤ k + low → low ≤ 16 → Blank low r₀.rights → Reads (grants k low r₀) (GrantsText low r₀) GrantEnd
unfolding grants choose grants_text
reads_grants zero low r₀ h g b =
    reads_as (reads_pure r₀)
    (λ r u x. next_to low r₀ b g r u (inr x))
    (λ r u x. empty r u x x.later refl) (λ d e. e)
  where
    empty : (r : Row) (u : List ℕ) (x : GrantsText low r₀ r u) (zs : List Rights) → zs ≡ x.later → Is r₀ r u
    empty r u x [] e =
        (ap (filled r₀ low) e ∙ x.is, ap (grants_text low) e ∙ x.prints)
    empty r u x (z ∷ zs) e = let l = ap length e in let s = x.size in absurd (omega arith)
reads_grants (suc k) low r₀ h g b =
    reads_as
    (reads_optional 32 _
    (reads_then (reads_granted low)
    (λ l u x.
    let from = x.from in
    let within = x.within in
    reads_then reads_rights
    (λ y v z. reads_grants k (l + 1) (with_rights r₀ (address_of l) y) (omega arith) (omega arith) (blank_with low l r₀ y from b))
    (λ y r v w d z t e. grants_after (l + 1) _ r w d t e))
    (λ l r u v d x y e. tt))
    (reads_pure r₀) (λ r u d x e f. e.no_space (ap (λ (w : List ℕ). get_or w 0 d) x.1 ∙ f)))
    (next_to low r₀ b g) (next_from low r₀ b g) (λ d e. e)
