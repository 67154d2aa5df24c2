-- Readings, addresses and tuples (`Fields.antt` of `fields`): what is read is what is printed. n is the
-- number of addresses. Assumes nothing.
use Prim.Native.Nat.{ℕ, suc, ◌+◌, ◌-◌, ◌<◌, ◌≤◌}
use mathlib.Core.Path.{◌≡◌, refl, sym, ap, subst, ◌∙◌}
use mathlib.Core.Logic.{inl, inr}
use mathlib.Core.Bool.{true, false}
use mathlib.Core.List.{List, [], ◌∷◌, ◌++◌, append_assoc, map}
use native.Mathlib.Omega.{arith}
use lib.ListN.{length, get_or, take, set, replicate, length-append, length-map}
use lib.Seq.{set_at}
use lib.IntN.{ℤ}
use lib.Dec.{leb, ltb}
use borrow.Author.Tests.{leb-true, le-leb, ltb-true, lt-ltb}
use Rattle.net.specs.Choice.{both}
use Rattle.net.specs.Records.{address_of, zero_field, zero_tuple, with_field}
use Rattle.net.proofs.Laws.{choose_true}
use Rattle.readers.specs.Reader.{Parsed, got, fault, Reader, pure, and_then, ◌>>=◌}
use Rattle.text.specs.Bytes.{bytes}
use Rattle.text.specs.Decimal.{decimal, signed_decimal}
use Rattle.lexemes.specs.Lexemes.{is_digit}
use Rattle.fields.specs.Fields.{address, variable, negative, positive, reading, at_address, address_item, reading_item, item}
use Rattle.fields.specs.Fields.{tupleField, tuple}
use Rattle.sound.specs.Soundness.{item_sound}
use Rattle.fresh.specs.Fresh.{reading_fits, item_fits}
use Rattle.sources.specs.Types.{Locality, Item, Field, Tuple}
use Rattle.sources.specs.Printed.{separated, address_text, item_text, tuple_text}
use Rattle.sources.specs.WellFormed.{ItemFormed, tuple_of, TupleFormed}
use Rattle.sources.proofs.ReadsPrints.{Reads, Any, After, Or, Image, reads_as, reads_from_byte}
use Rattle.sources.proofs.ReadsPrints.{reads_map, reads_tested, reads_closed, reads_choice, reads_last}
use Rattle.sources.proofs.Listed.{FieldEnd, Parts, reads_fields}
use Rattle.sources.proofs.Numbers.{low_byte, high_byte, NoDigit, reads_number, decimal_opens, no_other}

-- ---- addresses and variables
pub record AddressText (n : ℕ) (l : Locality) (u : List ℕ) : Type 0 where
  pub in_range_law : l.0 < n
  pub prints : address_text l ≡ u

pub reads_address : (n : ℕ) → n ≤ 16 → Reads (address n) (AddressText n) NoDigit
unfolding address address_text
reads_address n h =
    reads_as (reads_tested (λ l. ltb l n) 23 address_of (reads_number 15 (omega arith)))
    (λ l u (a, ((g, e), t), is). record {
      in_range_law = subst (λ (x : Locality). x.0 < n) is (ltb-true a n t);
      prints = ap (λ (x : Locality). decimal x.0) (sym is) ∙ e;
    })
    (λ l u x. (l.0, ((let r = x.in_range_law in omega arith, x.prints), lt-ltb l.0 n x.in_range_law), refl))
    (λ d e. e)

pub address_opens : (n : ℕ) → n ≤ 16 → (l : Locality) (u : List ℕ) (d : ℕ) → AddressText n l u → is_digit (get_or u 0 d) ≡ true
unfolding address_text
address_opens n h l u d x =
    ap (λ (w : List ℕ). is_digit (get_or w 0 d)) (sym x.prints)
    ∙ decimal_opens 15 l.0 d (omega arith) (let r = x.in_range_law in omega arith)

pub record VariableText (v : ℕ) (u : List ℕ) : Type 0 where
  pub in_range_law : v < 8
  pub prints : decimal v ≡ u

pub reads_variable : Reads variable VariableText NoDigit
unfolding variable
reads_variable =
    reads_as (reads_number 7 (omega arith)) (λ v u (h, e). record { in_range_law = omega arith; prints = e })
    (λ v u x. (let r = x.in_range_law in omega arith, x.prints)) (λ d e. e)

-- ---- readings
pub record ReadingText (x : ℤ) (u : List ℕ) : Type 0 where
  pub fits : reading_fits x ≡ true
  pub prints : signed_decimal x ≡ u

abbrev Negative : ℤ → List ℕ → Type 0
Negative =
    After (45 ∷ []) (Image (λ v. ℤ.negsuc (v - 1)) (λ v u. ((v ≤ 2147483648) × (decimal v ≡ u)) × (leb 1 v ≡ true)))

abbrev Positive : ℤ → List ℕ → Type 0
Positive = Image ℤ.pos (λ v u. (v ≤ 2147483647) × (decimal v ≡ u))

positive_opens : (x : ℤ) (u : List ℕ) (d : ℕ) → Positive x u → is_digit (get_or u 0 d) ≡ true
positive_opens x u d (v, (h, e), is) =
    ap (λ (w : List ℕ). is_digit (get_or w 0 d)) (sym e) ∙ decimal_opens 2147483647 v d (omega arith) h

reading_to : (x : ℤ) (u : List ℕ) → Or Negative Positive x u → ReadingText x u
unfolding reading_fits signed_decimal
reading_to x u (inl (w, (v, ((h, e), t), is), f)) =
    let l = leb-true 1 v t in
    let k : v - 1 + 1 ≡ v = omega arith in
    subst (λ (y : ℤ). ReadingText y u) is (record {
      fits = lt-ltb (v - 1) 2147483648 (omega arith);
      prints = ap (λ (j : ℕ). 45 ∷ decimal j) k ∙ ap (λ (y : List ℕ). 45 ∷ y) e ∙ f;
    })
reading_to x u (inr (v, (h, e), is)) =
    subst (λ (y : ℤ). ReadingText y u) is (record { fits = lt-ltb v 2147483648 (omega arith); prints = e })

reading_from : (x : ℤ) (u : List ℕ) → reading_fits x ≡ true → signed_decimal x ≡ u → Or Negative Positive x u
unfolding reading_fits signed_decimal
reading_from (ℤ.pos v) u h e = inr (v, (let l = ltb-true v 2147483648 h in omega arith, e), refl)
reading_from (ℤ.negsuc v) u h e =
    let l = ltb-true v 2147483648 h in
    let k : v + 1 - 1 ≡ v = omega arith in
    inl (decimal (v + 1), (v + 1, ((omega arith, refl), le-leb 1 (v + 1) (omega arith)), ap ℤ.negsuc k), e)

pub reads_reading : Reads reading ReadingText NoDigit
unfolding reading negative positive
reads_reading =
    reads_as
    (reads_choice 45
    (reads_from_byte 45 (reads_tested (leb 1) 31 (λ v. ℤ.negsuc (v - 1)) (reads_number 2147483648 (omega arith))))
    (reads_last (reads_map ℤ.pos (reads_number 2147483647 (omega arith))))
    (λ x u d y e. ap (λ (w : List ℕ). get_or w 0 d) (sym y.2))
    (λ x u d y e. no_other _ 45 (positive_opens x u d y) (low_byte 45 (omega arith)))
    ).looked
    reading_to (λ x u y. reading_from x u y.fits y.prints) (λ d e. e)

-- a reading opens with a digit or a minus
pub reading_opens : (c : ℕ) → is_digit c ≡ false → (45 ≡ c → ⊥) → (x : ℤ) (u : List ℕ) (d : ℕ) → ReadingText x u → get_or u 0 d ≡ c → ⊥
reading_opens c h g x u d y = go (reading_from x u y.fits y.prints)
  where
    go : Or Negative Positive x u → get_or u 0 d ≡ c → ⊥
    go (inl z) e = g (ap (λ (w : List ℕ). get_or w 0 d) z.2 ∙ e)
    go (inr z) e = no_other _ c (positive_opens x u d z) h e

-- ---- items
abbrev ItemText : ℕ → List Item → Item → List ℕ → Type 0
ItemText n before x u = ItemFormed n before x × (item_text x ≡ u)

abbrev Named : ℕ → Locality → List ℕ → Type 0
Named n = After (64 ∷ []) (AddressText n)

module _ (n : ℕ) (before : List Item) where
  item_to : (x : Item) (u : List ℕ) → Or (Image Item.Address (Named n)) (Image Item.Reading ReadingText) x u → ItemText n before x u
  unfolding item_sound item_fits item_text bytes
  item_to x u (inl (l, (w, a, e), is)) =
      subst (λ (y : Item). ItemText n before y u) is (
        record { in_range_law = lt-ltb l.0 n a.in_range_law; fits = refl },
        ap (λ (v : List ℕ). 64 ∷ v) a.prints ∙ e,
      )
  item_to x u (inr (v, r, is)) =
      subst (λ (y : Item). ItemText n before y u) is (record { in_range_law = refl; fits = r.fits }, r.prints)

  item_from : (x : Item) (u : List ℕ) → ItemText n before x u → Or (Image Item.Address (Named n)) (Image Item.Reading ReadingText) x u
  unfolding item_sound item_fits item_text bytes
  item_from (Item.Reading x) u (h, e) = inr (x, record { fits = h.fits; prints = e }, refl)
  item_from (Item.Address l) u (h, e) =
      inl (l, (address_text l, record { in_range_law = ltb-true l.0 n h.in_range_law; prints = refl }, e), refl)

  pub reads_item : n ≤ 16 → Reads (item n) (ItemText n before) NoDigit
  unfolding item address_item reading_item at_address
  reads_item h =
      reads_as
      (reads_choice 64 (reads_map Item.Address (reads_from_byte 64 (reads_address n h))) (reads_last (reads_map Item.Reading reads_reading))
      (λ x u d y e. ap (λ (w : List ℕ). get_or w 0 d) (sym y.1.2))
      (λ x u d y e. reading_opens 64 (high_byte 64 (omega arith)) (λ z. omega arith) y.0 u d y.1)
      ).looked
      item_to item_from (λ d e. e)

-- ---- arrays of four, filled one after another
map_one : {X F : Type 0} (mk : X → F) (xs : List X) (x : X) → map mk (xs ++ (x ∷ [])) ≡ map mk xs ++ (mk x ∷ [])
map_one mk [] x = refl
map_one mk (y ∷ xs) x = ap (λ zs. mk y ∷ zs) (map_one mk xs x)

module _ {X F : Type 0} (mk : X → F) (z : F) where
  pub filled_next : (xs : List X) (x : X) → length xs < 4
      → set (map mk xs ++ replicate (4 - length xs) z) (length xs) (mk x)
      ≡ map mk (xs ++ (x ∷ [])) ++ replicate (4 - length (xs ++ (x ∷ []))) z
  filled_next xs x h =
      let l = length-append xs (x ∷ []) in
      let k : 4 - length xs ≡ suc (4 - length (xs ++ (x ∷ []))) = omega arith in
      let ys = replicate (4 - length (xs ++ (x ∷ []))) z in
      ap (λ (j : ℕ). set (map mk xs ++ replicate j z) (length xs) (mk x)) k
      ∙ set_at (map mk xs) z ys (mk x) (length xs) (length-map xs mk)
      ∙ sym (append_assoc (map mk xs) (mk x ∷ []) ys)
      ∙ ap (λ zs. zs ++ ys) (sym (map_one mk xs x))

  pub filled_text : {T : Type 0} (g : F → T) (xs : List X) (ys : List F) → map g (take (length xs) (map mk xs ++ ys)) ≡ map (λ x. g (mk x)) xs
  filled_text g [] ys = refl
  filled_text g (x ∷ xs) ys = ap (λ zs. g (mk x) ∷ zs) (filled_text g xs ys)

pub then_same :
    {A B : Type 0} (m : Reader A) (f g : A → Reader B) (s : List ℕ) (p : ℕ) → ((a : A) (q : ℕ) → f a s q ≡ g a s q)
    → (m >>= f) s p ≡ (m >>= g) s p
unfolding ◌>>=◌ and_then
then_same {A} m f g s p e = go (m s p)
  where
    go : (o : Parsed A) → and_then o s f ≡ and_then o s g
    go (got a q) = e a q
    go (fault n) = refl

-- ---- tuples
tuple_next : (xs : List Item) (x : Item) → length xs < 4 → with_field (tuple_of xs) (record { item = x }) ≡ tuple_of (xs ++ (x ∷ []))
unfolding with_field tuple_of
tuple_next xs x h =
    let l : length xs + 1 ≡ length (xs ++ (x ∷ [])) = sym (length-append xs (x ∷ [])) in
    choose_true _ _ _ (lt-ltb (length xs) 4 h)
    ∙ ap (λ (k : ℕ). record { count = k; fields = set (tuple_of xs).fields (length xs) (record { item = x }); mark = zero_tuple.mark }) l
    ∙ ap (λ ys. record { count = length (xs ++ (x ∷ [])); fields = ys; mark = zero_tuple.mark })
    (filled_next (λ (y : Item). record { item = y }) zero_field xs x h)

pub tuple_text_law : (xs : List Item) → tuple_text (tuple_of xs) ≡ 60 ∷ (separated (map item_text xs) ++ (62 ∷ []))
unfolding tuple_text tuple_of bytes
tuple_text_law xs =
    ap (λ ys. 60 ∷ (separated ys ++ (62 ∷ [])))
    (filled_text (λ (y : Item). record { item = y }) zero_field (λ (f : Field). item_text f.item) xs (replicate (4 - length xs) zero_field))

bracket : FieldEnd 62
unfolding is_digit both
bracket = record { no_digit = refl; no_comma = λ e. omega arith }

pub record TupleText (n : ℕ) (t : Tuple) (u : List ℕ) : Type 0 where
  pub formed : TupleFormed n t
  pub prints : tuple_text t ≡ u

module _ (n : ℕ) where
  -- the fields of a tuple in their brackets
  abbrev Bracketed : Tuple → List ℕ → Type 0
  Bracketed = After (60 ∷ []) (Image (λ t. t) (λ t v. (u : List ℕ) × Parts 4 tuple_of item_text (ItemFormed n) [] t u × (u ++ (62 ∷ []) ≡ v)))

  tuple_to : (t : Tuple) (u : List ℕ) → Bracketed t u → TupleText n t u
  tuple_to t u (w, (b, (v, f, e), is), g) =
      let few = f.few in record {
        formed = record { items = f.ys; some = f.some; few = omega arith; each = f.each; is = f.is ∙ is };
        prints =
            ap tuple_text (sym (f.is ∙ is)) ∙ tuple_text_law f.ys ∙ ap (λ (y : List ℕ). 60 ∷ (y ++ (62 ∷ []))) f.prints
            ∙ ap (λ (y : List ℕ). 60 ∷ y) e ∙ g;
      }

  tuple_from_law : (t : Tuple) (u : List ℕ) → TupleText n t u → Bracketed t u
  tuple_from_law t u x =
      let y = x.formed in
      let v = separated (map item_text y.items) in
      let few = y.few in (
        v ++ (62 ∷ []),
        (t, (v, record { ys = y.items; each = y.each; some = y.some; few = omega arith; is = y.is; prints = refl }, refl), refl),
        sym (tuple_text_law y.items) ∙ ap tuple_text y.is ∙ x.prints,
      )

  tuple_step : (xs : List Item) → length xs < 4 → (s : List ℕ) (p : ℕ)
      → tupleField n (tuple_of xs) s p ≡ (item n >>= (λ x. pure (tuple_of (xs ++ (x ∷ []))))) s p
  unfolding tupleField
  tuple_step xs l s p = then_same (item n) _ _ s p (λ x q. ap (λ (t : Tuple). pure t s q) (tuple_next xs x l))

  pub reads_tuple : n ≤ 16 → Reads (tuple n) (TupleText n) Any
  unfolding tuple zero_tuple tuple_of
  reads_tuple h =
      reads_as
      (reads_from_byte 60
      (reads_closed 62 (λ t. t)
      (reads_fields tuple_of item_text (ItemFormed n) (tupleField n) (λ xs. item n) tuple_step (λ xs l. reads_item n xs h))
      bracket))
      tuple_to tuple_from_law (λ d e. e)
