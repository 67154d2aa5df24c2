-- Sets (`Sets.antt` of `fields`): what is read is what is printed. n is the number of addresses. Assumes nothing.
use Prim.Native.Nat.{ℕ, suc, ◌+◌, ◌<◌, ◌≤◌}
use mathlib.Core.Path.{◌≡◌, refl, sym, ap, subst, ◌∙◌}
use mathlib.Core.Logic.{inl, inr}
use mathlib.Core.Bool.{Bool, true}
use mathlib.Core.List.{List, [], ◌∷◌, ◌++◌, map}
use native.Mathlib.Omega.{arith}
use lib.ListN.{get_or, set}
use lib.Dec.{leb}
use borrow.Author.Tests.{leb-true, le-leb}
use Rattle.net.specs.Choice.{choose}
use Rattle.net.specs.Records.{address_of}
use Rattle.net.specs.Groups.{members_of}
use Rattle.readers.specs.Reader.{pure, ◌>>=◌}
use Rattle.text.specs.Bytes.{bytes}
use Rattle.text.specs.Decimal.{decimal}
use Rattle.lexemes.specs.Lexemes.{is_digit, optional}
use Rattle.fields.specs.Sets.{group_of, no_members, member_from, members, listed, group}
use Rattle.sources.specs.Types.{Group}
use Rattle.sources.specs.Printed.{separated, address_text, group_text}
use Rattle.sources.specs.WellFormed.{Each, none, more, GroupFormed}
use Rattle.sources.proofs.ReadsPrints.{opens_with_law, opens_append, Reads, Any, Is, After, Or, Image, reads_as, reads_pure}
use Rattle.sources.proofs.ReadsPrints.{reads_from_byte, reads_tested, reads_closed, reads_choice, reads_last}
use Rattle.sources.proofs.Numbers.{high_byte, NoDigit, decimal_opens, no_other}
use Rattle.sources.proofs.Listed.{FieldEnd, Parts, reads_list, parts_from}
use Rattle.sources.proofs.Fields.{reads_address, then_same}
use Rattle.sources.proofs.Members.{Ascending, done, next, marked, few_ascend, marked_members, marked_formed, members_formed}

-- ---- members, each behind those before it

-- the least address that may follow
after : ℕ → List ℕ → ℕ
after low [] = low
after low (x ∷ xs) = after (x + 1) xs

after_one : (low : ℕ) (xs : List ℕ) (x : ℕ) → after low (xs ++ (x ∷ [])) ≡ x + 1
unfolding after
after_one low [] x = refl
after_one low (y ∷ xs) x = after_one (y + 1) xs x

marked_one : (marks : List Bool) (xs : List ℕ) (x : ℕ) → marked marks (xs ++ (x ∷ [])) ≡ set (marked marks xs) x true
unfolding marked
marked_one marks [] x = refl
marked_one marks (y ∷ xs) x = marked_one (set marks y true) xs x

-- ---- what is printed for a set with these members
addresses_text : (xs : List ℕ) → map address_text (map address_of xs) ≡ map decimal xs
unfolding address_text
addresses_text [] = refl
addresses_text (x ∷ xs) = ap (λ ts. decimal x ∷ ts) (addresses_text xs)

group_text_law : (g : Group) (xs : List ℕ) → members_of g ≡ map address_of xs → group_text g ≡ 123 ∷ (separated (map decimal xs) ++ (125 ∷ []))
unfolding group_text bytes
group_text_law g xs e =
    ap (λ ls. 123 ∷ (separated (map address_text ls) ++ (125 ∷ []))) e ∙ ap (λ ts. 123 ∷ (separated ts ++ (125 ∷ []))) (addresses_text xs)

pub record GroupText (n : ℕ) (g : Group) (u : List ℕ) : Type 0 where
  pub formed : GroupFormed n g
  pub prints : group_text g ≡ u

-- ---- reading
module _ (n : ℕ) where
  record MemberFormed (before : List ℕ) (x : ℕ) : Type 0 where
    ascends : after 0 before ≤ x
    in_range_law : x < n

  each_ascend : (before xs : List ℕ) → Each MemberFormed before xs → Ascending n (after 0 before) xs
  each_ascend before [] none = done
  each_ascend before (x ∷ xs) (more f e) =
      next f.ascends f.in_range_law (subst (λ (low : ℕ). Ascending n low xs) (after_one 0 before x) (each_ascend (before ++ (x ∷ [])) xs e))

  ascend_each : (before xs : List ℕ) → Ascending n (after 0 before) xs → Each MemberFormed before xs
  ascend_each before [] done = none
  ascend_each before (x ∷ xs) (next a b r) =
      more (record { ascends = a; in_range_law = b })
      (ascend_each (before ++ (x ∷ [])) xs (subst (λ (low : ℕ). Ascending n low xs) (sym (after_one 0 before x)) r))

  module _ (h : n ≤ 16) where
    reads_member : (before : List ℕ) → Reads (member_from n (after 0 before)) (λ x u. MemberFormed before x × (decimal x ≡ u)) NoDigit
    unfolding member_from address_text
    reads_member before =
        reads_as (reads_tested (λ l. leb (after 0 before) l.0) 31 (λ l. l.0) (reads_address n h))
        (λ x u (l, (a, t), is).
        subst (λ (y : ℕ). MemberFormed before y × (decimal y ≡ u)) is
        (record { ascends = leb-true (after 0 before) l.0 t; in_range_law = a.in_range_law }, a.prints))
        (λ x u (f, e). (address_of x, (record { in_range_law = f.in_range_law; prints = e }, le-leb (after 0 before) x f.ascends), refl))
        (λ d e. e)

    abbrev Marked : List Bool → List ℕ → Type 0
    Marked = Parts 16 (marked no_members) decimal MemberFormed []

    turn : (k : ℕ) (xs s : List ℕ) (p : ℕ) → members (suc k) n (after 0 xs) (marked no_members xs) s p
        ≡ (member_from n (after 0 xs) >>= (λ x. optional 44 >>= (λ more. choose more (members k n (after 0 (xs ++ (x ∷ []))) (marked no_members (xs ++ (x ∷ []))))
        (pure (marked no_members (xs ++ (x ∷ []))))))) s p
    unfolding members
    turn k xs s p =
        then_same (member_from n (after 0 xs)) _ _ s p
        (λ x q.
        ap (λ low. (optional 44 >>= (λ more. choose more (members k n low (set (marked no_members xs) x true)) (pure (set (marked no_members xs) x true)))) s q)
        (sym (after_one 0 xs x))
        ∙ ap (λ marks. (optional 44 >>= (λ more. choose more (members k n (after 0 (xs ++ (x ∷ []))) marks) (pure marks))) s q)
        (sym (marked_one no_members xs x)))

    reads_members : Reads (members 16 n 0 no_members) Marked FieldEnd
    unfolding members after marked
    reads_members =
        reads_list 16 (marked no_members) decimal MemberFormed (λ xs. member_from n (after 0 xs)) (λ k xs. members k n (after 0 xs) (marked no_members xs)) 31
        (λ xs l. reads_member xs) (λ xs s p. refl) (λ k xs s p l. turn k xs s p) 16 [] refl

    -- ---- what stands between the braces
    members_open : (marks : List Bool) (u : List ℕ) (d : ℕ) → Marked marks u → is_digit (get_or u 0 d) ≡ true
    members_open marks u d x =
        let y = parts_from 16 (marked no_members) decimal MemberFormed [] marks u x in
        let low = y.prints.0.in_range_law in
        ap is_digit (opens_with_law _ u d y.is ∙ opens_append y.text y.rest d ∙ opens_with_law (decimal y.one) y.text _ y.prints.1)
        ∙ decimal_opens 15 y.one _ (omega arith) (omega arith)

    -- the addresses of a set with its marks
    record Listing (marks : List Bool) (u : List ℕ) : Type 0 where
      addresses : List ℕ
      ascend : Ascending n 0 addresses
      is : marked no_members addresses ≡ marks
      prints : separated (map decimal addresses) ≡ u

    listing_to : (marks : List Bool) (u : List ℕ) → Or (Is no_members) Marked marks u → Listing marks u
    unfolding marked separated after
    listing_to marks u (inl (is, e)) = record { addresses = []; ascend = done; is = is; prints = e }
    listing_to marks u (inr x) = record { addresses = x.ys; ascend = each_ascend [] x.ys x.each; is = x.is; prints = x.prints }

    listing_from : (marks : List Bool) (u : List ℕ) → Listing marks u → Or (Is no_members) Marked marks u
    unfolding marked separated after
    listing_from marks u x = go x.addresses x.ascend x.is x.prints
      where
        go : (xs : List ℕ) → Ascending n 0 xs → marked no_members xs ≡ marks → separated (map decimal xs) ≡ u → Or (Is no_members) Marked marks u
        go [] r is e = inl (is, e)
        go (y ∷ ys) r is e =
            let few = few_ascend n 0 (y ∷ ys) (omega arith) r in
            inr (record { ys = y ∷ ys; each = ascend_each [] (y ∷ ys) r; some = omega arith; few = omega arith; is = is; prints = e })

    brace : FieldEnd 125
    brace = record { no_digit = high_byte 125 (omega arith); no_comma = λ e. omega arith }

    reads_listed : Reads (listed n) Listing (λ d. d ≡ 125)
    unfolding listed
    reads_listed =
        reads_as
        (reads_choice 125 (reads_pure no_members)
        (reads_last (reads_as reads_members (λ a u x. x) (λ a u x. x) (λ d e. subst FieldEnd (sym e) brace)))
        (λ a u d x e. opens_with_law [] u d x.1 ∙ e) (λ a u d x e. no_other _ 125 (members_open a u d x) (high_byte 125 (omega arith)))
        ).looked
        listing_to listing_from (λ d e. e)

    -- ---- the set
    abbrev Braced : Group → List ℕ → Type 0
    Braced = After (123 ∷ []) (Image group_of (λ marks t. (u : List ℕ) × Listing marks u × (u ++ (125 ∷ []) ≡ t)))

    group_to : (g : Group) (u : List ℕ) → Braced g u → GroupText n g u
    group_to g u (w, (marks, (v, l, e), is), f) =
        let xs = l.addresses in
        subst (λ (z : Group). GroupText n z u) (ap group_of l.is ∙ is) (record {
          formed = marked_formed n h xs l.ascend;
          prints =
              group_text_law _ xs (marked_members n h xs l.ascend) ∙ ap (λ (z : List ℕ). 123 ∷ (z ++ (125 ∷ []))) l.prints
              ∙ ap (λ (z : List ℕ). 123 ∷ z) e ∙ f;
        })

    group_from : (g : Group) (u : List ℕ) → GroupText n g u → Braced g u
    group_from g u x =
        let m = members_formed n g h x.formed in
        let xs = m.addresses in
        let v = separated (map decimal xs) in (
          v ++ (125 ∷ []),
          (marked no_members xs, (v, record { addresses = xs; ascend = m.ascend; is = refl; prints = refl }, refl), m.is),
          sym (group_text_law g xs m.are) ∙ x.prints,
        )

    pub reads_group : Reads (group n) (GroupText n) Any
    unfolding group
    reads_group = reads_as (reads_from_byte 123 (reads_closed 125 group_of reads_listed refl)) group_to group_from (λ d e. e)
