-- The members of a set, ascending (`members_of` of `Groups.antt` of `net`), and the marks that are set for them one after another:
-- ascending addresses are the members of the set of their marks, and every set has ascending members. Assumes nothing.
use Prim.Native.Nat.{ℕ, zero, suc, ◌+◌, ◌<◌, ◌≤◌}
use mathlib.Core.Path.{◌≡◌, refl, sym, ap, subst, ◌∙◌}
use mathlib.Core.Bool.{Bool, true, false}
use mathlib.Core.List.{List, [], ◌∷◌, ◌++◌, append-nil, append_assoc, map}
use native.Mathlib.Omega.{arith}
use native.Mathlib.Decide.{ℕ_discrete}
use lib.ListN.{length, get_or, set, replicate, length-set, get_or-replicate}
use lib.Seq.{get_or-set_same, get_or-set_other}
use lib.Dec.{eqb, ltb}
use borrow.Author.Tests.{eq-eqb, ne_eqb, ltb-true, lt-ltb}
use Rattle.net.specs.Choice.{choose}
use Rattle.net.specs.Records.{address_of}
use Rattle.net.specs.Groups.{member, members_below, members_of}
use Rattle.net.proofs.Laws.{choose_true, choose_false}
use Rattle.net.proofs.ReadingLaws.{never}
use Rattle.net.proofs.GroupLaws.{member_low, members_at, members_all}
use Rattle.sound.specs.Soundness.{group_sound}
use Rattle.fields.specs.Sets.{group_of, no_members}
use Rattle.sources.specs.Types.{Group}
use Rattle.sources.specs.WellFormed.{GroupFormed}
use Rattle.fields.proofs.SetLaws.{member_marked, group_low, group_marked}

-- addresses from `low` on, ascending, below n
pub data Ascending (n : ℕ) : ℕ → List ℕ → Type 0 where
  done : {low : ℕ} → Ascending n low []
  next : {low x : ℕ} {xs : List ℕ} → low ≤ x → x < n → Ascending n (x + 1) xs → Ascending n low (x ∷ xs)

-- marks, with those of xs
unfoldable pub marked : List Bool → List ℕ → List Bool
marked marks [] = marks
marked marks (x ∷ xs) = marked (set marks x true) xs

-- j is among xs
has : List ℕ → ℕ → Bool
has [] j = false
has (x ∷ xs) j = choose (eqb x j) true (has xs j)

-- those of k addresses from i on that pass the test
picked : (ℕ → Bool) → ℕ → ℕ → List ℕ
picked test zero i = []
picked test (suc k) i = choose (test i) (i ∷ []) [] ++ picked test k (suc i)

-- ---- what is among them
has_here : (x j : ℕ) (xs : List ℕ) → x ≡ j → has (x ∷ xs) j ≡ true
unfolding has
has_here x j xs e = choose_true _ _ _ (eq-eqb x j e)

has_there : (x j : ℕ) (xs : List ℕ) → (x ≡ j → ⊥) → has (x ∷ xs) j ≡ has xs j
unfolding has
has_there x j xs f = choose_false _ _ _ (ne_eqb x j f)

module _ (n : ℕ) where
  lower : (low low' : ℕ) (xs : List ℕ) → low' ≤ low → Ascending n low xs → Ascending n low' xs
  lower low low' [] h done = done
  lower low low' (x ∷ xs) h (next a b r) = let l : low' ≤ x = omega arith in next l b r

  has_none : (low j : ℕ) (xs : List ℕ) → Ascending n low xs → j < low → has xs j ≡ false
  unfolding has
  has_none low j [] done h = refl
  has_none low j (x ∷ xs) (next a b r) h = has_there x j xs (λ e. omega arith) ∙ has_none (x + 1) j xs r (omega arith)

  has_low : (low j : ℕ) (xs : List ℕ) → Ascending n low xs → has xs j ≡ true → j < n
  unfolding has
  has_low low j [] done h = never h
  has_low low j (x ∷ xs) (next a b r) h = go (ℕ_discrete x j) (λ f. has_low (x + 1) j xs r (sym (has_there x j xs f) ∙ h))
    where
      go : Dec (x ≡ j) → ((x ≡ j → ⊥) → j < n) → j < n
      go (yes e) later = omega arith
      go (no f) later = later f

  -- no more than there are addresses
  pub few_ascend : (low : ℕ) (xs : List ℕ) → low ≤ n → Ascending n low xs → low + length xs ≤ n
  few_ascend low [] h done = omega arith
  few_ascend low (x ∷ xs) h (next a b r) = let l = few_ascend (x + 1) xs (omega arith) r in omega arith

  -- ---- marks
  marked_at : (low : ℕ) (xs : List ℕ) (marks : List Bool) (j : ℕ) → n ≤ length marks → Ascending n low xs
      → get_or (marked marks xs) j false ≡ choose (has xs j) true (get_or marks j false)
  unfolding marked choose has
  marked_at low [] marks j h done = refl
  marked_at low (x ∷ xs) marks j h (next a b r) =
      marked_at (x + 1) xs (set marks x true) j (let l = length-set marks x true in omega arith) r ∙ go (ℕ_discrete x j)
    where
      always : (c : Bool) → choose c true true ≡ true
      always true = refl
      always false = refl

      go : Dec (x ≡ j) → choose (has xs j) true (get_or (set marks x true) j false) ≡ choose (has (x ∷ xs) j) true (get_or marks j false)
      go (yes e) =
          ap (λ (k : ℕ). choose (has xs j) true (get_or (set marks x true) k false)) (sym e)
          ∙ ap (λ (c : Bool). choose (has xs j) true c) (get_or-set_same marks x true false (omega arith))
          ∙ always (has xs j) ∙ sym (ap (λ (c : Bool). choose c true (get_or marks j false)) (has_here x j xs e))
      go (no f) =
          ap (λ (c : Bool). choose (has xs j) true c) (get_or-set_other marks x j true false (λ e. f (sym e)))
          ∙ sym (ap (λ (c : Bool). choose c true (get_or marks j false)) (has_there x j xs f))

  marks_of : (xs : List ℕ) (j : ℕ) → n ≤ 16 → j < 16 → Ascending n 0 xs → get_or (marked no_members xs) j false ≡ has xs j
  unfolding no_members choose
  marks_of xs j few h r =
      marked_at 0 xs (replicate 16 false) j few r
      ∙ ap (λ (c : Bool). choose (has xs j) true c) (get_or-replicate 16 j false false h) ∙ itself (has xs j)
    where
      itself : (c : Bool) → choose c true false ≡ c
      itself true = refl
      itself false = refl

  -- ---- those that pass a test
  module _ (test : ℕ → Bool) where
    pick_one : (k i : ℕ) → test i ≡ true → picked test (suc k) i ≡ i ∷ picked test k (suc i)
    unfolding picked
    pick_one k i e = ap (λ (xs : List ℕ). xs ++ picked test k (suc i)) (choose_true (test i) (i ∷ []) [] e)

    pick_none : (k i : ℕ) → test i ≡ false → picked test (suc k) i ≡ picked test k (suc i)
    unfolding picked
    pick_none k i e = ap (λ (xs : List ℕ). xs ++ picked test k (suc i)) (choose_false (test i) (i ∷ []) [] e)

    -- ascending addresses are picked by the test whether they are among them
    picked_has : (k i : ℕ) (xs : List ℕ) → Ascending n i xs → n ≤ i + k → ((j : ℕ) → i ≤ j → j < i + k → test j ≡ has xs j) → picked test k i ≡ xs
    unfolding picked has
    picked_has zero i [] done h f = refl
    picked_has zero i (x ∷ xs) (next a b r) h f = absurd (omega arith)
    picked_has (suc k) i [] done h f =
        pick_none k i (f i (omega arith) (omega arith)) ∙ picked_has k (suc i) [] done (omega arith) (λ j l m. f j (omega arith) (omega arith))
    picked_has (suc k) i (x ∷ xs) (next a b r) h f = go (ℕ_discrete x i) (λ ys q g. picked_has k (suc i) ys q (omega arith) g)
      where
        go : Dec (x ≡ i)
            → ((ys : List ℕ) → Ascending n (suc i) ys → ((j : ℕ) → suc i ≤ j → j < suc i + k → test j ≡ has ys j) → picked test k (suc i) ≡ ys)
            → picked test (suc k) i ≡ x ∷ xs
        go (yes e) later =
            let up : x + 1 ≡ suc i = omega arith in
            pick_one k i (f i (omega arith) (omega arith) ∙ has_here x i xs e)
            ∙ ap (λ (ys : List ℕ). i ∷ ys)
            (later xs (subst (λ (l : ℕ). Ascending n l xs) up r)
            (λ j l m. f j (omega arith) (omega arith) ∙ has_there x j xs (λ d. omega arith)))
            ∙ ap (λ (y : ℕ). y ∷ xs) (sym e)
        go (no d) later =
            let low : suc i ≤ x = omega arith in
            pick_none k i (f i (omega arith) (omega arith) ∙ has_none (suc i) i (x ∷ xs) (next low b r) (omega arith))
            ∙ later (x ∷ xs) (next low b r) (λ j l m. f j (omega arith) (omega arith))

    module _ (inside : (j : ℕ) → test j ≡ true → j < n) where
      picked_ascend : (k i : ℕ) → Ascending n i (picked test k i)
      unfolding picked
      picked_ascend zero i = done
      picked_ascend (suc k) i = go (test i) refl (picked_ascend k (suc i))
        where
          go : (b : Bool) → test i ≡ b → Ascending n (suc i) (picked test k (suc i)) → Ascending n i (picked test (suc k) i)
          go true e later =
              let up : suc i ≡ i + 1 = omega arith in
              subst (Ascending n i) (sym (pick_one k i e))
              (next (omega arith) (inside i e) (subst (λ (l : ℕ). Ascending n l (picked test k (suc i))) up later))
          go false e later = subst (Ascending n i) (sym (pick_none k i e)) (lower (suc i) i _ (omega arith) later)

      -- among those that are picked are those that pass
      has_picked : (k i j : ℕ) → i ≤ j → j < i + k → has (picked test k i) j ≡ test j
      has_picked zero i j h g = absurd (omega arith)
      has_picked (suc k) i j h g = go (test i) refl (ℕ_discrete i j) (λ l. has_picked k (suc i) j l (omega arith))
        where
          go : (b : Bool) → test i ≡ b → Dec (i ≡ j) → (suc i ≤ j → has (picked test k (suc i)) j ≡ test j) → has (picked test (suc k) i) j ≡ test j
          go true e (yes d) later = ap (λ xs. has xs j) (pick_one k i e) ∙ has_here i j _ d ∙ sym e ∙ ap test d
          go true e (no f) later = ap (λ xs. has xs j) (pick_one k i e) ∙ has_there i j _ f ∙ later (omega arith)
          go false e (yes d) later =
              ap (λ xs. has xs j) (pick_none k i e) ∙ has_none (suc i) j _ (picked_ascend k (suc i)) (omega arith) ∙ sym e ∙ ap test d
          go false e (no f) later = ap (λ xs. has xs j) (pick_none k i e) ∙ later (omega arith)

-- ---- the members of a set
module _ (g : Group) where
  is_member : ℕ → Bool
  is_member i = member g (address_of i)

  members_picked : (k i : ℕ) → members_below i g ++ map address_of (picked is_member k i) ≡ members_below (i + k) g
  unfolding members_below is_member picked choose
  members_picked zero i = let e : i ≡ i + 0 = omega arith in append-nil (members_below i g) ∙ ap (λ (m : ℕ). members_below m g) e
  members_picked (suc k) i =
      let e : suc i + k ≡ i + suc k = omega arith in
      ap (λ ls. members_below i g ++ ls) (go (member g (address_of i)))
      ∙ sym (append_assoc (members_below i g) (choose (member g (address_of i)) (address_of i ∷ []) []) (map address_of (picked is_member k (suc i))))
      ∙ members_picked k (suc i) ∙ ap (λ (m : ℕ). members_below m g) e
    where
      go : (b : Bool) → map address_of (choose b (i ∷ []) [] ++ picked is_member k (suc i))
          ≡ choose b (address_of i ∷ []) [] ++ map address_of (picked is_member k (suc i))
      go true = refl
      go false = refl

  members_are : members_of g ≡ map address_of (picked is_member 16 0)
  unfolding members_of members_below
  members_are = sym (members_picked 16 0)

-- ---- the set of ascending addresses
module _ (n : ℕ) (few : n ≤ 16) (xs : List ℕ) (ascend : Ascending n 0 xs) where
  marked_member : (l : ℕ) → l < 16 → member (group_of (marked no_members xs)) (address_of l) ≡ has xs l
  marked_member l h = member_marked (marked no_members xs) l h ∙ marks_of n xs l few h ascend

  pub marked_members : members_of (group_of (marked no_members xs)) ≡ map address_of xs
  unfolding is_member
  marked_members =
      members_are (group_of (marked no_members xs))
      ∙ ap (map address_of) (picked_has n _ 16 0 xs ascend (omega arith) (λ j l m. marked_member j (omega arith)))

  pub marked_formed : GroupFormed n (group_of (marked no_members xs))
  unfolding group_sound
  marked_formed = record {
    in_range_law =
        members_all (group_of (marked no_members xs)) _
        (λ l m. let h = member_low _ l m in lt-ltb l.0 n (has_low n 0 l.0 xs ascend (sym (marked_member l.0 h) ∙ m)));
    fits = group_low (marked no_members xs);
  }

-- ---- the addresses of a set, ascending
pub record Members (n : ℕ) (g : Group) : Type 0 where
  pub addresses : List ℕ
  pub ascend : Ascending n 0 addresses
  pub are : members_of g ≡ map address_of addresses
  pub is : group_of (marked no_members addresses) ≡ g

pub members_formed : (n : ℕ) (g : Group) → n ≤ 16 → GroupFormed n g → Members n g
unfolding group_sound is_member
members_formed n g few f =
    let inside : (j : ℕ) → is_member g j ≡ true → j < n = λ j e. ltb-true j n (members_at g (λ l. ltb l.0 n) f.in_range_law (address_of j) e) in
    let ascend = picked_ascend n (is_member g) inside 16 0 in record {
      addresses = picked (is_member g) 16 0;
      ascend = ascend;
      are = members_are g;
      is =
          group_marked (marked no_members (picked (is_member g) 16 0)) g f.fits
          (λ l h. marks_of n _ l few h ascend ∙ has_picked n (is_member g) inside 16 0 l (omega arith) (omega arith));
    }
