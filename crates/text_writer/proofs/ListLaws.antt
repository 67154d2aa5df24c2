-- Lists as the code goes through them, by index: parts with commas between them, the members of a set, and parts that are
-- numbered from 0 up (`Printed.antt` of `sources`). Assumes nothing.
use Prim.Native.Nat.{ℕ, zero, suc, ◌+◌, ◌<◌}
use mathlib.Core.Path.{◌≡◌, refl, sym, ap, ◌∙◌}
use mathlib.Core.Bool.{Bool, true, false, ◌||◌, or-true, or-false}
use mathlib.Core.List.{List, [], ◌∷◌, ◌++◌, map, append-nil, append_assoc, map-append}
use native.Mathlib.Omega.{arith}
use native.Mathlib.Nat.{zero-add}
use native.Mathlib.Numerals.{add-one}
use lib.Dec.{ltb}
use lib.ListN.{length, get_or, take, length-append, length-map}
use lib.Seq.{take-suc, take_all, length-take-le}
use borrow.Author.Tests.{lt-ltb, le-ltb}
use Rattle.net.specs.Choice.{choose}
use Rattle.net.specs.Groups.{member, members_below, members_of}
use Rattle.net.specs.Records.{address_of}
use Rattle.net.proofs.Laws.{choose_true, choose_false}
use Rattle.read_back.specs.NetSource.{listed}
use Rattle.read_back.proofs.Listed.{listed_length, listed_take}
use Rattle.sources.specs.Printed.{given, separated, address_text}
use Rattle.text.specs.Decimal.{decimal}
use Rattle.text.specs.Joined.{joined}
use Rattle.text.specs.Writer.{after}
use Rattle.text.specs.declared.writer.Writer.{Writer}
use Rattle.text.proofs.WriterLaws.{after_none, after_then}
use Rattle.text.proofs.WritingLaws.{joined_same}
use Rattle.text_writer.specs.Types.{Locality, Group}

-- ---- parts with commas between them
behind : (x : List ℕ) (ts : List (List ℕ)) (t : List ℕ) → separated (x ∷ (ts ++ (t ∷ []))) ≡ separated (x ∷ ts) ++ (44 ∷ t)
unfolding separated
behind x [] t = refl
behind x (y ∷ ts) t =
    ap (λ (s : List ℕ). x ++ (44 ∷ s)) (behind y ts t) ∙ sym (append_assoc x (44 ∷ separated (y ∷ ts)) (44 ∷ t))

-- one part more: a comma before it, where others stand before
separated_both :
    (ts : List (List ℕ)) (t : List ℕ) → separated (ts ++ (t ∷ [])) ≡ separated ts ++ (given (ltb 0 (length ts)) (44 ∷ []) ++ t)
unfolding separated given
separated_both [] t = ap (λ (c : List ℕ). c ++ t) (sym (choose_false (ltb 0 0) (44 ∷ []) [] (le-ltb 0 0 (omega arith))))
separated_both (x ∷ ts) t =
    behind x ts t
    ∙ ap (λ (c : List ℕ). separated (x ∷ ts) ++ (c ++ t))
    (sym (choose_true (ltb 0 (suc (length ts))) (44 ∷ []) [] (lt-ltb 0 (suc (length ts)) (omega arith))))

-- what f prints of each of the first elements
module _ {A : Type 0} (f : A → List ℕ) (ts : List A) where
  pub separated_next :
      (d : A) (i : ℕ) → i < length ts
      → separated (map f (take (i + 1) ts)) ≡ separated (map f (take i ts)) ++ (given (ltb 0 i) (44 ∷ []) ++ f (get_or ts i d))
  separated_next d i h =
      ap (λ (l : List A). separated (map f l)) (ap (λ (j : ℕ). take j ts) (add-one i) ∙ take-suc ts i d h)
      ∙ ap separated (map-append f (take i ts) (get_or ts i d ∷ []))
      ∙ separated_both (map f (take i ts)) (f (get_or ts i d))
      ∙ ap (λ (n : ℕ). separated (map f (take i ts)) ++ (given (ltb 0 n) (44 ∷ []) ++ f (get_or ts i d)))
      (length-map (take i ts) f ∙ length-take-le i ts (omega arith))

-- ---- the members of a set
module _ (g : Group) where
  abbrev members : ℕ → List ℕ
  members i = separated (map address_text (members_below i g))

  member_next :
      (i : ℕ) (b : Bool) → b ≡ member g (address_of i)
      → members (suc i) ≡ members i ++ given b (given (ltb 0 (length (members_below i g))) (44 ∷ []) ++ decimal i)
  unfolding members_below given choose address_text
  member_next i true e =
      ap (λ (ls : List Locality). separated (map address_text (members_below i g ++ ls))) (choose_true _ (address_of i ∷ []) [] (sym e))
      ∙ ap separated (map-append address_text (members_below i g) (address_of i ∷ []))
      ∙ separated_both (map address_text (members_below i g)) (decimal i)
      ∙ ap (λ (n : ℕ). members i ++ (given (ltb 0 n) (44 ∷ []) ++ decimal i)) (length-map (members_below i g) address_text)
  member_next i false e =
      ap (λ (ls : List Locality). separated (map address_text (members_below i g ++ ls))) (choose_false _ (address_of i ∷ []) [] (sym e))
      ∙ ap (λ (ls : List Locality). separated (map address_text ls)) (append-nil (members_below i g))
      ∙ sym (append-nil (members i))

  some_next : (i : ℕ) (b : Bool) → b ≡ member g (address_of i) → (ltb 0 (length (members_below i g)) || b) ≡ ltb 0 (length (members_below (suc i) g))
  unfolding members_below
  some_next i true e =
      or-true (ltb 0 (length (members_below i g)))
      ∙ sym
      (ap (λ (ls : List Locality). ltb 0 (length (members_below i g ++ ls))) (choose_true _ (address_of i ∷ []) [] (sym e))
      ∙ lt-ltb 0 (length (members_below i g ++ (address_of i ∷ []))) (omega (arith, length-append (members_below i g) (address_of i ∷ []))))
  some_next i false e =
      or-false (ltb 0 (length (members_below i g)))
      ∙ sym
      (ap (λ (ls : List Locality). ltb 0 (length (members_below i g ++ ls))) (choose_false _ (address_of i ∷ []) [] (sym e))
      ∙ ap (λ (ls : List Locality). ltb 0 (length ls)) (append-nil (members_below i g)))

  pub some_none : false ≡ ltb 0 (length (members_below 0 g))
  unfolding members_below
  some_none = sym (le-ltb 0 0 (omega arith))

  pub some_more :
      (i : ℕ) (has some : Bool) → has ≡ member g (address_of i) → some ≡ ltb 0 (length (members_below i g))
      → (some || has) ≡ ltb 0 (length (members_below (i + 1) g))
  some_more i has some e d =
      ap (λ (b : Bool). b || has) d ∙ some_next i has e ∙ ap (λ (j : ℕ). ltb 0 (length (members_below j g))) (sym (add-one i))

  pub members_start : (w : Writer ℕ) → w ≡ after w (members 0)
  unfolding separated members_below
  members_start w = sym (after_none w)

  pub members_step :
      (w v u : Writer ℕ) (i : ℕ) (has some : Bool) → has ≡ member g (address_of i) → some ≡ ltb 0 (length (members_below i g))
      → v ≡ after w (members i) → u ≡ after v (given has (given some (44 ∷ []) ++ decimal i)) → u ≡ after w (members (i + 1))
  members_step w v u i has some e d p q =
      after_then w v u _ _ p (q ∙ ap (λ (b : Bool). after v (given has (given b (44 ∷ []) ++ decimal i))) d)
      ∙ ap (after w) (sym (ap members (add-one i) ∙ member_next i has e))

  pub members_end : (w v : Writer ℕ) (i : ℕ) → v ≡ after w (members i) → i ≡ 16 → v ≡ after w (separated (map address_text (members_of g)))
  unfolding members_of
  members_end w v i p e = p ∙ ap (λ (j : ℕ). after w (members j)) e

-- ---- parts that are numbered: g prints of each element what f prints of it and its number
pub record Numbered {A : Type 0} (f : ℕ → A → List ℕ) (g : ℕ → List A → List ℕ) : Type 0 where
  pub none : (i : ℕ) → g i [] ≡ []
  pub more : (i : ℕ) (x : A) (xs : List A) → g i (x ∷ xs) ≡ f i x ++ g (suc i) xs

listed_whole : {A : Type 0} (d : A) (ts : List A) (n : ℕ) → length ts ≡ n → listed n (λ j. get_or ts j d) ≡ ts
listed_whole d ts n e = listed_take ts d n (omega arith) ∙ take_all n ts (omega arith)

module _ {A : Type 0} {f : ℕ → A → List ℕ} {g : ℕ → List A → List ℕ} (numbered : Numbered f g) where
  both : (xs ys : List A) (i : ℕ) → g i (xs ++ ys) ≡ g i xs ++ g (i + length xs) ys
  both [] ys i =
      ap (λ (j : ℕ). g j ys) (omega arith) ∙ ap (λ (t : List ℕ). t ++ g (i + 0) ys) (sym (numbered.none i))
  both (x ∷ xs) ys i =
      numbered.more i x (xs ++ ys)
      ∙ ap (λ (t : List ℕ). f i x ++ t) (both xs ys (suc i))
      ∙ sym (append_assoc (f i x) (g (suc i) xs) (g (suc i + length xs) ys))
      ∙ ap (λ (t : List ℕ). t ++ g (suc i + length xs) ys) (sym (numbered.more i x xs))
      ∙ ap (λ (j : ℕ). g i (x ∷ xs) ++ g j ys) (omega arith)

  alone : (i : ℕ) (x : A) → g i (x ∷ []) ≡ f i x
  alone i x = numbered.more i x [] ∙ ap (λ (t : List ℕ). f i x ++ t) (numbered.none (suc i)) ∙ append-nil (f i x)

  each : (h : ℕ → A) (n i : ℕ) → g i (listed n h) ≡ joined n (λ j. f (i + j) (h j))
  unfolding listed joined
  each h zero i = numbered.none i
  each h (suc n) i =
      both (listed n h) (h n ∷ []) i
      ∙ ap (λ (t : List ℕ). t ++ g (i + length (listed n h)) (h n ∷ [])) (each h n i)
      ∙ ap (λ (t : List ℕ). joined n (λ j. f (i + j) (h j)) ++ t)
      (alone (i + length (listed n h)) (h n) ∙ ap (λ (j : ℕ). f (i + j) (h n)) (listed_length n h))

  from_start : (h : ℕ → A) (n : ℕ) → joined n (λ j. f j (h j)) ≡ g 0 (listed n h)
  from_start h n = joined_same n _ _ (λ j l. ap (λ (k : ℕ). f k (h j)) (sym (zero-add j))) ∙ sym (each h n 0)

  -- n of them, one after another
  pub numbered_end :
      (w v : Writer ℕ) (h : ℕ → A) (i n : ℕ) → v ≡ after w (joined i (λ j. f j (h j))) → i ≡ n → v ≡ after w (g 0 (listed n h))
  numbered_end w v h i n p e =
      p ∙ ap (after w) (ap (λ (k : ℕ). joined k (λ j. f j (h j))) e ∙ from_start h n)

  -- of a whole list
  pub numbered_all :
      (d : A) (w v : Writer ℕ) (ts : List A) (i n : ℕ) → v ≡ after w (joined i (λ j. f j (get_or ts j d))) → i ≡ n
      → length ts ≡ n → v ≡ after w (g 0 ts)
  numbered_all d w v ts i n p e l =
      numbered_end w v (λ j. get_or ts j d) i n p e ∙ ap (λ (us : List A). after w (g 0 us)) (listed_whole d ts n l)
