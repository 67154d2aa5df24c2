-- A tuple as 6 words (`specs/Stores.antt`): what the loops make, and the parts put together. Assumes nothing.
use Prim.Native.Nat.{ℕ, ◌+◌, ◌<◌, ◌≤◌}
use mathlib.Core.Path.{◌≡◌, refl, sym, ap, ◌∙◌}
use mathlib.Core.Bool.{Bool, true, false, ◌&&◌}
use mathlib.Core.Logic.{◌≢◌, ◌⊎◌, inl, inr}
use mathlib.Core.List.{List, []}
use native.Mathlib.Omega.{arith}
use native.Mathlib.Decide.{ℕ_discrete, dec_le}
use lib.Dec.{leb}
use lib.ListN.{length, get_or, set, replicate, length-set}
use lib.Seq.{get_or-set_same, get_or-set_other, ext_get_or}
use borrow.Author.Tests.{lt-ltb, le-ltb}
use Rattle.net.specs.Choice.{both, in_range, all}
use Rattle.net.specs.Records.{field_at, zero_field, zero_tuple}
use Rattle.net.proofs.Laws.{choose_true, choose_false}
use Rattle.net.proofs.AllLaws.{and_both}
use Rattle.lean_words.specs.Filled.{filled}
use Rattle.lean_words.specs.Items.{address_in, item_word, item_in}
use Rattle.lean_words.specs.Stores.{no_tuple, tuple_words, field_in, tuple_in, moved_up, closed_up}
use Rattle.lean_words.specs.Types.{Locality, Item, Field, Tuple}
use Rattle.lean_words.proofs.FilledLaws.{filled_none, filled_more, filled_end, length_filled, filled_past, filled_at}

pub words_tuple :
    (t : Tuple) (ws : List ℕ) (i : ℕ) → ws ≡ filled i (λ j. item_word (field_at t j)) (replicate 6 0) → i ≤ 4 → 4 ≤ i
    → set (set ws 4 t.count) 5 t.mark.0 ≡ tuple_words t
unfolding tuple_words
words_tuple t ws i e l h = ap (λ (xs : List ℕ). set (set xs 4 t.count) 5 t.mark.0) (filled_end _ _ i 4 ws e l h)

module _ (ws : List ℕ) where
  pub fields_none :
      (t : Tuple) → t ≡ zero_tuple → t.fields ≡ filled 0 (field_in ws) (replicate 4 zero_field)
  unfolding zero_tuple
  fields_none t e = filled_none _ _ _ (ap (λ (u : Tuple). u.fields) e)

  pub fields_more :
      (fs : List Field) (i : ℕ) (x : Item) → fs ≡ filled i (field_in ws) (replicate 4 zero_field)
      → x ≡ item_in (get_or ws i 0)
      → set fs i (record { item = x }) ≡ filled (i + 1) (field_in ws) (replicate 4 zero_field)
  unfolding field_in
  fields_more fs i x p e = filled_more _ _ i fs _ p (ap (λ (y : Item). record { item = y }) e)

  pub tuple_parts :
      (fs : List Field) (i : ℕ) (l : Locality) → fs ≡ filled i (field_in ws) (replicate 4 zero_field)
      → i ≤ 4 → 4 ≤ i → l ≡ address_in (get_or ws 5 0)
      → ◌≡◌ {A = Tuple} (record { count = get_or ws 4 0; fields = fs; mark = l }) (tuple_in ws)
  unfolding tuple_in
  tuple_parts fs i l p h g e = λ d. record { count = get_or ws 4 0; fields = filled_end _ _ i 4 fs p h g d; mark = e d }

-- ---- fitting
pub range_is : (low x high : ℕ) → (leb low x && leb x high) ≡ in_range low x high
unfolding in_range
range_is low x high = and_both _ _ _ _ refl refl

pub four :
    (x a b c d : Bool) (test : ℕ → Bool) → a ≡ test 0 → b ≡ test 1 → c ≡ test 2 → d ≡ test 3
    → (x && ((a && b) && (c && d))) ≡ both x (all 4 test)
unfolding all both
four x a b c d test p q r s = and_both x _ x _ refl (go a b c d ∙ rw (p, q, r, s))
  where
    go : (a b c d : Bool) → ((a && b) && (c && d)) ≡ both (both (both (both true a) b) c) d
    go true true true d = refl
    go true true false d = refl
    go true false c d = refl
    go false b c d = refl

-- ---- closing up: the places from i to below j have what stood at the next one
pub record Closing (ts : List (List ℕ)) (i : ℕ) (us : List (List ℕ)) (j : ℕ) : Type 0 where
  pub low : i ≤ j
  pub size : length us ≡ length ts
  pub moved : (k : ℕ) → k < length ts → i ≤ k → k < j → get_or us k [] ≡ get_or ts (k + 1) []
  pub kept : (k : ℕ) → (k < i) ⊎ (j ≤ k) → get_or us k [] ≡ get_or ts k []
  pub rest : (k : ℕ) → 15 ≤ k → get_or us k [] ≡ get_or ts k []

module _ (ts : List (List ℕ)) (i : ℕ) where
  pub closing_none : Closing ts i ts i
  closing_none = record { low = omega arith; size = refl; moved = λ k h l g. absurd (omega arith); kept = λ k h. refl; rest = λ k h. refl }

  pub closing_more : (us : List (List ℕ)) (j : ℕ) → Closing ts i us j → j < 15 → Closing ts i (set us j (get_or us (j + 1) [])) (j + 1)
  closing_more us j h few = record {
    low = omega (arith, h.low);
    size = length-set us j _ ∙ h.size;
    moved = λ k l g m. go k l g m (ℕ_discrete k j);
    kept = λ k m. get_or-set_other us j k _ [] (away k m) ∙ h.kept k (older k m);
    rest = λ k m. get_or-set_other us j k _ [] (λ e. omega arith) ∙ h.rest k m;
  }
    where
      away : (k : ℕ) → (k < i) ⊎ (j + 1 ≤ k) → k ≢ j
      away k (inl m) e = omega (arith, h.low)
      away k (inr m) e = omega arith

      older : (k : ℕ) → (k < i) ⊎ (j + 1 ≤ k) → (k < i) ⊎ (j ≤ k)
      older k (inl m) = inl m
      older k (inr m) = inr (omega arith)

      go : (k : ℕ) → k < length ts → i ≤ k → k < j + 1 → Dec (k ≡ j)
          → get_or (set us j (get_or us (j + 1) [])) k [] ≡ get_or ts (k + 1) []
      go k l g m (yes p) =
          rw p (get_or-set_same us j _ [] (omega (arith, h.size)) ∙ h.kept (j + 1) (inr (omega arith)))
      go k l g m (no p) = get_or-set_other us j k _ [] p ∙ h.moved k l g (omega arith)

  pub closing_end :
      (us : List (List ℕ)) (j : ℕ) (t : List ℕ) → Closing ts i us j → 15 ≤ j → t ≡ no_tuple → set us 15 t ≡ closed_up ts i
  unfolding closed_up moved_up
  closing_end us j t h far e =
      ext_get_or [] _ _ (size ∙ sym (length_filled (moved_up ts i) ts 16)) (λ k l. go k (omega (arith, size)) (dec_le 16 k) (ℕ_discrete k 15))
    where
      size : length (set us 15 t) ≡ length ts
      size = length-set us 15 t ∙ h.size

      at : (k : ℕ) → k < length ts → k < 15 → Dec (i ≤ k) → get_or us k [] ≡ moved_up ts i k
      at k l g (yes m) =
          h.moved k l m (omega arith) ∙ sym (choose_true _ _ _ (lt-ltb k 15 g) ∙ choose_false _ _ _ (le-ltb k i m))
      at k l g (no m) =
          h.kept k (inl (omega arith))
          ∙ sym (choose_true _ _ _ (lt-ltb k 15 g) ∙ choose_true _ _ _ (lt-ltb k i (omega arith)))

      go : (k : ℕ) → k < length ts → Dec (16 ≤ k) → Dec (k ≡ 15) → get_or (set us 15 t) k [] ≡ get_or (filled 16 (moved_up ts i) ts) k []
      go k l (yes m) q =
          get_or-set_other us 15 k t [] (λ p. omega arith) ∙ h.rest k (omega arith) ∙ sym (filled_past (moved_up ts i) ts [] 16 k m)
      go k l (no m) (yes p) =
          rw p (get_or-set_same us 15 t [] (omega (arith, h.size)) ∙ e
          ∙ sym (filled_at (moved_up ts i) ts [] 16 15 (omega arith) (omega arith) ∙ choose_false _ _ _ (le-ltb 15 15 (omega arith))))
      go k l (no m) (no p) =
          get_or-set_other us 15 k t [] p ∙ at k l (omega arith) (dec_le i k)
          ∙ sym (filled_at (moved_up ts i) ts [] 16 k (omega arith) l)
