-- Laws by which one pick and the loop over picks meet their definitions (`specs/Rounds.antt`). Assumes nothing.
use Prim.Native.Nat.{ℕ, zero, suc, ◌+◌, ◌<◌, ◌≤◌, ◌%◌}
use mathlib.Core.Path.{◌≡◌, refl, sym, ap, ◌∙◌}
use mathlib.Core.Bool.{Bool}
use mathlib.Core.List.{List, [], ◌∷◌}
use native.Mathlib.Omega.{arith}
use native.Mathlib.Numerals.{add-one}
use lib.ListN.{length, get_or, set, drop, length-set}
use lib.Seq.{drop-cons, drop-nil}
use Rattle.net.specs.Choice.{choose}
use Rattle.net.proofs.Laws.{if_ne}
use Rattle.text.specs.Buffer.{over}
use Rattle.lean.specs.Words.{Words, words_with}
use Rattle.lean.specs.Actions.{acted_with, moved_with, created_with, stop_of, out_of, take_of, read_of, eval_of}
use Rattle.lean.specs.Actions.{create_of, fork_of, out_all_of}
use Rattle.lean.specs.Rounds.{Tables, Stepped, RanWords, tables_with, stepped_with, after_acted, after_moved, after_created, stop_words}
use Rattle.lean.specs.Rounds.{out_words, take_words, read_words, eval_words, create_words, fork_words, out_all_words, act_by, act_with, act_of}
use Rattle.lean.specs.Rounds.{step_words, answered_words, ran_words}
use Rattle.lean.specs.Standing.{Making, MadeEach}

-- ---- the action with a number
module _
    (n : ℕ) (slots : List (List (List ℕ))) (stored : List ℕ) (tuples : List (List (List ℕ))) (rows : List (List (List Bool)))
    (heads : List (List ℕ)) (fields : List (List (List ℕ))) (sets needs : List (List Bool)) (format a k q : ℕ)
  where
    chosen :
        (x : ℕ) → get_or (get_or heads (q % 512) []) 0 0 ≡ x
        → act_by x (words_with n slots stored tuples rows) (get_or heads (q % 512) []) (get_or fields (q % 512) []) (get_or sets (q % 512) [])
        (get_or needs (q % 512) []) format a k
        ≡ act_of (tables_with heads fields sets needs format) (words_with n slots stored tuples rows) a k q
    unfolding act_of act_with
    chosen x e =
        ap
        (λ (y : ℕ).
        act_by y (words_with n slots stored tuples rows) (get_or heads (q % 512) []) (get_or fields (q % 512) []) (get_or sets (q % 512) [])
        (get_or needs (q % 512) []) format a k)
        (sym e)

    module _ (r : ℕ) (slots' : List (List (List ℕ))) where
      pub act_stop :
          get_or (get_or heads (q % 512) []) 0 0 ≡ 0 → acted_with r slots' ≡ stop_of slots a k
          → stepped_with r (words_with n slots' stored tuples rows)
          ≡ act_of (tables_with heads fields sets needs format) (words_with n slots stored tuples rows) a k q
      unfolding act_by choose stop_words after_acted
      act_stop e p = ap (after_acted (words_with n slots stored tuples rows)) p ∙ chosen 0 e

      pub act_read :
          get_or (get_or heads (q % 512) []) 0 0 ≡ 3
          → acted_with r slots' ≡ read_of slots stored tuples rows (get_or heads (q % 512) []) (get_or fields (q % 512) []) a k
          → stepped_with r (words_with n slots' stored tuples rows)
          ≡ act_of (tables_with heads fields sets needs format) (words_with n slots stored tuples rows) a k q
      unfolding act_by choose read_words after_acted
      act_read e p = ap (after_acted (words_with n slots stored tuples rows)) p ∙ chosen 3 e

      pub act_eval :
          get_or (get_or heads (q % 512) []) 0 0 ≡ 4
          → acted_with r slots'
          ≡ eval_of slots rows (get_or needs (q % 512) []) (get_or heads (q % 512) []) (get_or fields (q % 512) []) a k
          → stepped_with r (words_with n slots' stored tuples rows)
          ≡ act_of (tables_with heads fields sets needs format) (words_with n slots stored tuples rows) a k q
      unfolding act_by choose eval_words after_acted
      act_eval e p = ap (after_acted (words_with n slots stored tuples rows)) p ∙ chosen 4 e

      pub act_fork :
          get_or (get_or heads (q % 512) []) 0 0 ≡ 6 → acted_with r slots' ≡ fork_of slots (get_or heads (q % 512) []) a k
          → stepped_with r (words_with n slots' stored tuples rows)
          ≡ act_of (tables_with heads fields sets needs format) (words_with n slots stored tuples rows) a k q
      unfolding act_by choose fork_words after_acted
      act_fork e p = ap (after_acted (words_with n slots stored tuples rows)) p ∙ chosen 6 e

      module _ (n' : ℕ) (rows' : List (List (List Bool))) where
        pub act_create :
            get_or (get_or heads (q % 512) []) 0 0 ≡ 5
            → created_with r n' slots' rows' ≡ create_of n slots rows format (get_or heads (q % 512) []) a k
            → stepped_with r (words_with n' slots' stored tuples rows')
            ≡ act_of (tables_with heads fields sets needs format) (words_with n slots stored tuples rows) a k q
        unfolding act_by choose create_words after_created
        act_create e p = ap (after_created (words_with n slots stored tuples rows)) p ∙ chosen 5 e

      module _ (stored' : List ℕ) (tuples' : List (List (List ℕ))) where
        pub act_out :
            get_or (get_or heads (q % 512) []) 0 0 ≡ 1
            → moved_with r slots' stored' tuples'
            ≡ out_of slots stored tuples rows (get_or heads (q % 512) []) (get_or fields (q % 512) []) a k
            → stepped_with r (words_with n slots' stored' tuples' rows)
            ≡ act_of (tables_with heads fields sets needs format) (words_with n slots stored tuples rows) a k q
        unfolding act_by choose out_words after_moved
        act_out e p = ap (after_moved (words_with n slots stored tuples rows)) p ∙ chosen 1 e

        pub act_take :
            get_or (get_or heads (q % 512) []) 0 0 ≡ 2
            → moved_with r slots' stored' tuples'
            ≡ take_of slots stored tuples rows (get_or heads (q % 512) []) (get_or fields (q % 512) []) a k
            → stepped_with r (words_with n slots' stored' tuples' rows)
            ≡ act_of (tables_with heads fields sets needs format) (words_with n slots stored tuples rows) a k q
        unfolding act_by choose take_words after_moved
        act_take e p = ap (after_moved (words_with n slots stored tuples rows)) p ∙ chosen 2 e

        -- any other number
        pub act_out_all :
            (get_or (get_or heads (q % 512) []) 0 0 ≡ 0 → ⊥)
            → (get_or (get_or heads (q % 512) []) 0 0 ≡ 1 → ⊥)
            → (get_or (get_or heads (q % 512) []) 0 0 ≡ 2 → ⊥)
            → (get_or (get_or heads (q % 512) []) 0 0 ≡ 3 → ⊥)
            → (get_or (get_or heads (q % 512) []) 0 0 ≡ 4 → ⊥)
            → (get_or (get_or heads (q % 512) []) 0 0 ≡ 5 → ⊥)
            → (get_or (get_or heads (q % 512) []) 0 0 ≡ 6 → ⊥)
            → moved_with r slots' stored' tuples'
            ≡ out_all_of slots stored tuples (get_or sets (q % 512) []) (get_or heads (q % 512) []) (get_or fields (q % 512) []) a k
            → stepped_with r (words_with n slots' stored' tuples' rows)
            ≡ act_of (tables_with heads fields sets needs format) (words_with n slots stored tuples rows) a k q
        unfolding act_of act_with act_by out_all_words after_moved choose
        act_out_all e0 e1 e2 e3 e4 e5 e6 p =
            if_ne _ _ _ _ _ e0
            (if_ne _ _ _ _ _ e1
            (if_ne _ _ _ _ _ e2
            (if_ne _ _ _ _ _ e3
            (if_ne _ _ _ _ _ e4
            (if_ne _ _ _ _ _ e5 (if_ne _ _ _ _ _ e6 (ap (after_moved (words_with n slots stored tuples rows)) p)))))))

-- ---- the loop over picks
past_drop : {A : Type 0} (xs : List A) (i : ℕ) → length xs ≤ i → drop i xs ≡ []
past_drop [] i h = drop-nil i
past_drop (x ∷ xs) zero h = absurd (omega arith)
past_drop (x ∷ xs) (suc i) h = past_drop xs i (omega arith)

-- one pick more: it is made, and the rest from the words that it leaves
one_more_law :
    (tb : Tables) (w : Words) (picks : List ℕ) (i r : ℕ) (after : Words) → i < length picks
    → stepped_with r after ≡ step_words tb w (get_or picks i 0)
    → ran_words tb w (drop i picks) ≡ answered_words r (ran_words tb after (drop (i + 1) picks))
unfolding ran_words
one_more_law tb w picks i r after h e =
    ap (ran_words tb w) (drop-cons picks i 0 h)
    ∙ ap (λ (x : Stepped). answered_words x.answer (ran_words tb x.words (drop (suc i) picks))) (sym e)
    ∙ ap (λ (j : ℕ). answered_words r (ran_words tb after (drop j picks))) (sym (add-one i))

-- a byte stored, then the rest
store_first :
    (xs : List ℕ) (i x : ℕ) (r : RanWords)
    → over (set xs i (x % 256)) (i + 1) r.answers ≡ over xs i (answered_words x r).answers
unfolding over answered_words
store_first xs i x r = ap (λ (j : ℕ). over (set xs i (x % 256)) j r.answers) (add-one i)

none_left :
    (tb : Tables) (w : Words) (picks : List ℕ) (i : ℕ) → length picks ≤ i
    → ran_words tb w (drop i picks) ≡ record { answers = []; words = w }
unfolding ran_words
none_left tb w picks i h = ap (ran_words tb w) (past_drop picks i h)

module _ (tb : Tables) (w₀ : Words) (picks xs₀ : List ℕ) where
  pub making_begin : Making tb w₀ picks xs₀ w₀ 0 xs₀
  making_begin = record { some = omega arith; words_are = refl; left_is = refl; long = refl }

  pub making_turn :
      (w : Words) (i : ℕ) (xs : List ℕ) (r : ℕ) (after : Words) → Making tb w₀ picks xs₀ w i xs → i < length picks
      → stepped_with r after ≡ step_words tb w (get_or picks i 0)
      → Making tb w₀ picks xs₀ after (i + 1) (set xs i (r % 256))
  unfolding answered_words
  making_turn w i xs r after m h e =
      let more = one_more_law tb w picks i r after h e in
      record {
        some = omega arith;
        words_are = sym (ap (λ (x : RanWords). x.words) more) ∙ m.words_are;
        left_is = store_first xs i r (ran_words tb after (drop (i + 1) picks)) ∙ ap (λ (x : RanWords). over xs i x.answers) (sym more) ∙ m.left_is;
        long = length-set xs i (r % 256) ∙ m.long;
      }

  pub making_end :
      (w : Words) (i : ℕ) (xs : List ℕ) → Making tb w₀ picks xs₀ w i xs → length picks ≤ i → MadeEach tb w₀ picks xs₀ w xs
  unfolding over
  making_end w i xs m h =
      let none = none_left tb w picks i h in
      record {
        words_are = sym (ap (λ (x : RanWords). x.words) none) ∙ m.words_are;
        left_is = sym (ap (λ (x : RanWords). over xs i x.answers) none) ∙ m.left_is;
      }
