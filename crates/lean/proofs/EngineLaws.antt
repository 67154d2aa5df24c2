-- Laws by which the engine's calls meet their definitions (`specs/Calls.antt`), from what is shown of loading (`LoadTypes.antt`) and of
-- each action (`ActionTypes.antt`). Assumes nothing.
use Prim.Native.Nat.{ℕ, suc, ◌+◌, ◌-◌, ◌<◌, ◌≤◌}
use mathlib.Core.Path.{◌≡◌, refl, sym, ap, subst, ◌∙◌}
use mathlib.Core.Bool.{Bool, true, false}
use mathlib.Core.List.{List, [], ◌∷◌}
use native.Mathlib.Omega.{arith}
use native.Mathlib.Numerals.{add-one}
use lib.ListN.{length, set, replicate, length-set}
use borrow.Author.Tests.{le-leb, lt-leb}
use Rattle.net.specs.Shape.{Shaped}
use Rattle.net.proofs.Laws.{choose_true, choose_false}
use Rattle.sound.specs.Soundness.{sound_of}
use Rattle.sound.proofs.NetFacts.{sound_apart}
use Rattle.plans.specs.Answer.{number_of}
use Rattle.step.specs.Pick.{unchanged}
use Rattle.step.specs.Ran.{numbers, answered}
use Rattle.text.specs.Buffer.{over}
use Rattle.lean_step.specs.LeanStep.{lean_pick_of, lean_ran_from}
use Rattle.lean.specs.Types.{Instruction, Net, Answer, Picked}
use Rattle.lean.specs.Words.{Words, words_with, net_in}
use Rattle.lean.specs.Loading.{words_of, tables_of, loaded_slots, loaded_counts, loaded_tuples, loaded_rows, loaded_heads, loaded_fields}
use Rattle.lean.specs.Loading.{loaded_sets, loaded_needs}
use Rattle.lean.specs.Rounds.{tables_with, ran_words}
use Rattle.lean.specs.Standing.{Stands, Tabled, MadeEach}
use Rattle.lean.specs.Calls.{room_for, net_after, answers_after}
use Rattle.lean.proofs.LoadTypes.{Fits, LoadAgrees, HeadsAgree, FieldsAgree, SetsAgree, NeedsAgree}
use Rattle.lean.proofs.PickLaws.{ActionLaws, ran_agrees}

-- ---- the tables
pub made_with_law :
    (code : List Instruction) (size format : ℕ) (heads : List (List ℕ)) (fields : List (List (List ℕ))) (sets needs : List (List Bool))
    (w₀ : Words) (picks xs₀ : List ℕ) (w : Words) (xs : List ℕ)
    → heads ≡ loaded_heads code size (replicate 512 (replicate 6 0))
    → fields ≡ loaded_fields code size (replicate 512 (replicate 4 (replicate 4 0)))
    → sets ≡ loaded_sets code size (replicate 512 (replicate 16 false))
    → needs ≡ loaded_needs code size (replicate 512 (replicate 69 false))
    → MadeEach (tables_with heads fields sets needs format) w₀ picks xs₀ w xs
    → MadeEach (tables_of code size format) w₀ picks xs₀ w xs
unfolding tables_of
made_with_law code size format heads fields sets needs w₀ picks xs₀ w xs p q r t m = rw (p, q, r, t) at m

-- ---- a list of picks on a sound net
pub record LoadLaws : Type 0 where
  pub load : LoadAgrees
  pub heads : HeadsAgree
  pub fields : FieldsAgree
  pub sets : SetsAgree
  pub needs : NeedsAgree

module _ (loads : LoadLaws) (actions : ActionLaws) (s : Net) (shaped : Shaped s) (sound : sound_of s ≡ true) (fits : Fits s) where
  tabled : Tabled s (tables_of s.code s.length s.format)
  unfolding tables_of HeadsAgree FieldsAgree SetsAgree NeedsAgree
  tabled = record {
    heads_are = loads.heads s shaped sound;
    fields_are = loads.fields s shaped sound;
    sets_are = loads.sets s shaped sound;
    needs_are = loads.needs s shaped sound;
    format_is = refl;
    readings_are = λ q h. fits.readings_fit q (omega (arith, (sound_apart s shaped sound).length_most));
  }

  stands : Stands s (words_of s)
  unfolding LoadAgrees
  stands =
      let loaded = loads.load s shaped sound fits in
      record {
        shaped = subst Shaped (sym loaded.net_is) shaped;
        sound = ap sound_of loaded.net_is ∙ sound;
        sized = loaded.sized;
        ranged = loaded.ranged;
      }

  loaded_back : net_in s (words_of s) ≡ s
  unfolding LoadAgrees
  loaded_back = (loads.load s shaped sound fits).net_is

  module _ (picks : List ℕ) where
    made_net : net_in s (ran_words (tables_of s.code s.length s.format) (words_of s) picks).words ≡ (lean_ran_from s picks).net
    made_net =
        (ran_agrees actions s _ tabled (words_of s) stands picks).0 ∙ ap (λ (t : Net). (lean_ran_from t picks).net) loaded_back

    made_numbers : (ran_words (tables_of s.code s.length s.format) (words_of s) picks).answers ≡ numbers (lean_ran_from s picks)
    made_numbers =
        (ran_agrees actions s _ tabled (words_of s) stands picks).1 ∙ ap (λ (t : Net). numbers (lean_ran_from t picks)) loaded_back

    -- from words as they were loaded
    module _
        (slots : List (List (List ℕ))) (stored : List ℕ) (tuples : List (List (List ℕ))) (rows : List (List (List Bool)))
        (xs₀ : List ℕ) (w : Words) (xs : List ℕ)
        (all_made : MadeEach (tables_of s.code s.length s.format) (words_with s.addresses slots stored tuples rows) picks xs₀ w xs)
        (loaded-slots : slots ≡ loaded_slots s.nodes (replicate 16 (replicate 4 (replicate 16 0))))
        (loaded-stored : stored ≡ loaded_counts s.nodes (replicate 16 0))
        (loaded-tuples : tuples ≡ loaded_tuples s.nodes (replicate 16 (replicate 16 (replicate 6 0))))
        (loaded-rows : rows ≡ loaded_rows s.nodes (replicate 16 (replicate 16 (replicate 65 false))))
      where
        from_loaded : MadeEach (tables_of s.code s.length s.format) (words_of s) picks xs₀ w xs
        unfolding words_of
        from_loaded = rw (loaded-slots, loaded-stored, loaded-tuples, loaded-rows) at all_made

        pub loaded_net : net_in s w ≡ (lean_ran_from s picks).net
        loaded_net = ap (net_in s) from_loaded.words_are ∙ made_net

        pub loaded_answers : xs ≡ over xs₀ 0 (numbers (lean_ran_from s picks))
        loaded_answers = from_loaded.left_is ∙ ap (over xs₀ 0) made_numbers

-- ---- picks on a net that is not sound
module _ (s : Net) (unsound : sound_of s ≡ false) where
  refused_pick : (b : ℕ) → lean_pick_of s b ≡ unchanged Answer.Unsound s
  unfolding lean_pick_of
  refused_pick b = choose_false _ _ _ unsound

  refused_net : (picks : List ℕ) → (lean_ran_from s picks).net ≡ s
  unfolding lean_ran_from answered unchanged
  refused_net [] = refl
  refused_net (b ∷ bs) = ap (λ (r : Picked). (lean_ran_from r.net bs).net) (refused_pick b) ∙ refused_net bs

  refused_numbers : (picks : List ℕ) → numbers (lean_ran_from s picks) ≡ replicate (length picks) 10
  unfolding lean_ran_from answered numbers number_of unchanged
  refused_numbers [] = refl
  refused_numbers (b ∷ bs) =
      ap (λ (r : Picked). number_of r.answer ∷ numbers (lean_ran_from r.net bs)) (refused_pick b)
      ∙ ap (λ (xs : List ℕ). 10 ∷ xs) (refused_numbers bs)

-- the loop that answers each of them 10
pub record Refusing (picks xs₀ : List ℕ) (i : ℕ) (xs : List ℕ) : Type 0 where
  pub some : i ≤ length picks
  pub left_is : over xs i (replicate (length picks - i) 10) ≡ over xs₀ 0 (replicate (length picks) 10)
  pub long : length xs ≡ length xs₀

module _ (picks xs₀ : List ℕ) where
  pub refusing_begin : Refusing picks xs₀ 0 xs₀
  refusing_begin =
      let whole : length picks - 0 ≡ length picks = omega arith in
      record { some = omega arith; left_is = ap (λ (n : ℕ). over xs₀ 0 (replicate n 10)) whole; long = refl }

  pub refusing_turn : (i : ℕ) (xs : List ℕ) → Refusing picks xs₀ i xs → i < length picks → Refusing picks xs₀ (i + 1) (set xs i 10)
  unfolding over
  refusing_turn i xs m h =
      let fewer : length picks - i ≡ suc (length picks - (i + 1)) = omega arith in
      record {
        some = omega arith;
        left_is =
            ap (λ (j : ℕ). over (set xs i 10) j (replicate (length picks - (i + 1)) 10)) (add-one i)
            ∙ ap (λ (n : ℕ). over xs i (replicate n 10)) (sym fewer)
            ∙ m.left_is;
        long = length-set xs i 10 ∙ m.long;
      }

  pub refusing_end : (i : ℕ) (xs : List ℕ) → Refusing picks xs₀ i xs → length picks ≤ i → xs ≡ over xs₀ 0 (replicate (length picks) 10)
  unfolding over
  refusing_end i xs m h =
      let none : length picks - i ≡ 0 = omega arith in
      ap (λ (n : ℕ). over xs i (replicate n 10)) (sym none) ∙ m.left_is

-- ---- what a call gives and leaves
pub judged_unsound : (s : Net) (r : Bool) → r ≡ sound_of s → r ≡ false → sound_of s ≡ false
judged_unsound s r p q = sym p ∙ q

module _ (s : Net) (picks xs₀ : List ℕ) where
  room_is : length picks ≤ length xs₀ → room_for picks xs₀ ≡ true
  unfolding room_for
  room_is h = le-leb _ _ h

  no_room_is : length xs₀ < length picks → room_for picks xs₀ ≡ false
  unfolding room_for
  no_room_is h = lt-leb _ _ h

  module _ (h : length picks ≤ length xs₀) where
    pub net_given : (r : Net) → r ≡ (lean_ran_from s picks).net → r ≡ net_after s picks xs₀
    unfolding net_after
    net_given r e = e ∙ sym (choose_true _ _ _ (room_is h))

    pub answers_given : (xs : List ℕ) → xs ≡ over xs₀ 0 (numbers (lean_ran_from s picks)) → xs ≡ answers_after s picks xs₀
    unfolding answers_after
    answers_given xs e = e ∙ sym (choose_true _ _ _ (room_is h))

    pub net_refused : sound_of s ≡ false → s ≡ net_after s picks xs₀
    net_refused u = net_given s (sym (refused_net s u picks))

    pub answers_refused : sound_of s ≡ false → (xs : List ℕ) → xs ≡ over xs₀ 0 (replicate (length picks) 10) → xs ≡ answers_after s picks xs₀
    answers_refused u xs e = answers_given xs (e ∙ ap (over xs₀ 0) (sym (refused_numbers s u picks)))

  module _ (h : length xs₀ < length picks) where
    pub net_lacking : s ≡ net_after s picks xs₀
    unfolding net_after
    net_lacking = sym (choose_false _ _ _ (no_room_is h))

    pub answers_lacking : xs₀ ≡ answers_after s picks xs₀
    unfolding answers_after
    answers_lacking = sym (choose_false _ _ _ (no_room_is h))
