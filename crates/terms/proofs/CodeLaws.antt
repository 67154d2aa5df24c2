-- How long the words of a process are, and words stored before and after others (`specs/Table.antt`). Assumes nothing.
use Prim.Native.Nat.{ℕ, zero, suc, ◌+◌, ◌*◌, ◌<◌, ◌≤◌}
use mathlib.Core.Path.{◌≡◌, refl, sym, ap, ◌∙◌}
use mathlib.Core.List.{List, [], ◌∷◌, ◌++◌}
use native.Mathlib.Omega.{arith}
use lib.ListN.{length, set, length-append}
use Rattle.net.specs.Records.{zero_instruction}
use Rattle.text.specs.Buffer.{over}
use Rattle.text.specs.Joined.{joined}
use Rattle.text.proofs.WritingLaws.{over_both}
use Rattle.terms.specs.Types.{Instruction}
use Rattle.terms.specs.Terms.{Process, Action, nil, name, fork, act, out, input, read, eval, newloc, out_all}
use Rattle.terms.specs.Numbering.{size, size_in, start_of}
use Rattle.terms.specs.Table.{start_word, template_words, instruction_words, stop_words, action_words, words_of, words_in}

-- ---- lengths
pub length_instruction : (kind target : ℕ) (c : Instruction) (next second : ℕ) → length (instruction_words kind target c next second) ≡ 9
unfolding instruction_words template_words joined
length_instruction kind target c next second = refl

pub length_action : (n : ℕ) (a : Action) (w : ℕ) → length (action_words n a w) ≡ 9
unfolding action_words
length_action n (out c t) w = length_instruction _ _ c w 0
length_action n (input c t) w = length_instruction _ _ c w 0
length_action n (read c t) w = length_instruction _ _ c w 0
length_action n (eval p t) w = length_instruction _ _ _ w _
length_action n (newloc v) w = length_instruction _ _ _ w 0
length_action n (out_all c g) w = length_instruction _ _ c w 0

mutual
  unfolding words_of size stop_words words_in size_in

  pub length_words : (n : ℕ) (x : Process) → length (words_of n x) ≡ 9 * size x
  length_words n nil = length_instruction 0 0 _ 0 0
  length_words n (name k) = refl
  length_words n (fork p q) =
      let first = length_words (suc n) p in
      let second = length_words (suc n + size p) q in
      let both = length-append (words_of (suc n) p) (words_of (suc n + size p) q) in
      let own = length_instruction 6 0 zero_instruction (start_word (start_of (suc n) p)) (start_word (start_of (suc n + size p) q)) in
      length-append (instruction_words 6 0 zero_instruction (start_word (start_of (suc n) p)) (start_word (start_of (suc n + size p) q)))
      (words_of (suc n) p ++ words_of (suc n + size p) q)
      ∙ omega (arith, first, second, both, own)
  length_words n (act a p) =
      let own = length_action n a (start_word (start_of (suc n + size_in a) p)) in
      let inside = length_in (suc n) a in
      let held = length-append (action_words n a (start_word (start_of (suc n + size_in a) p))) (words_in (suc n) a) in
      let after = length_words (suc n + size_in a) p in
      length-append (action_words n a (start_word (start_of (suc n + size_in a) p)) ++ words_in (suc n) a) (words_of (suc n + size_in a) p)
      ∙ omega (arith, own, inside, held, after)

  pub length_in : (n : ℕ) (a : Action) → length (words_in n a) ≡ 9 * size_in a
  length_in n (out c t) = refl
  length_in n (input c t) = refl
  length_in n (read c t) = refl
  length_in n (eval p t) = length_words n p
  length_in n (newloc v) = refl
  length_in n (out_all c g) = refl

pub length_action_in : (n : ℕ) (a : Action) (w : ℕ) → length (action_words n a w ++ words_in (suc n) a) ≡ 9 * suc (size_in a)
length_action_in n a w =
    let own = length_action n a w in
    let inside = length_in (suc n) a in
    length-append (action_words n a w) (words_in (suc n) a) ∙ omega (arith, own, inside)

-- ---- words stored apart from each other
module _ {A : Type 0} where
  set_swap : (l : List A) (i j : ℕ) (a b : A) → i < j → set (set l i a) j b ≡ set (set l j b) i a
  set_swap [] i j a b h = refl
  set_swap (x ∷ xs) zero zero a b h = absurd (omega arith)
  set_swap (x ∷ xs) zero (suc j) a b h = refl
  set_swap (x ∷ xs) (suc i) zero a b h = absurd (omega arith)
  set_swap (x ∷ xs) (suc i) (suc j) a b h = ap (λ (r : List A). x ∷ r) (set_swap xs i j a b (omega arith))

  over_set : (xs : List A) (b : ℕ) (ys : List A) (a : ℕ) (z : A) → a < b → set (over xs b ys) a z ≡ over (set xs a z) b ys
  unfolding over
  over_set xs b [] a z h = refl
  over_set xs b (y ∷ ys) a z h =
      over_set (set xs b y) (suc b) ys a z (omega arith) ∙ ap (λ (l : List A). over l (suc b) ys) (sym (set_swap xs a b z y h))

  over_swap :
      (xs : List A) (b : ℕ) (ys : List A) (a : ℕ) (zs : List A) → a + length zs ≤ b
      → over (over xs b ys) a zs ≡ over (over xs a zs) b ys
  unfolding over
  over_swap xs b ys a [] h = refl
  over_swap xs b ys a (z ∷ zs) h =
      ap (λ (l : List A). over l (suc a) zs) (over_set xs b ys a z (omega arith)) ∙ over_swap (set xs a z) b ys (suc a) zs (omega arith)

module _ (xs : List ℕ) (n : ℕ) where
  -- an instruction stored after those that come behind it
  pub stored_before : (ws ys : List ℕ) (m : ℕ) → length ws ≡ 9 → m ≡ suc n → over (over xs (9 * m) ys) (9 * n) ws ≡ over xs (9 * n) (ws ++ ys)
  stored_before ws ys m l e =
      let place : 9 * m ≡ 9 * n + length ws = omega arith in
      over_swap xs (9 * m) ys (9 * n) ws (omega arith) ∙ ap (λ (i : ℕ). over (over xs (9 * n) ws) i ys) place
      ∙ over_both xs (9 * n) ws ys

  -- instructions stored after others
  pub stored_after :
      (ys zs : List ℕ) (m k : ℕ) → length ys ≡ 9 * k → m ≡ n + k → over (over xs (9 * n) ys) (9 * m) zs ≡ over xs (9 * n) (ys ++ zs)
  stored_after ys zs m k l e =
      let place : 9 * m ≡ 9 * n + length ys = omega arith in
      ap (λ (i : ℕ). over (over xs (9 * n) ys) i zs) place ∙ over_both xs (9 * n) ys zs
