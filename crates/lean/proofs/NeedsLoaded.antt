-- The table of needs (`loaded_needs` of `specs/Loading.antt`): the loop that makes it, and what stands in it where an eval stands in the
-- code. Assumes nothing.
use Prim.Native.Nat.{ℕ, zero, suc, ◌+◌, ◌<◌, ◌≤◌}
use mathlib.Core.Path.{◌≡◌, refl, sym, ap, subst, ◌∙◌}
use mathlib.Core.Logic.{◌⊎◌, inl, inr}
use mathlib.Core.Bool.{Bool, false}
use mathlib.Core.List.{List, []}
use native.Mathlib.Omega.{arith}
use lib.ListN.{length, get_or, set, replicate, length-set, length-replicate}
use borrow.Author.Tests.{lt-ltb}
use lib.Seq.{get_or-set_same, get_or-set_other, set-get_or}
use Rattle.net.specs.Choice.{choose, fold}
use Rattle.net.specs.Records.{instruction_at, place_of}
use Rattle.net.proofs.Laws.{if_lt, if_not_lt, split}
use Rattle.net.proofs.FoldLaws.{fold_none, fold_more, fold_end}
use Rattle.sound.proofs.CodeFacts.{Acts}
use Rattle.sound.proofs.NetFacts.{sound_apart}
use Rattle.sound.proofs.NetChanges.{instruction_at_law}
use Rattle.lean_code.specs.Needs.{needs_of, sent_of, sent_by}
use Rattle.lean.specs.Types.{Place, Target, Action, Instruction}
use Rattle.lean.specs.Loading.{needs_at, loaded_needs}
use Rattle.lean.proofs.LoadTypes.{NeedsAgree}

module _ (code : List Instruction) (before : List (List Bool)) where
  -- ---- the loop
  pub needs_none : (xs : List (List Bool)) → xs ≡ before → xs ≡ loaded_needs code 0 before
  unfolding loaded_needs
  needs_none xs e = fold_none _ before xs e

  module _ (q : ℕ) (xs : List (List Bool)) (e : xs ≡ loaded_needs code q before) (sent : Place)
      (is : sent ≡ sent_by (instruction_at code (place_of q))) where
    pub needs_sent : sent.0 < 512 → (need : List Bool) (ys : List (List Bool)) → need ≡ needs_of code sent → ys ≡ set xs q need
        → ys ≡ loaded_needs code (q + 1) before
    unfolding loaded_needs needs_at
    needs_sent low need ys n g =
        fold_more _ before q xs ys e (g ∙ ap (set xs q) (if_lt _ _ _ _ 512 (rw is at low) (n ∙ ap (needs_of code) is)))

    pub needs_unsent : 512 ≤ sent.0 → (ys : List (List Bool)) → ys ≡ xs → ys ≡ loaded_needs code (q + 1) before
    unfolding loaded_needs needs_at
    needs_unsent high ys g =
        fold_more _ before q xs ys e (g ∙ sym (set-get_or xs q []) ∙ ap (set xs q) (if_not_lt _ _ _ _ 512 (rw is at high) refl))

  pub needs_end : (q n : ℕ) (xs : List (List Bool)) → xs ≡ loaded_needs code q before → q ≤ n → n ≤ q → xs ≡ loaded_needs code n before
  unfolding loaded_needs
  needs_end q n xs e l g = fold_end _ before q n xs e l g

  -- ---- what stands in it
  length_needs : (n : ℕ) → length (loaded_needs code n before) ≡ length before
  unfolding loaded_needs fold
  length_needs zero = refl
  length_needs (suc n) = length-set (loaded_needs code n before) n _ ∙ length_needs n

  sent_is : (q : ℕ) (t : Target) (sent next : Place) → (instruction_at code (place_of q)).action ≡ Action.Eval t sent next
      → sent_by (instruction_at code (place_of q)) ≡ sent
  unfolding sent_by sent_of
  sent_is q t sent next e = ap sent_of e

  last_needs : (n : ℕ) (t : Target) (sent next : Place) → n < length before → sent.0 < 512
      → (instruction_at code (place_of n)).action ≡ Action.Eval t sent next
      → get_or (loaded_needs code (suc n) before) n [] ≡ needs_of code sent
  unfolding loaded_needs fold needs_at choose
  last_needs n t sent next l low e =
      get_or-set_same (loaded_needs code n before) n _ [] (omega (arith, length_needs n))
      ∙ rw (sent_is n t sent next e, lt-ltb sent.0 512 low)

  pub needs_at_law :
      (q n : ℕ) (t : Target) (sent next : Place) → q < n → n ≤ length before → sent.0 < 512
      → (instruction_at code (place_of q)).action ≡ Action.Eval t sent next
      → get_or (loaded_needs code n before) q [] ≡ needs_of code sent
  unfolding loaded_needs fold
  needs_at_law q zero t sent next h l low e = absurd (omega arith)
  needs_at_law q (suc n) t sent next h l low e = go (λ u. needs_at_law q n t sent next u (omega arith) low e) (split q n h)
    where
      go :
          (q < n → get_or (loaded_needs code n before) q [] ≡ needs_of code sent) → (q < n) ⊎ (q ≡ n)
          → get_or (loaded_needs code (suc n) before) q [] ≡ needs_of code sent
      go below (inl u) = get_or-set_other (loaded_needs code n before) n q _ [] (λ d. omega arith) ∙ below u
      go below (inr d) = rw d (last_needs n t sent next l low (rw d at e))

-- ---- of a sound net
pub needs_agree : NeedsAgree
unfolding NeedsAgree Acts
needs_agree s shape sound q t sent next h e =
    let ok = sound_apart s shape sound in
    let acts : Acts s.format s.addresses s.length (Action.Eval t sent next) (instruction_at s.code (place_of q)) =
    subst (λ (x : Action). Acts s.format s.addresses s.length x (instruction_at s.code (place_of q))) e
    (instruction_at_law s ok (place_of q) h) in
    needs_at_law s.code (replicate 512 (replicate 69 false)) q s.length t sent next h
    (omega (arith, ok.length_most, length-replicate 512 (replicate 69 false))) (omega (arith, acts.1, ok.length_most)) e
