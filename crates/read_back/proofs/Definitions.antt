-- One definition for each instruction, named by its place (`definitions_of` of `specs/NetSource.antt`): name j is defined once, and
-- stands for the instruction j. Assumes nothing.
use Prim.Native.Nat.{ℕ, zero, suc, ◌+◌, ◌<◌, ◌≤◌}
use mathlib.Core.Path.{◌≡◌, refl, sym, ap, ◌∙◌}
use mathlib.Core.Logic.{◌⊎◌, inl, inr}
use mathlib.Core.List.{List, [], ◌∷◌, ◌++◌, append_assoc}
use native.Mathlib.Omega.{arith}
use lib.Dec.{eqb}
use borrow.Author.Tests.{eq-eqb, ne_eqb}
use Rattle.net.specs.Choice.{choose}
use Rattle.net.proofs.Laws.{choose_true, choose_false, split}
use Rattle.text.specs.Joined.{joined}
use Rattle.terms.specs.Numbering.{Start, here, code_of}
use Rattle.linking.specs.Source.{Line}
use Rattle.linking.specs.Compiled.{size_of, total, defined_in, line_code, code_from, placed, peopled}
use Rattle.linking.specs.Names.{defines, defined}
use Rattle.linking.specs.Counts.{counted}
use Rattle.read_back.specs.Types.{Place, Instruction, Net}
use Rattle.read_back.specs.NetSource.{listed, body_of, definition_at}
use Rattle.read_back.proofs.Bodies.{size_one, starts_here}
use Rattle.read_back.proofs.LineLists.{total_append, counted_append, defined_append, code_append, people_append}

-- the instructions, by their places
module _ (c : ℕ → Instruction) where
  abbrev pub definitions : ℕ → List Line
  definitions n = listed n (λ i. definition_at i (c i))

  pub definitions_total : (n : ℕ) → total (definitions n) ≡ n
  unfolding listed joined total size_of
  definitions_total zero = refl
  definitions_total (suc n) =
      let before = definitions_total n in
      let one = size_one (c n) in
      omega (arith, total_append (definitions n) (definition_at n (c n) ∷ []))

  pub definitions_count : (f : Line → ℕ) → ((i : ℕ) → f (definition_at i (c i)) ≡ 0) → (n : ℕ) → counted f (definitions n) ≡ 0
  unfolding listed joined counted
  definitions_count f e zero = refl
  definitions_count f e (suc n) =
      let before = definitions_count f e n in
      let nothing = e n in
      omega (arith, counted_append f (definitions n) (definition_at n (c n) ∷ []))

  -- ---- names
  one_more_law : (n : ℕ) (rest : List Line) → definitions (suc n) ++ rest ≡ definitions n ++ (definition_at n (c n) ∷ rest)
  unfolding listed joined
  one_more_law n rest = append_assoc (definitions n) (definition_at n (c n) ∷ []) rest

  -- a name past the definitions is none of theirs
  passed_over : (j n : ℕ) (rest : List Line) → n ≤ j → defined_in j 0 (definitions n ++ rest) ≡ defined_in j n rest
  unfolding listed joined defined_in
  passed_over j zero rest h = refl
  passed_over j (suc n) rest h =
      ap (defined_in j 0) (one_more_law n rest) ∙ passed_over j n (definition_at n (c n) ∷ rest) (omega arith)
      ∙ choose_false (eqb j n) _ _ (ne_eqb j n (λ e. omega arith))
      ∙ ap (λ (m : ℕ). defined_in j m rest) (let one = size_one (c n) in omega arith)

  last_found :
      (j n : ℕ) (rest : List Line) → (j < n → defined_in j 0 (definitions n ++ (definition_at n (c n) ∷ rest)) ≡ here j)
      → (j < n) ⊎ (j ≡ n) → defined_in j 0 (definitions n ++ (definition_at n (c n) ∷ rest)) ≡ here j
  unfolding defined_in
  last_found j n rest before (inl l) = before l
  last_found j n rest before (inr e) =
      passed_over j n (definition_at n (c n) ∷ rest) (omega arith) ∙ choose_true (eqb j n) _ _ (eq-eqb j n e)
      ∙ starts_here n (c n) ∙ ap here (sym e)

  pub found_at : (j n : ℕ) (rest : List Line) → j < n → defined_in j 0 (definitions n ++ rest) ≡ here j
  found_at j zero rest h = absurd (omega arith)
  found_at j (suc n) rest h =
      ap (defined_in j 0) (one_more_law n rest)
      ∙ last_found j n rest (found_at j n (definition_at n (c n) ∷ rest)) (split j n h)

  -- how often a name is defined
  last_defined : (j n : ℕ) → defined j (definitions (suc n)) ≡ defined j (definitions n) + choose (eqb j n) 1 0
  unfolding listed joined defined defines
  last_defined j n = omega (arith, defined_append j (definitions n) (definition_at n (c n) ∷ []))

  pub never_defined : (j n : ℕ) → n ≤ j → defined j (definitions n) ≡ 0
  unfolding listed joined defined
  never_defined j zero h = refl
  never_defined j (suc n) h =
      let before = never_defined j n (omega arith) in
      let last = choose_false {A = ℕ} (eqb j n) 1 0 (ne_eqb j n (λ e. omega arith)) in
      omega (arith, last_defined j n)

  pub once_defined : (j n : ℕ) → j < n → defined j (definitions n) ≡ 1
  once_defined j zero h = absurd (omega arith)
  once_defined j (suc n) h = last_once j n (once_defined j n) (split j n h)
    where
      last_once : (j n : ℕ) → (j < n → defined j (definitions n) ≡ 1) → (j < n) ⊎ (j ≡ n) → defined j (definitions (suc n)) ≡ 1
      last_once j n before (inl l) =
          let once = before l in
          let last = choose_false {A = ℕ} (eqb j n) 1 0 (ne_eqb j n (λ e. omega arith)) in
          omega (arith, last_defined j n)
      last_once j n before (inr e) =
          let none = never_defined j n (omega arith) in
          let last = choose_true {A = ℕ} (eqb j n) 1 0 (eq-eqb j n e) in
          omega (arith, last_defined j n)

  -- ---- what they make
  module _ (place : Start → Place) where
    pub definitions_people : (n m : ℕ) (s : Net) → peopled place m (definitions n) s ≡ s
    unfolding listed joined peopled placed
    definitions_people zero m s = refl
    definitions_people (suc n) m s =
        people_append place m (definitions n) (definition_at n (c n) ∷ []) s ∙ definitions_people n m s

    pub definitions_code :
        (n : ℕ) → ((i m : ℕ) → i < n → code_of place m (body_of (c i)) ≡ c i ∷ []) → code_from place 0 (definitions n) ≡ listed n c
    unfolding listed joined code_from line_code
    definitions_code zero h = refl
    definitions_code (suc n) h =
        code_append place 0 (definitions n) (definition_at n (c n) ∷ [])
        ∙ ap (λ (cs : List Instruction). cs ++ (code_of place (0 + total (definitions n)) (body_of (c n)) ++ []))
        (definitions_code n (λ i m l. h i m (omega arith)))
        ∙ ap (λ (cs : List Instruction). listed n c ++ (cs ++ [])) (h n (0 + total (definitions n)) (omega arith))
