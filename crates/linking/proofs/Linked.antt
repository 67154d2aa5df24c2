-- The table after all lines of a text (`after_all` of `specs/State.antt`), its instructions put in place (`linked_code` of
-- `specs/Placing.antt`), is the code that the lines have (`code_from` of `specs/Compiled.antt`). Assumes nothing.
use Prim.Native.Nat.{ℕ, zero, suc, ◌+◌, ◌*◌, ◌<◌, ◌≤◌}
use mathlib.Core.Path.{◌≡◌, refl, ap, ◌∙◌}
use mathlib.Core.List.{List, [], ◌∷◌, ◌++◌, append_assoc}
use native.Mathlib.Omega.{arith}
use lib.ListN.{get_or, length, drop, length-append, length-replicate}
use lib.Seq.{sets-eq, get_or-drop, drop-drop}
use borrow.Author.Tests.{lt-ltb}
use Rattle.net.specs.Choice.{fold}
use Rattle.net.proofs.Laws.{choose_true}
use Rattle.text.specs.Buffer.{over}
use Rattle.terms.specs.Numbering.{Start}
use Rattle.terms.specs.Table.{words_of}
use Rattle.terms.specs.Loading.{loaded, loaded_at, loaded_in, loaded_all, Resolves}
use Rattle.terms.proofs.CodeLaws.{length_words, stored_after}
use Rattle.terms.proofs.Loaded.{code_back}
use Rattle.linking.specs.Types.{Place, Instruction, Net}
use Rattle.linking.specs.Source.{Line, definition, process, tuple}
use Rattle.linking.specs.Compiled.{size_of, total, line_code, code_from}
use Rattle.linking.specs.Placing.{linked_at, linked_code}
use Rattle.linking.specs.State.{State, begun, after, after_all, FitsLine, FitAll}
use Rattle.linking.proofs.Peopled.{after_count_one}

-- ---- the words of lines whose first instruction has the number n
unfoldable line_words : ℕ → Line → List ℕ
line_words n (definition k x) = words_of n x
line_words n (process a x) = words_of n x
line_words n (tuple a t) = []

unfoldable words_from : ℕ → List Line → List ℕ
words_from n [] = []
words_from n (l ∷ ls) = line_words n l ++ words_from (n + size_of l) ls

length_line : (n : ℕ) (l : Line) → length (line_words n l) ≡ 9 * size_of l
unfolding line_words size_of
length_line n (definition k x) = length_words n x
length_line n (process a x) = length_words n x
length_line n (tuple a t) = refl

length_lines : (n : ℕ) (ls : List Line) → length (words_from n ls) ≡ 9 * total ls
unfolding words_from total
length_lines n [] = refl
length_lines n (l ∷ ls) =
    let first = length_line n l in
    let rest = length_lines (n + size_of l) ls in
    length-append (line_words n l) (words_from (n + size_of l) ls) ∙ omega arith

-- ---- the table
table_after : (l : Line) (s : State) → (after l s).table ≡ over s.table (9 * s.count) (line_words s.count l)
unfolding after line_words over
table_after (definition k x) s = refl
table_after (process a x) s = refl
table_after (tuple a t) s = refl

table_all : (ls : List Line) (s : State) → (after_all ls s).table ≡ over s.table (9 * s.count) (words_from s.count ls)
unfolding after_all words_from over
table_all [] s = refl
table_all (l ∷ ls) s =
    table_all ls (after l s)
    ∙ rw (table_after l s, after_count_one l s)
    (stored_after s.table s.count (line_words s.count l) (words_from (s.count + size_of l) ls) (s.count + size_of l) (size_of l) (length_line s.count l) refl)

-- a table that they fit in starts with the words
starts_with : (table ws : List ℕ) → length ws ≤ length table → over table 0 ws ≡ ws ++ drop (0 + length ws) table
unfolding over
starts_with table ws h = sets-eq ws table 0 (omega arith)

-- before the first line the table has 4608 words
table_fresh :
    (ls : List Line) (s : State) → s.count ≡ 0 → length s.table ≡ 4608 → total ls ≤ 512
    → (after_all ls s).table ≡ words_from 0 ls ++ drop (0 + length (words_from 0 ls)) s.table
table_fresh ls s none long whole =
    let words = length_lines 0 ls in
    table_all ls s ∙ ap (λ (n : ℕ). over s.table (9 * n) (words_from n ls)) none
    ∙ starts_with s.table (words_from 0 ls) (omega arith)

module _ (resolve : ℕ → Place) where
  -- ---- instructions read back one after another are those at each number
  loaded_at_law :
      (table : List ℕ) (i : ℕ) → i < 512
      → linked_at resolve table i ≡ loaded (λ j. get_or (drop (9 * i) table) j 0) (resolve (get_or (drop (9 * i) table) 7 0)) (resolve (get_or (drop (9 * i) table) 8 0))
  unfolding linked_at loaded_in loaded_at loaded
  loaded_at_law table i h = choose_true _ _ _ (lt-ltb i 512 h) ∙ simp get_or-drop

  linked_from :
      (table : List ℕ) (code : List Instruction) (n i : ℕ) → i + n ≤ 512
      → linked_code resolve table (i + n) code ≡ over (linked_code resolve table i code) i (loaded_all resolve n (drop (9 * i) table))
  unfolding linked_code fold over loaded_all
  linked_from table code zero i h = let same : i + 0 ≡ i = omega arith in ap (λ (m : ℕ). linked_code resolve table m code) same
  linked_from table code (suc n) i h =
      let same : i + suc n ≡ suc i + n = omega arith in
      let nine : 9 * i + 9 ≡ 9 * suc i = omega arith in
      ap (λ (m : ℕ). linked_code resolve table m code) same ∙ linked_from table code n (suc i) (omega arith)
      ∙ rw (loaded_at_law table i (omega arith), drop-drop 9 (9 * i) table, nine) refl

  linked_whole :
      (table : List ℕ) (code : List Instruction) (n : ℕ) → n ≤ 512 → linked_code resolve table n code ≡ over code 0 (loaded_all resolve n table)
  unfolding linked_code fold
  linked_whole table code n h =
      let same : n ≡ 0 + n = omega arith in
      ap (λ (m : ℕ). linked_code resolve table m code) same ∙ linked_from table code n 0 (omega arith)

  -- ---- they are those of the lines
  module _ (place : Start → Place) (r : Resolves resolve place) where
    line_back :
        (s : Net) (l : Line) (n k : ℕ) (rest : List ℕ) → FitsLine s l → n + size_of l ≤ 512
        → loaded_all resolve (size_of l + k) (line_words n l ++ rest) ≡ line_code place n l ++ loaded_all resolve k rest
    unfolding FitsLine size_of line_words line_code
    line_back s (definition j x) n k rest f b = code_back resolve place r n k x rest f.1 b
    line_back s (process a x) n k rest f b = code_back resolve place r n k x rest f.1.0 b
    line_back s (tuple a t) n k rest f b = ap (λ (m : ℕ). loaded_all resolve m rest) (omega arith)

    lines_back :
        (ls : List Line) (s : State) (n : ℕ) (rest : List ℕ) → FitAll ls s → n + total ls ≤ 512
        → loaded_all resolve (total ls) (words_from n ls ++ rest) ≡ code_from place n ls
    unfolding FitAll total words_from code_from loaded_all
    lines_back [] s n rest f b = refl
    lines_back (l ∷ ls) s n rest f b =
        ap (loaded_all resolve (size_of l + total ls)) (append_assoc (line_words n l) (words_from (n + size_of l) ls) rest)
        ∙ line_back s.net l n (total ls) (words_from (n + size_of l) ls ++ rest) f.0 (omega arith)
        ∙ ap (λ (c : List Instruction). line_code place n l ++ c) (lines_back ls (after l s) (n + size_of l) rest f.1 (omega arith))

    code_fresh :
        (ls : List Line) (s : State) → s.count ≡ 0 → length s.table ≡ 4608 → FitAll ls s → total ls ≤ 512 → (code : List Instruction)
        → linked_code resolve (after_all ls s).table (total ls) code ≡ over code 0 (code_from place 0 ls)
    code_fresh ls s none long f whole code =
        linked_whole (after_all ls s).table code (total ls) whole
        ∙ ap (λ (t : List ℕ). over code 0 (loaded_all resolve (total ls) t)) (table_fresh ls s none long whole)
        ∙ ap (over code 0) (lines_back ls s 0 _ f (omega arith))

    pub code_all :
        (ls : List Line) (base : Net) → FitAll ls (begun base) → total ls ≤ 512 → (code : List Instruction)
        → linked_code resolve (after_all ls (begun base)).table (total ls) code ≡ over code 0 (code_from place 0 ls)
    unfolding begun
    code_all ls base f whole code = code_fresh ls (begun base) refl (length-replicate {A = ℕ} 4608 0) f whole code
