-- Lists of lines one after another (`Compiled.antt`, `Names.antt` and `Counts.antt` of `linking`). Assumes nothing.
use Prim.Native.Nat.{ℕ, ◌+◌, ◌<◌}
use mathlib.Core.Path.{◌≡◌, refl, sym, ap, ◌∙◌}
use mathlib.Core.Bool.{Bool, true, false}
use mathlib.Core.List.{List, [], ◌∷◌, ◌++◌, append_assoc}
use native.Mathlib.Omega.{arith}
use Rattle.net.specs.Choice.{choose}
use Rattle.net.proofs.ReadingLaws.{never}
use Rattle.terms.specs.Numbering.{Start}
use Rattle.linking.specs.Source.{Line}
use Rattle.linking.specs.Compiled.{size_of, total, line_code, code_from, placed, peopled}
use Rattle.linking.specs.Names.{uses_line, used, defined}
use Rattle.linking.specs.Counts.{counted}
use Rattle.sources.specs.WellFormed.{Each, none, more}
use Rattle.read_back.specs.Types.{Place, Instruction, Net}

pub total_append : (ls ms : List Line) → total (ls ++ ms) ≡ total ls + total ms
unfolding total
total_append [] ms = omega arith
total_append (l ∷ ls) ms = let rest = total_append ls ms in omega arith

pub counted_append : (f : Line → ℕ) (ls ms : List Line) → counted f (ls ++ ms) ≡ counted f ls + counted f ms
unfolding counted
counted_append f [] ms = omega arith
counted_append f (l ∷ ls) ms = let rest = counted_append f ls ms in omega arith

pub defined_append : (j : ℕ) (ls ms : List Line) → defined j (ls ++ ms) ≡ defined j ls + defined j ms
unfolding defined
defined_append j [] ms = omega arith
defined_append j (l ∷ ls) ms = let rest = defined_append j ls ms in omega arith

module _ (place : Start → Place) where
  pub code_append :
      (m : ℕ) (ls ms : List Line) → code_from place m (ls ++ ms) ≡ code_from place m ls ++ code_from place (m + total ls) ms
  unfolding code_from total
  code_append m [] ms = ap (λ (i : ℕ). code_from place i ms) (omega arith)
  code_append m (l ∷ ls) ms =
      ap (λ (cs : List Instruction). line_code place m l ++ cs) (code_append (m + size_of l) ls ms)
      ∙ sym (append_assoc (line_code place m l) (code_from place (m + size_of l) ls) (code_from place (m + size_of l + total ls) ms))
      ∙ ap (λ (i : ℕ). (line_code place m l ++ code_from place (m + size_of l) ls) ++ code_from place i ms) (omega arith)

  pub people_append :
      (m : ℕ) (ls ms : List Line) (s : Net) → peopled place m (ls ++ ms) s ≡ peopled place (m + total ls) ms (peopled place m ls s)
  unfolding peopled total
  people_append m [] ms s = ap (λ (i : ℕ). peopled place i ms s) (omega arith)
  people_append m (l ∷ ls) ms s =
      let after : Net = placed place m l s in
      people_append (m + size_of l) ls ms after
      ∙ ap (λ (i : ℕ). peopled place i ms (peopled place (m + size_of l) ls after)) (omega arith)

-- ---- lines each of which uses names below k alone
abbrev pub UsesBelow : ℕ → Line → Type 0
UsesBelow k l = (j : ℕ) → uses_line j l ≡ true → j < k

pub either_holds : {P : Type 0} (a b : Bool) → (a ≡ true → P) → (b ≡ true → P) → choose a true b ≡ true → P
unfolding choose
either_holds true b f g h = f refl
either_holds false b f g h = g h

pub used_below : (k : ℕ) {ms : List Line} (ls : List Line) → Each (λ before. UsesBelow k) ms ls → (j : ℕ) → used j ls ≡ true → j < k
unfolding used
used_below k _ none j h = never h
used_below k _ (more {y = l} {ys = ls} u e) j h = either_holds (uses_line j l) (used j ls) (u j) (used_below k ls e j) h
