-- What the reader of a whole text gives (`Lines.antt` of `notation`): policies of the format that the first line decides, and
-- lines in range, with at most four processes and sixteen tuples at each address. Assumes nothing.
use Prim.Native.Nat.{ℕ, zero, suc, ◌<◌, ◌≤◌}
use mathlib.Core.List.{List, [], ◌∷◌, ◌++◌}
use native.Mathlib.Omega.{arith}
use lib.ListN.{length}
use lib.Dec.{leb}
use borrow.Author.Tests.{ltb-true}
use Rattle.net.specs.Choice.{choose}
use Rattle.readers.specs.Reader.{Reader, pure, ◌>>=◌}
use Rattle.linking.specs.Source.{Line, definition, process, tuple, Policy, Source}
use Rattle.linking.specs.NodeCounts.{HasRoom}
use Rattle.linking.proofs.NodeCounts.{AllRoom, no_lines, more_lines}
use Rattle.notation.specs.Lines.{definition_line, process_line, tuple_line, placed_line, located_line, line}
use Rattle.notation.specs.Lines.{lines_after, lines, source}
use Rattle.notation.specs.Scopes.{scope_of}
use Rattle.rows.specs.OriginRows.{is_origin_row}
use Rattle.rows.specs.Policies.{policy}
use Rattle.texts.specs.Types.{Locality, Scope}
use Rattle.texts.specs.TextClaims.{count}
use Rattle.texts.proofs.Gives.{Fine, Gives, gives_pure, gives_then, gives_and, gives_choice, gives_require}
use Rattle.texts.proofs.Gives.{gives_look, gives_byte, gives_word}
use Rattle.texts.proofs.Fields.{gives_address, TupleRead, gives_tuple}
use Rattle.texts.proofs.Terms.{Fit, gives_named, gives_process}
use Rattle.texts.proofs.Each.{Each, none, each_append}
use Rattle.texts.proofs.Rows.{PolicyOk}
use Rattle.texts.proofs.OriginRows.{gives_policy}

-- ---- one line
unfoldable pub LineOk : Scope → Line → Type 0
LineOk x (definition k p) = (k < 512) × Fit x p
LineOk x (process a p) = (a.0 < x.addresses) × Fit x p
LineOk x (tuple a t) = (a.0 < x.addresses) × TupleRead x.addresses t

module _ (x : Scope) (few : x.addresses ≤ 16) where
  -- a line read after those of `ls`
  abbrev Next : List Line → Line → Type 0
  Next ls l = LineOk x l × HasRoom ls l

  module _ (ls : List Line) where
    gives_definition_line : Gives (definition_line x) (Next ls)
    unfolding definition_line LineOk HasRoom
    gives_definition_line =
        gives_then gives_named (λ k h. gives_and (gives_word _) (λ _ _. gives_then (gives_process x) (λ p ok.
        gives_and (gives_byte 10) (λ _ _. gives_pure _ _ ((h, ok), tt)))))

    module _ (a : Locality) (h : a.0 < x.addresses) where
      gives_process_line : Gives (process_line x ls a) (Next ls)
      unfolding process_line LineOk HasRoom
      gives_process_line =
          gives_and (gives_require _ 22 count) (λ _ e. gives_then (gives_process x) (λ p ok.
          gives_and (gives_byte 10) (λ _ _. gives_pure _ _ ((h, ok), (omega arith, ltb-true _ 4 e)))))

      gives_tuple_line : Gives (tuple_line x ls a) (Next ls)
      unfolding tuple_line LineOk HasRoom
      gives_tuple_line =
          gives_and (gives_require _ 22 count) (λ _ e. gives_then (gives_tuple x.addresses) (λ t ok.
          gives_and (gives_byte 10) (λ _ _. gives_pure _ _ ((h, ok), (omega arith, ltb-true _ 16 e)))))

    gives_line : Gives (line x ls) (Next ls)
    unfolding line located_line placed_line
    gives_line =
        gives_look _ _ (λ b. gives_choice _ _ _ _ gives_definition_line
        (gives_then (gives_address x.addresses) (λ a h. gives_and (gives_word _) (λ _ _.
        gives_look _ _ (λ c. gives_choice _ _ _ _ (gives_tuple_line a h) (gives_process_line a h))))))

  -- ---- all lines
  abbrev LinesOk : List Line → Type 0
  LinesOk ls = Each (LineOk x) ls × AllRoom ls

  gives_lines_after : (k : ℕ) (ls : List Line) → LinesOk ls → Gives (lines_after k x ls) LinesOk
  unfolding lines_after
  gives_lines_after zero ls ok = gives_pure _ ls ok
  gives_lines_after (suc k) ls ok = record {
    run = λ s p.
        (gives_choice LinesOk (leb (length s) p) _ _ (gives_pure _ ls ok)
        (gives_then (gives_line ls) (λ l h.
        gives_lines_after k (ls ++ (l ∷ [])) (each_append ls l ok.0 h.0, more_lines ls l ok.1 h.1)))
        ).run s p;
  }

  gives_lines : Gives (lines x) LinesOk
  unfolding lines
  gives_lines = record { run = λ s p. (gives_lines_after (length s) [] (none, no_lines)).run s p }

-- ---- the whole text, of format f
pub record SourceOk (f : ℕ) (x : Source) : Type 0 where
  pub policy_ok : PolicyOk f x.policy
  pub lines_ok : Each (LineOk (scope_of x.policy)) x.lines
  pub room : AllRoom x.lines

-- what follows the policies
unfoldable rest : Policy → Reader Source
rest x = do
  ls ← lines (scope_of x)
  pure (record { policy = x; lines = ls })

gives_rest : (f : ℕ) (x : Policy) → PolicyOk f x → Gives (rest x) (SourceOk f)
unfolding rest scope_of
gives_rest f x ok =
    gives_then (gives_lines (scope_of x) ok.few) (λ ls e. gives_pure _ _ (record { policy_ok = ok; lines_ok = e.0; room = e.1 }))

-- the first line decides
pub source_fine : (s : List ℕ) (p : ℕ) → Fine (SourceOk (choose (is_origin_row s p) 2 1)) (source s p)
unfolding source policy rest ◌>>=◌
source_fine s p = (gives_then {f = rest} (gives_policy (is_origin_row s p)) (gives_rest _)).run s p
