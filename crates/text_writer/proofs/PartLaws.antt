-- Laws by which the parts of a text as they are written meet their definitions (`Printed.antt` of `sources`,
-- `NetSource.antt` of `read_back_law`). Assumes nothing.
use Prim.Native.Nat.{ℕ}
use mathlib.Core.Path.{◌≡◌, refl, sym, ap, ◌∙◌}
use mathlib.Core.List.{List, [], ◌∷◌, ◌++◌, append_assoc}
use borrow.Author.Tests.{eq-eqb, ne_eqb}
use Rattle.net.specs.Records.{address_of, row_at, node_at}
use Rattle.net.proofs.Laws.{choose_true, choose_false}
use Rattle.linking.specs.Source.{Line, Policy}
use Rattle.read_back.specs.NetSource.{listed, origin_rows_of, policy_of}
use Rattle.sources.specs.Printed.{grant_text, grants_text, row_text, rows_text, origin_row_text, node_text, nodes_text, policy_text}
use Rattle.sources.specs.Printed.{line_text, lines_text}
use Rattle.text.specs.Writer.{after}
use Rattle.text.specs.declared.writer.Writer.{Writer}
use Rattle.text_writer.specs.Types.{Net}
use Rattle.text_writer.proofs.ListLaws.{Numbered}

-- ---- rows
pub grants_numbered : Numbered grant_text grants_text
unfolding grants_text
grants_numbered = record { none = λ i. refl; more = λ i x xs. refl }

pub rows_numbered : Numbered row_text rows_text
unfolding rows_text
rows_numbered = record { none = λ i. refl; more = λ i x xs. refl }

pub origins_numbered : (i : ℕ) → Numbered (origin_row_text i) (node_text i)
unfolding node_text
origins_numbered i = record { none = λ j. refl; more = λ j x xs. refl }

pub nodes_numbered : Numbered (λ i. node_text i 0) nodes_text
unfolding nodes_text
nodes_numbered = record { none = λ i. refl; more = λ i x xs. refl }

-- by the format
module _ (w u : Writer ℕ) (s : Net) where
  pub policy_plain :
      s.format ≡ 1 → u ≡ after w (rows_text 0 (listed s.addresses (λ a. row_at (node_at s (address_of a)) (address_of 0))))
      → u ≡ after w (policy_text (policy_of s))
  unfolding policy_of policy_text
  policy_plain e p = p ∙ ap (λ (q : Policy). after w (policy_text q)) (sym (choose_true _ _ _ (eq-eqb s.format 1 e)))

  pub policy_by_origin :
      (s.format ≡ 1 → ⊥)
      → u ≡ after w (nodes_text 0 (listed s.addresses (λ a. origin_rows_of s.addresses (node_at s (address_of a)))))
      → u ≡ after w (policy_text (policy_of s))
  unfolding policy_of policy_text
  policy_by_origin n p = p ∙ ap (λ (q : Policy). after w (policy_text q)) (sym (choose_false _ _ _ (ne_eqb s.format 1 n)))

-- ---- lines, one after another
pub lines_none : lines_text [] ≡ []
unfolding lines_text
lines_none = refl

pub lines_both : (ls ms : List Line) → lines_text (ls ++ ms) ≡ lines_text ls ++ lines_text ms
unfolding lines_text
lines_both [] ms = refl
lines_both (l ∷ ls) ms =
    ap (λ (t : List ℕ). line_text l ++ t) (lines_both ls ms) ∙ sym (append_assoc (line_text l) (lines_text ls) (lines_text ms))
