-- What a text is, said by printing (document 01, "The planners' notation"; demand 2): a text is accepted with a net
-- exactly when it is what a well-formed source prints and the net is what that source is compiled to.
use Rattle.std.specs.Prelude.{ℕ, ◌<◌, ◌≡◌, true, List, ◌∷◌, ◌++◌}
use Rattle.terms.specs.Terms.{Process}
use Rattle.terms.specs.Numbering.{called, start_of}
use Rattle.linking.specs.Source.{Line, definition, Source}
use Rattle.linking.specs.Names.{names_right}
use Rattle.linking.specs.Compiled.{total, place_in, compiled}
use Rattle.notation.specs.Text.{read_of, accepted}
use Rattle.sources.specs.Types.{Net}
use Rattle.sources.specs.Printed.{printed}
use Rattle.sources.specs.WellFormed.{WellFormed}

-- a well-formed source that prints the text and is compiled to the net
pub record SourceOf (text : List ℕ) (net : Net) : Type 0 where
  pub source : Source
  pub formed : WellFormed source
  pub prints : printed source ≡ text
  pub compiles : compiled source ≡ net

-- a text is accepted with a net exactly when there is such a source
unfoldable pub TextIsSource : Type 0
TextIsSource =
    (text : List ℕ) (net : Net)
    → (read_of text ≡ accepted net → SourceOf text net) × (SourceOf text net → read_of text ≡ accepted net)

-- no text is the printing of two well-formed sources
unfoldable pub OneSource : Type 0
OneSource = (x y : Source) → WellFormed x → WellFormed y → printed x ≡ printed y → x ≡ y

-- "a name stands for the first instruction of its body": the one numbered behind those of the lines before; where the body
-- is a bare name, for what that name stands for
unfoldable pub NameStands : Type 0
NameStands =
    (ls ms : List Line) (k : ℕ) (p : Process) → k < 512 → names_right (ls ++ (definition k p ∷ ms)) ≡ true
    → place_in (ls ++ (definition k p ∷ ms)) (called k) ≡ place_in (ls ++ (definition k p ∷ ms)) (start_of (total ls) p)
