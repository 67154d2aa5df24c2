-- A text is accepted with a net exactly when a well-formed source prints it and is compiled to the net: the claims of
-- `specs/SourceClaims.antt`. Assumes nothing.
use Prim.Native.Nat.{ℕ}
use mathlib.Core.Path.{◌≡◌, refl, ap, ◌∙◌}
use mathlib.Core.Bool.{Bool, true, false}
use mathlib.Core.List.{List}
use native.Mathlib.Omega.{arith}
use Rattle.net.specs.Choice.{choose, in_range}
use Rattle.net.proofs.Laws.{choose_true, in_range_law, in_range_low, in_range_high}
use Rattle.keeping.specs.Admission.{admits}
use Rattle.readers.specs.Reader.{Parsed, got, fault}
use Rattle.linking.specs.Source.{Source}
use Rattle.notation.specs.Lines.{source}
use Rattle.linking.specs.Names.{names_right}
use Rattle.linking.specs.Compiled.{total, compiled}
use Rattle.notation.specs.Text.{refused, accepted, judged_source, judged, read_of}
use Rattle.sources.specs.Types.{Net, Verdict, Opened}
use Rattle.sources.specs.Printed.{printed}
use Rattle.sources.specs.WellFormed.{WellFormed}
use Rattle.sources.specs.SourceClaims.{SourceOf, TextIsSource, OneSource}
use Rattle.sources.proofs.Lines.{Formed, only_source, back_source}

-- ---- what is accepted
refused_not : {C : Type 0} (n : ℕ) (net : Net) → refused n ≡ accepted net → C
unfolding refused accepted
refused_not n net e =
    let d : Verdict.Refused n ≡ Verdict.Accepted = ap (λ (r : Opened). r.answer) e in
    let z : ◌≡◌ {A = ℕ} 0 1 = cc d in absurd (omega arith)

same_net : (x net : Net) → accepted x ≡ accepted net → x ≡ net
unfolding accepted
same_net x net e = ap (λ (r : Opened). r.net) e

-- a test that came out well
passed : (b : Bool) (x : Opened) (n : ℕ) (net : Net) → choose b x (refused n) ≡ accepted net → (b ≡ true) × (x ≡ accepted net)
unfolding choose
passed true x n net e = (refl, e)
passed false x n net e = refused_not n net e

-- ---- a source that has been read to its end
judged_only : (text : List ℕ) (net : Net) (x : Source) → Formed x → printed x ≡ text → judged_source x ≡ accepted net → SourceOf text net
unfolding judged_source
judged_only text net x f e h =
    let (names, rest) = passed (names_right x.lines) _ 33 net h in
    let (size, last) = passed (in_range 1 (total x.lines) 512) _ 22 net rest in
    let (kept, is) = passed (admits (compiled x)) _ 30 net last in
    record {
      source = x;
      formed = record {
        policies = f.policies;
        each_line = f.each_line;
        names = names;
        least = in_range_low 1 (total x.lines) 512 size;
        most = in_range_high 1 (total x.lines) 512 size;
        admitted = kept;
      };
      prints = e;
      compiles = same_net (compiled x) net is;
    }

judged_back : (x : Source) → WellFormed x → judged_source x ≡ accepted (compiled x)
unfolding judged_source
judged_back x w =
    choose_true _ _ _ w.names ∙ choose_true _ _ _ (in_range_law 1 (total x.lines) 512 w.least w.most) ∙ choose_true _ _ _ w.admitted

formed_of : (x : Source) → WellFormed x → Formed x
formed_of x w = record { policies = w.policies; each_line = w.each_line }

read_only : (text : List ℕ) (net : Net) → read_of text ≡ accepted net → SourceOf text net
unfolding read_of judged
read_only text net e = go (source text 0) refl e
  where
    go : (o : Parsed Source) → source text 0 ≡ o → judged o ≡ accepted net → SourceOf text net
    go (fault f) d h = refused_not f.number net h
    go (got x q) d h = let (f, g) = only_source text x q d in judged_only text net x f g h

read_back_law : (text : List ℕ) (net : Net) → SourceOf text net → read_of text ≡ accepted net
unfolding read_of judged
read_back_law text net y =
    ap judged (back_source text y.source (formed_of y.source y.formed) y.prints)
    ∙ judged_back y.source y.formed
    ∙ ap accepted y.compiles

-- ---- the claims
pub text_is_source : TextIsSource
unfolding TextIsSource
text_is_source text net = (read_only text net, read_back_law text net)

pub one_source : OneSource
unfolding OneSource
one_source x y f g e =
    let a = back_source (printed y) x (formed_of x f) e in
    let b = back_source (printed y) y (formed_of y g) refl in cc
