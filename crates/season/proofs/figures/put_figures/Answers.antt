use Rattle.std.proofs.Common.{rules, ◌∙◌, ap, sym, refl, ◌≡◌, ◌<◌, ℕ, List, [], ◌∷◌, ◌++◌, arith, length, Bool, true, false}
use Rattle.net.specs.Records.{address_of}
use Rattle.lines.specs.Words.{printed}
use Rattle.text.proofs.WriterLaws.{joined_step}
use Rattle.season.specs.Sums.{tally_at, no_tally, tally_line, figures_from}
use Rattle.season.proofs.FigureLaws.{lines_end}
use Rattle.season.proofs.figures.put_figures.Goals as goal

pub loop-a-preserved : goal.loop-a-preserved
unfolding tally_at no_tally
loop-a-preserved c =
    joined_step _ (λ (a : ℕ). printed (tally_line c.args.sums.runs (address_of a) (tally_at c.args.sums.tallies a) ∷ [])) _ _ c.loop-a.a c.loop-a.invariant c.put_line.ensures

pub returns : goal.returns
unfolding figures_from
returns c =
    lines_end _ _ (λ (a : ℕ). tally_line c.args.sums.runs (address_of a) (tally_at c.args.sums.tallies a) ∷ []) _ 16 c.loop-a.invariant (omega (arith, c.loop-a-test.false, c.loop-a.auto.a-end))
