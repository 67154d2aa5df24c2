use Rattle.std.proofs.Common.{rules, ◌∙◌, ap, sym, refl, ◌≡◌, ◌<◌, ℕ, List, [], ◌∷◌, ◌++◌, arith, length, Bool, true, false}
use Rattle.season.proofs.FigureLaws.{figures_fits, figures_end, figures_fit, figures_count, figures_gave}
use Rattle.season.proofs.figures.write_figures.Goals as goal

pub unwrap-n-requires : goal.unwrap-n-requires
unwrap-n-requires c =
    rw (figures_fits c.args.sums _ c.room-text.ensures _ c.figures_in_full.ensures.value) refl

pub slice_bounds-text-end : goal.slice_bounds-text-end
slice_bounds-text-end c =
    figures_fit c.args.sums _ c.room-text.ensures _ _ c.figures_in_full.ensures.out_after (figures_end c.args.sums _ c.room-text.ensures _ _ c.figures_in_full.ensures.value c.unwrap-n.ensures)

pub slice_bounds-copy_figures-end : goal.slice_bounds-copy_figures-end
slice_bounds-copy_figures-end c =
    figures_count c.args.sums _ c.room-text.ensures _ _ c.figures_in_full.ensures.out_after (figures_end c.args.sums _ c.room-text.ensures _ _ c.figures_in_full.ensures.value c.unwrap-n.ensures)

pub returns : goal.returns
returns c =
    figures_gave c.args.sums _ c.room-text.ensures _ _ c.figures_in_full.ensures.out_after (figures_end c.args.sums _ c.room-text.ensures _ _ c.figures_in_full.ensures.value c.unwrap-n.ensures) _ _ _ c.copy_figures.ensures
