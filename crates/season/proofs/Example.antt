-- The claim of `specs/Example.antt`, by computing. Assumes nothing.
use mathlib.Core.Path.{refl}
use Rattle.net.specs.Choice.{choose, both, fold}
use Rattle.net.specs.Records.{node_at, with_node, with_counts, empty_net}
use Rattle.text.specs.Bytes.{bytes}
use Rattle.text.specs.Decimal.{digit, digits, decimal}
use Rattle.text.specs.Joined.{joined}
use Rattle.step.specs.Pick.{host_of}
use Rattle.lines.specs.Words.{word_text, spaced, line_text, printed}
use Rattle.season.specs.Fractions.{fraction, euclid, greatest_divisor, divided_by, lowest, larger, against, considered}
use Rattle.season.specs.Fractions.{fraction_at, best_of}
use Rattle.season.specs.Season.{tallied, counts, performs, picks_at, performed_at, share_at, left_in, left_at, summed, all_picks}
use Rattle.season.specs.Season.{all_performed, all_left, share_over, mean_over, shares_at, best_at, fraction_word, share_word}
use Rattle.season.specs.Season.{best_word, share_line, figures_of}
use Rattle.season.specs.Example.{holding, three_left, made_with, five_runs, PaperLines}

pub paper_lines : PaperLines
unfolding choose both fold node_at with_node with_counts empty_net bytes digit digits decimal joined host_of word_text spaced line_text printed fraction euclid greatest_divisor divided_by lowest larger against considered fraction_at best_of tallied counts performs picks_at performed_at share_at left_in left_at summed all_picks all_performed all_left share_over mean_over shares_at best_at fraction_word share_word best_word share_line figures_of holding three_left made_with five_runs PaperLines
paper_lines = refl
