-- The cases of the reports hold: both sides are computed and compared.
use mathlib.Core.Path.{refl}
use Rattle.lemmas.specs.Sums.{sum}
use Rattle.lemmas.specs.Grid.{put, grid, listed}
use Rattle.universe.specs.Lent.{overwritten}
use Rattle.universe.specs.Rounds.{round, rounds}
use Rattle.universe.specs.Universe.{universe_refusal, equal_bits, bits_along, levels, order, axis_at, halvings, blocks_along, block_side}
use Rattle.universe.specs.Voxel.{window_refusal, path_from}
use Rattle.bintree.specs.Shape.{size}
use Rattle.bintree.specs.Reading.{read_leaf, with_high, read_halves, read_at}
use Rattle.bintree.specs.Parts.{part, colour_at}
use Rattle.demands.specs.Voxels.{black_voxels_at}
use Rattle.report.specs.Lists.{with_first, list_from, list_of, list_refusal, sum_over}
use Rattle.report.specs.Reports.{frame_counts, total_voxels, report_answer, report_row}
use Rattle.cases.specs.Reports.{ReportsHold}

pub reports_hold : ReportsHold
unfolding
    sum put grid listed overwritten round rounds
    universe_refusal equal_bits bits_along levels order axis_at halvings blocks_along block_side window_refusal path_from
    size read_leaf with_high read_halves read_at part colour_at black_voxels_at
    with_first list_from list_of list_refusal sum_over frame_counts total_voxels report_answer report_row
reports_hold = refl
