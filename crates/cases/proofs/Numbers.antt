-- The cases of the numbers hold: both sides are computed and compared.
use mathlib.Core.Path.{refl}
use Rattle.lemmas.specs.Sums.{sum, product}
use Rattle.universe.specs.Rounds.{round, rounds}
use Rattle.universe.specs.Universe.{universe_refusal, equal_bits, bits_along, levels, order, axis_at, halvings, blocks_along, block_side}
use Rattle.universe.specs.Voxel.{window_refusal}
use Rattle.bintree.specs.Shape.{size}
use Rattle.bintree.specs.Reading.{read_leaf, with_high, read_halves, read_at, exactly, expression, expression_refusal}
use Rattle.bintree.specs.Counts.{volume_from, voxels_from}
use Rattle.bintree.specs.Verdicts.{first_frame, last_frame, voxels_in, verdict, numbers_answer}
use Rattle.cases.specs.Numbers.{NumbersHold}

pub numbers_hold : NumbersHold
unfolding
    sum product round rounds universe_refusal equal_bits bits_along levels order axis_at halvings blocks_along block_side window_refusal
    size read_leaf with_high read_halves read_at exactly expression expression_refusal
    volume_from voxels_from first_frame last_frame voxels_in verdict numbers_answer
numbers_hold = refl
