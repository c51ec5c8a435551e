-- `fill` adds the black voxels of a tree and tells where it ends. Each answer is a law of proofs/Filling.antt.
use Rattle.report.proofs.Filling.{fill_laws}
use Rattle.report.proofs.row.+fill.Goals as goal

pub bounds-expressions-at : goal.bounds-expressions-at
bounds-expressions-at t c = search fill_laws

pub bits_below-below-requires : goal.bits_below-below-requires
bits_below-below-requires t c = search fill_laws

pub high_frame-later-requires-clause-below_le_bits : goal.high_frame-later-requires-clause-below_le_bits
high_frame-later-requires-clause-below_le_bits t c = search fill_laws

pub high_frame-later-requires-clause-bits_bound : goal.high_frame-later-requires-clause-bits_bound
high_frame-later-requires-clause-bits_bound t c = search fill_laws

pub overflow_sub-left : goal.overflow_sub-left
overflow_sub-left t c = search fill_laws

pub fill-middle-requires : goal.fill-middle-requires
fill-middle-requires t c = search fill_laws

pub overflow_sub-left-then-symbol-eq40 : goal.overflow_sub-left-then-symbol-eq40
overflow_sub-left-then-symbol-eq40 t c = search fill_laws

pub fill-requires : goal.fill-requires
fill-requires t c = search fill_laws

pub returns-then-symbol-eq40 : goal.returns-then-symbol-eq40
returns-then-symbol-eq40 t c = search fill_laws

pub returns-then-symbol-eq87 : goal.returns-then-symbol-eq87
returns-then-symbol-eq87 t c = search fill_laws

pub overflow_sub-left-2 : goal.overflow_sub-left-2
overflow_sub-left-2 t c = search fill_laws

pub add_block-requires-clause-bits_bound : goal.add_block-requires-clause-bits_bound
add_block-requires-clause-bits_bound t c = search fill_laws

pub add_block-requires-clause-rest_le_most_levels : goal.add_block-requires-clause-rest_le_most_levels
add_block-requires-clause-rest_le_most_levels t c = search fill_laws

pub add_block-requires-clause-takes : goal.add_block-requires-clause-takes
add_block-requires-clause-takes t c = search fill_laws

pub overflow_add-result-2 : goal.overflow_add-result-2
overflow_add-result-2 t c = search fill_laws

pub returns : goal.returns
returns t c = search fill_laws
