-- `add_block` adds a black block's voxels at its frames in the window.
use Rattle.report.proofs.Rows.{block_laws}
use Rattle.report.proofs.row.add_block.Goals as goal

pub overflow_shl-bits : goal.overflow_shl-bits
overflow_shl-bits c = search block_laws

pub returns : goal.returns
returns c = search block_laws
