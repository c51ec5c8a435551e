-- Rule 14.2, block by block: how many voxels of a block are black in a colouring and lie in a window of frames.
use Rattle.std.specs.Prelude.{ℕ}
use Rattle.universe.specs.declared.Block.{Block}
use Rattle.demands.specs.Voxels.{Colouring}
use Rattle.masks.specs.Counts.{black_in}
use Rattle.masks.specs.Windows.{windowed}

unfoldable pub seen_in : ℕ → ℕ → Colouring → Block → ℕ
seen_in first last colours b = black_in b (windowed b.universe first last colours)
