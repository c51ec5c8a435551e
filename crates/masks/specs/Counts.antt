-- Rule 4.8, of one block: its black voxels.
use Rattle.std.specs.Prelude.{ℕ, ◌+◌}
use Rattle.lemmas.specs.Grid.{grid}
use Rattle.universe.specs.declared.Block.{Block}
use Rattle.universe.specs.Block.{low_along, length_along}
use Rattle.demands.specs.Voxels.{Colouring, count_black}

-- how many voxels of a block are black, counted one by one from its low corner on
unfoldable pub black_in : Block → Colouring → ℕ
black_in b colours =
    grid b.universe.axes (length_along b) (λ p. count_black colours (λ i. low_along b i + p i))
