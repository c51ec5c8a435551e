-- The digit of a voxel: a halfspace's is the test of its value at the centre, a ball's the test of the distance; and a block with no levels left is a voxel,
-- into which the trees are carried.
use Prim.Native.Nat.{ℕ, zero, suc, ◌+◌, ◌/◌, ◌≤◌, ◌<◌}
use mathlib.Core.Path.{◌≡◌, refl, sym, ap, ap₂, ◌∙◌}
use mathlib.Core.Bool.{false}
use mathlib.Core.List.{List}
use native.Mathlib.Omega.{arith}
use lib.IntN.{ℤ, pos}
use lib.ListN.{get_or}
use lib.Signed.{le_z}
use Rattle.lemmas.specs.Grid.{count}
use Rattle.lemmas.proofs.Machine.{near_call}
use Rattle.csg.specs.Halfspace.{row_at, row_count, centre_value}
use Rattle.csg.specs.Ball.{ball_colour}
use Rattle.csg.specs.Surfaces.{Surfaces, halfspace}
use Rattle.csg.specs.Tree.{Plain}
use Rattle.csg.specs.Marks.{surface_colour}
use Rattle.convert.specs.Blocks.{block_left}
use Rattle.pruned.specs.Left.{all_colour}
use Rattle.pruned.specs.Nodes.{is_join}
use Rattle.pruned.proofs.Moving.{held}
use Rattle.masks.specs.Block.{block_mask}
use Rattle.masks.specs.Leaves.{row_step}
use Rattle.masks.proofs.Leaves.{row_mask_voxel, ball_voxel}
use Rattle.masks.proofs.Limits.{value_few}
use Rattle.masks.proofs.Trees.{surface_halfspace}
use Rattle.at_once.specs.Words.{WordBlock, word_block, BallOver, first_value}
use Rattle.at_once.specs.Voxel.{VoxelSurface, VoxelLeaf, VoxelTrees}
use Rattle.at_once.specs.Counting.{BlockJob, colours_of}
use Rattle.at_once.proofs.RowValues.{first_centre}
use Rattle.at_once.proofs.WordBlocks.{taken, levels_left, first_voxel, within}
use Rattle.at_once.proofs.LeafWords.{side_job}
use Rattle.at_once.proofs.TreeWords.{Going, leaf_job}
use Rattle.at_once.proofs.Jobs.{trees_job, trees_are}

-- a halfspace by its value
pub row_digit : {surfaces : Surfaces} {axes : ℕ} {table lengths low : List ℕ} (w : WordBlock surfaces axes table lengths low 0)
    (i : ℕ) (l : i < row_count surfaces.rows) {v : ℤ} → v ≡ first_value (row_at surfaces.rows i) low →
    {r : ℕ} → r ≡ count (le_z (pos 0) (held v)) → r ≡ block_mask (surface_colour surfaces w.universe (halfspace i)) 0 (word_block w)
row_digit {surfaces} {low = low} w i l e p =
    let u = w.universe in
    let h = row_at surfaces.rows i in
    let near = near_call {x = centre_value u h low} (e ∙ first_centre u (taken w).few_axes h (within w i l) low)
    (record { same = refl; size = value_few u (taken w) h (within w i l) low (first_voxel w) }) tt in
    p
    ∙ ap (λ (z : ℤ). count (le_z (pos 0) z)) near.same
    ∙ sym (row_mask_voxel (centre_value u h low) (row_step u h))
    ∙ sym (surface_halfspace surfaces i 0 (word_block w) (levels_left w))

-- a ball by the distance
pub ball_digit : {places : ℕ} {table lengths : List ℕ} {offs : List ℤ} {distance most : ℤ} (over : BallOver places table lengths 0 offs distance most) →
    {r : ℕ} → r ≡ count (le_z distance most) → r ≡ block_mask (ball_colour over.block.universe over.ball) 0 over.block
ball_digit over p = p ∙ ap₂ (λ (x y : ℤ). count (le_z x y)) over.distance_is over.most_is ∙ sym (ball_voxel over.ball over.block)

-- the surface of a side
abbrev pub voxel_side : {surfaces : Surfaces} {axes : ℕ} {low : List ℕ} {code : ℕ} (job : VoxelLeaf surfaces axes low code) → 512 ≤ code →
    VoxelSurface surfaces axes low (code / 2)
voxel_side job l = record { table = job.table; lengths = job.lengths; word = side_job job.word l }

-- the next leaf of the trees
abbrev pub voxel_leaf : {surfaces : Surfaces} {axes : ℕ} {low codes : List ℕ} {from count : ℕ} (job : VoxelTrees surfaces axes low codes from count)
    {word : Plain → ℕ} {digits : List ℕ} {pending i : ℕ} → Going word job.word digits pending i → i < from + count →
    is_join (get_or codes i 0) ≡ false → VoxelLeaf surfaces axes low (get_or codes i 0)
voxel_leaf job g h o = record { table = job.table; lengths = job.lengths; word = leaf_job job.word g h o }

-- ---- a block with no levels left
module _ {surfaces : Surfaces} {axes : ℕ} {table lengths low side codes : List ℕ} {from count times : ℕ} where
  pub voxel_trees : (left : ℕ) → left ≡ 0 → BlockJob surfaces axes table lengths low side left codes from count times →
      VoxelTrees surfaces axes low codes from count
  voxel_trees zero z job = record { table = table; lengths = lengths; word = trees_job job (omega arith) }
  voxel_trees (suc n) z job = absurd (omega arith)

  pub voxel_are : (left : ℕ) → left ≡ 0 → (job : BlockJob surfaces axes table lengths low side left codes from count times) {r : ℕ} →
      ((j : VoxelTrees surfaces axes low codes from count) →
      r ≡ block_mask (all_colour surfaces j.word.block.universe j.word.carried.trees) 0 (word_block j.word.block)) →
      r ≡ block_mask (colours_of job) left (block_left job.at.universe left low)
  voxel_are zero z job f = trees_are job (omega arith) (λ j. f (record { table = table; lengths = lengths; word = j }))
  voxel_are (suc n) z job f = absurd (omega arith)
