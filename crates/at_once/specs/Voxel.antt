-- The colour of one voxel as a digit, 1 where it is black: what the surface that a word names, a leaf and the trees
-- that are carried ask there. A voxel is a block with no levels left, whose word has one digit; there are tables of
-- halvings, and none is looked at.
use Rattle.std.specs.Prelude.{ℕ, List}
use Rattle.csg.specs.Surfaces.{Surfaces}
use Rattle.at_once.specs.Words.{SurfaceWord, LeafWord, TreesWord}

pub record VoxelSurface (surfaces : Surfaces) (axes : ℕ) (low : List ℕ) (name : ℕ) : Type 0 where
  pub table : List ℕ
  pub lengths : List ℕ
  pub word : SurfaceWord surfaces axes table lengths low 0 name

pub record VoxelLeaf (surfaces : Surfaces) (axes : ℕ) (low : List ℕ) (code : ℕ) : Type 0 where
  pub table : List ℕ
  pub lengths : List ℕ
  pub word : LeafWord surfaces axes table lengths low 0 code

pub record VoxelTrees (surfaces : Surfaces) (axes : ℕ) (low codes : List ℕ) (from count : ℕ) : Type 0 where
  pub table : List ℕ
  pub lengths : List ℕ
  pub word : TreesWord surfaces axes table lengths low 0 codes from count
