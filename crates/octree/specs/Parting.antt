-- Rule 13.5: octrees and shapes of three axes with equal bits. Three halvings of a shape, along x, y and z, are eight
-- parts, in the order of the sons; a leaf j halvings inside stands for 8 >> j of them.
use Rattle.std.specs.Prelude.{ℕ, zero, suc}
use Rattle.bintree.specs.Shape.{Shape, leaf, halved}
use Rattle.bintree.specs.Parts.{colour_of}
use Rattle.octree.specs.Octree.{Octree, solid, parted}

-- the parts of a shape, which are a leaf's own colour where it is one
abbrev pub low_part : Shape → Shape
low_part (leaf c) = leaf c
low_part (halved a b) = a

abbrev pub high_part : Shape → Shape
high_part (leaf c) = leaf c
high_part (halved a b) = b

-- a cube of a shape, its eight parts taken as octrees
unfoldable pub cube_of : (Shape → Octree) → Shape → Octree
cube_of of (leaf c) = solid c
cube_of of (halved a b) =
    parted
    (of (low_part (low_part a)))
    (of (high_part (low_part a)))
    (of (low_part (high_part a)))
    (of (high_part (high_part a)))
    (of (low_part (low_part b)))
    (of (high_part (low_part b)))
    (of (low_part (high_part b)))
    (of (high_part (high_part b)))

-- the octree of a shape of at most 3n levels
unfoldable pub octree_of : ℕ → Shape → Octree
octree_of zero s = solid (colour_of s)
octree_of (suc n) s = cube_of (λ t. octree_of n t) s

-- the shape of an octree
unfoldable pub shape_of : Octree → Shape
shape_of (solid c) = leaf c
shape_of (parted a b c d e f g h) =
    halved
    (halved (halved (shape_of a) (shape_of b)) (halved (shape_of c) (shape_of d)))
    (halved (halved (shape_of e) (shape_of f)) (halved (shape_of g) (shape_of h)))
