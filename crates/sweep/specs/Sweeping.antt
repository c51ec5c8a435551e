-- Rule 12.2 by structure: a shape laid over another, and a shape swept along an axis. That the swept shape is black
-- exactly below the black voxels is in proofs/Voxels.antt.
use Rattle.std.specs.Prelude.{ℕ, cond, List, [], ◌∷◌, eqb}
use Rattle.bintree.specs.declared.Colour.{Colour}
use Rattle.bintree.specs.declared.Colour.TheVariants.{White, Black}
use Rattle.bintree.specs.Shape.{Shape, leaf, halved}

-- black if one of two colours is
abbrev pub either : Colour → Colour → Colour
either Black c = Black
either White c = c

-- two shapes of one block, one laid over the other: black where one of them is
unfoldable pub over : Shape → Shape → Shape
over (leaf White) t = t
over (leaf Black) t = leaf Black
over (halved a b) (leaf White) = halved a b
over (halved a b) (leaf Black) = leaf Black
over (halved a b) (halved c d) = halved (over a c) (over b d)

-- a shape of a block whose levels halve the axes of the order in turn, swept along axis j: at a level of axis j the
-- halves are laid over each other, the other levels stay
unfoldable pub swept : List ℕ → ℕ → Shape → Shape
swept [] j s = s
swept (x ∷ order) j (leaf c) = leaf c
swept (x ∷ order) j (halved a b) =
    let low = swept order j a in
    let high = swept order j b in
    cond (eqb x j) (over low high) (halved low high)
