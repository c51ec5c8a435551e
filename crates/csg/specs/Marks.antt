-- Rules 3.5, 2.3 and 2.9: the mark of a tree over a block, and its colour at the centre of a voxel.
use Rattle.std.specs.Prelude.{ℕ, Bool, cond, List}
use Rattle.universe.specs.declared.Universe.{Universe}
use Rattle.universe.specs.declared.Block.{Block}
use Rattle.bintree.specs.declared.Colour.{Colour}
use Rattle.bintree.specs.declared.Colour.TheVariants.{White, Black}
use Rattle.csg.specs.Halfspace.{Mark, decided, undecided, row_at, mark_over, colour_at_centre}
use Rattle.csg.specs.Ball.{ball_at, ball_mark, ball_colour}
use Rattle.csg.specs.Surfaces.{Surfaces, Surface, halfspace, ball}
use Rattle.csg.specs.Tree.{Tree, Plain, colour, side, union_of, intersection_of, plain}

-- rule 3.5: one BLACK son makes a UNION BLACK, two WHITE ones make it WHITE; for an INTERSECTION the colours exchanged
unfoldable pub union_mark : Mark → Mark → Mark
union_mark (decided Black) b = decided Black
union_mark (decided White) b = b
union_mark undecided (decided Black) = decided Black
union_mark undecided (decided White) = undecided
union_mark undecided undecided = undecided

unfoldable pub intersection_mark : Mark → Mark → Mark
intersection_mark (decided White) b = decided White
intersection_mark (decided Black) b = b
intersection_mark undecided (decided White) = decided White
intersection_mark undecided (decided Black) = undecided
intersection_mark undecided undecided = undecided

-- at a centre every son has a colour
unfoldable pub union_colour : Colour → Colour → Colour
union_colour Black b = Black
union_colour White b = b

unfoldable pub intersection_colour : Colour → Colour → Colour
intersection_colour White b = White
intersection_colour Black b = b

-- the opposite colour, and the opposite mark: decided exactly where the mark is
abbrev pub opposite_colour : Colour → Colour
opposite_colour Black = White
opposite_colour White = Black

abbrev pub opposite_mark : Mark → Mark
opposite_mark (decided c) = decided (opposite_colour c)
opposite_mark undecided = undecided

-- the mark over a block, and the colour at a centre, of a surface as it is
unfoldable pub surface_mark : Surfaces → Surface → Block → Mark
surface_mark surfaces (halfspace i) b = mark_over (row_at surfaces.rows i) b
surface_mark surfaces (ball i) b = ball_mark (ball_at surfaces.balls i) b

unfoldable pub surface_colour : Surfaces → Universe → Surface → List ℕ → Colour
surface_colour surfaces u (halfspace i) v = colour_at_centre u (row_at surfaces.rows i) v
surface_colour surfaces u (ball i) v = ball_colour u (ball_at surfaces.balls i) v

-- and of a side of it, as it is or reversed: reversed it has the opposite mark and the opposite colour (rule 3.4)
unfoldable pub side_mark : Surfaces → Bool → Surface → Block → Mark
side_mark surfaces turned s b = cond turned (opposite_mark (surface_mark surfaces s b)) (surface_mark surfaces s b)

unfoldable pub side_colour : Surfaces → Universe → Bool → Surface → List ℕ → Colour
side_colour surfaces u turned s v =
    cond turned (opposite_colour (surface_colour surfaces u s v)) (surface_colour surfaces u s v)

unfoldable pub plain_mark : Surfaces → Plain → Block → Mark
plain_mark surfaces (colour c) b = decided c
plain_mark surfaces (side turned s) b = side_mark surfaces turned s b
plain_mark surfaces (union_of p q) b = union_mark (plain_mark surfaces p b) (plain_mark surfaces q b)
plain_mark surfaces (intersection_of p q) b = intersection_mark (plain_mark surfaces p b) (plain_mark surfaces q b)

unfoldable pub plain_colour : Surfaces → Universe → Plain → List ℕ → Colour
plain_colour surfaces u (colour c) v = c
plain_colour surfaces u (side turned s) v = side_colour surfaces u turned s v
plain_colour surfaces u (union_of p q) v = union_colour (plain_colour surfaces u p v) (plain_colour surfaces u q v)
plain_colour surfaces u (intersection_of p q) v =
    intersection_colour (plain_colour surfaces u p v) (plain_colour surfaces u q v)

-- the mark and the colour of a tree
abbrev pub tree_mark : Surfaces → Tree → Block → Mark
tree_mark surfaces t b = plain_mark surfaces (plain t) b

abbrev pub tree_colour : Surfaces → Universe → Tree → List ℕ → Colour
tree_colour surfaces u t v = plain_colour surfaces u (plain t) v
